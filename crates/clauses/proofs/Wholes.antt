-- The clauses of a whole and its parts hold exactly if the whole is what its parts make it: all of them, or some; and they have no other
-- variables. Said of any variables, so that it serves every file of such clauses. Assumes nothing.
use Prim.Native.Nat.{ℕ}
use mathlib.Core.Bool.{Bool, true, false, not, ◌&&◌, ◌||◌, beq, and-true, or-true}
use mathlib.Core.List.{List, [], ◌∷◌, ◌++◌, map}
use mathlib.Core.Logic.{◌↔◌}
use mathlib.Core.Path.{◌≡◌, refl, sym, ◌∙◌, ap, ap₂}
use lib.Dec.{T, eqb}
use Rattle.reply.proofs.Every.{Every, every_append, every_map}
use Rattle.clauses.specs.Cnf.{Literal, is, is_not, variable_of, Assignment, holds, some_holds, all_hold}
use Rattle.clauses.specs.Wholes.{all_parts, some_parts}
use Rattle.clauses.proofs.Equations.{every_true, some_true}
use Rattle.clauses.proofs.Items.{Within, Over}
use Rattle.clauses.proofs.ClauseLists.{tests_whether, all_hold_append}

-- "One-way clauses, from parts to whole, in place of equivalences: then a C may be true with no ground." Here 1 is the whole and true, and its
-- only part 2 is not.
no_C_without_ground : all_hold (eqb 1) (some_parts 1 (2 ∷ [])) ≡ false
unfolding some_parts all_hold some_holds holds
no_C_without_ground = refl

no_D_without_ground : all_hold (eqb 1) (all_parts 1 (2 ∷ [])) ≡ false
unfolding all_parts all_hold some_holds holds
no_D_without_ground = refl

-- The whole is what its parts make it. All parts are true; also if there is none, where `every_true` fails.
every : Assignment → List ℕ → Bool
every α [] = true
every α (q ∷ qs) = α q && every α qs

every_every_true : (α : Assignment) (q : ℕ) (qs : List ℕ) → every α (q ∷ qs) ≡ every_true α (q ∷ qs)
unfolding every every_true
every_every_true α q [] = and-true (α q)
every_every_true α q (r ∷ qs) = ap (λ (b : Bool). α q && b) (every_every_true α r qs)

parts_implied : (α : Assignment) (w : ℕ) (qs : List ℕ) → all_hold α (map (λ q. is_not w ∷ is q ∷ []) qs) ≡ (not (α w) || every α qs)
unfolding all_hold some_holds holds every
parts_implied α w [] = sym (or-true (not (α w)))
parts_implied α w (q ∷ qs) = rw (parts_implied α w qs) (go (α w) (α q) (every α qs))
  where
    go : (w q qs : Bool) → ((not w || (q || false)) && (not w || qs)) ≡ (not w || q && qs)
    go true true qs = refl
    go true false qs = refl
    go false q qs = refl

some_missing_lem : (α : Assignment) (qs : List ℕ) → some_holds α (map is_not qs) ≡ not (every α qs)
unfolding some_holds holds every
some_missing_lem α [] = refl
some_missing_lem α (q ∷ qs) = rw (some_missing_lem α qs) (go (α q) (every α qs))
  where
    go : (q qs : Bool) → (not q || not qs) ≡ not (q && qs)
    go true qs = refl
    go false qs = refl

-- The whole is true exactly if there are parts and all are true.
pub all_parts_exactly : (α : Assignment) (w : ℕ) (qs : List ℕ) → T (all_hold α (all_parts w qs)) ↔ (α w ≡ every_true α qs)
unfolding all_parts every_true all_hold some_holds holds
all_parts_exactly α w [] = tests_whether (go (α w))
  where
    go : (w : Bool) → ((not w || false) && true) ≡ beq w false
    go true = refl
    go false = refl
all_parts_exactly α w (q ∷ qs) =
    tests_whether
    (all_hold_append α (map (λ q'. is_not w ∷ is q' ∷ []) (q ∷ qs)) ((is w ∷ map is_not (q ∷ qs)) ∷ [])
    ∙ ap₂ (λ (a b : Bool). a && ((α w || b) && true)) (parts_implied α w (q ∷ qs)) (some_missing_lem α (q ∷ qs))
    ∙ go (α w) (every α (q ∷ qs))
    ∙ ap (beq (α w)) (every_every_true α q qs))
  where
    go : (w qs : Bool) → ((not w || qs) && ((w || not qs) && true)) ≡ beq w qs
    go true true = refl
    go true false = refl
    go false true = refl
    go false false = refl

-- Some part.
whole_implied : (α : Assignment) (w : ℕ) (qs : List ℕ) → all_hold α (map (λ q. is w ∷ is_not q ∷ []) qs) ≡ (α w || not (some_true α qs))
unfolding all_hold some_holds holds some_true
whole_implied α w [] = sym (or-true (α w))
whole_implied α w (q ∷ qs) = rw (whole_implied α w qs) (go (α w) (α q) (some_true α qs))
  where
    go : (w q qs : Bool) → ((w || (not q || false)) && (w || not qs)) ≡ (w || not (q || qs))
    go true q qs = refl
    go false true qs = refl
    go false false qs = refl

some_present : (α : Assignment) (qs : List ℕ) → some_holds α (map is qs) ≡ some_true α qs
unfolding some_holds holds some_true
some_present α [] = refl
some_present α (q ∷ qs) = rw (some_present α qs)

-- The whole is true exactly if some part is.
pub some_parts_exactly : (α : Assignment) (w : ℕ) (qs : List ℕ) → T (all_hold α (some_parts w qs)) ↔ (α w ≡ some_true α qs)
unfolding some_parts all_hold some_holds holds
some_parts_exactly α w qs =
    tests_whether
    (all_hold_append α (map (λ q. is w ∷ is_not q ∷ []) qs) ((is_not w ∷ map is qs) ∷ [])
    ∙ ap₂ (λ (a b : Bool). a && ((not (α w) || b) && true)) (whole_implied α w qs) (some_present α qs)
    ∙ go (α w) (some_true α qs))
  where
    go : (w qs : Bool) → ((w || not qs) && ((not w || qs) && true)) ≡ beq w qs
    go true true = refl
    go true false = refl
    go false true = refl
    go false false = refl

-- A clause of one variable.
pub unit_exactly : (α : Assignment) (v : ℕ) → T (all_hold α ((is v ∷ []) ∷ [])) ↔ (α v ≡ true)
unfolding all_hold some_holds holds
unit_exactly α v = tests_whether (go (α v))
  where
    go : (v : Bool) → ((v || false) && true) ≡ beq v true
    go true = refl
    go false = refl

-- The whole and its parts lie within; so do the clauses that tie them, whichever sign each has.
module _ (top whole : ℕ) (w : Within top whole) (parts : List ℕ) (ws : Every (Within top) parts) where
  tied_over :
      (yes' no' : ℕ → Literal) → ((v : ℕ) → Within top v → Within top (variable_of (yes' v))) →
      ((v : ℕ) → Within top v → Within top (variable_of (no' v))) →
      Every (Over top) (map (λ q. no' whole ∷ yes' q ∷ []) parts ++ ((yes' whole ∷ map no' parts) ∷ []))
  tied_over yes' no' y n =
      every_append (Over top) (map (λ q. no' whole ∷ yes' q ∷ []) parts) ((yes' whole ∷ map no' parts) ∷ [])
      (every_map (Within top) (Over top) (λ q. no' whole ∷ yes' q ∷ []) (λ q v. (n whole w, (y q v, tt))) parts ws)
      ((y whole w, every_map (Within top) (λ l. Within top (variable_of l)) no' n parts ws), tt)

  pub some_parts_over : Every (Over top) (some_parts whole parts)
  unfolding some_parts
  some_parts_over = tied_over is_not is (λ v h. h) (λ v h. h)

pub all_parts_over : (top whole : ℕ) → Within top whole → (parts : List ℕ) → Every (Within top) parts → Every (Over top) (all_parts whole parts)
unfolding all_parts
all_parts_over top whole w [] ws = ((w, tt), tt)
all_parts_over top whole w (q ∷ qs) ws = tied_over top whole w (q ∷ qs) ws is is_not (λ v h. h) (λ v h. h)
