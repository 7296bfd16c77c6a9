-- What the clauses say, as equations between truth values: the rank comparison bit by bit, and C and D node by node.
use Prim.Native.Nat.{ℕ, zero, suc, ◌<◌}
use mathlib.Core.Bool.{Bool, true, false, not, ◌&&◌, ◌||◌, beq}
use mathlib.Core.List.{List, [], ◌∷◌, Memᴰ}
use mathlib.Core.Logic.{◌≢◌}
use mathlib.Core.Path.{◌≡◌}
use Rattle.term.specs.Tables.{rank_bits}
use Rattle.term.specs.Term.{size}
use Rattle.book.specs.Book.{Book, Rule, symbols}
use Rattle.clauses.specs.Cnf.{Assignment}
use Rattle.clauses.specs.Numbering.{bit, G, first_base, base_after}
use Rattle.clauses.specs.Blocks.{Numbered, subterms, Setting, CAt, DAt, parts_of_d, parts_of_c, some_identical}

-- All parts are true, and there is one.
unfoldable pub every_true : Assignment → List ℕ → Bool
every_true α [] = false
every_true α (q ∷ []) = α q
every_true α (q ∷ r ∷ qs) = α q && every_true α (r ∷ qs)

-- Some part is true.
unfoldable pub some_true : Assignment → List ℕ → Bool
some_true α [] = false
some_true α (q ∷ qs) = α q || some_true α qs

-- The low j bits of f are the larger number.
unfoldable pub low_bits : (n k : ℕ) → Assignment → (f g j : ℕ) → Bool
low_bits n k α f g zero = false
low_bits n k α f g (suc b) = α (G n k f g (suc b))

pub record PairEquations (n k : ℕ) (α : Assignment) : Type 0 where
  pub larger :
      (f g b : ℕ) → f < n → g < n → f ≢ g → b < k →
      α (G n k f g (suc b)) ≡ (α (bit k f b) && not (α (bit k g b)) || beq (α (bit k f b)) (α (bit k g b)) && low_bits n k α f g b)

pub record NodeEquations (c : Setting) (α : Assignment) (s t : Numbered) : Type 0 where
  pub root : α (DAt c s.node t.node) ≡ every_true α (parts_of_d c s.node t.node s.term t.term)
  pub whole : α (CAt c s.node t.node) ≡ (some_identical s.term t.term || some_true α (parts_of_c c s.node t.node s.term))

pub record RuleEquations (c : Setting) (α : Assignment) (rule : Rule) : Type 0 where
  pub decreases : α (CAt c 0 0) ≡ true
  pub nodes :
      (s t : Numbered) → Memᴰ s (subterms 0 rule.left) → Memᴰ t (subterms 0 rule.right) → NodeEquations c α s t

pub data RulesEquations (n k : ℕ) (α : Assignment) : ℕ → List Rule → Type 0 where
  no_rule : {base : ℕ} → RulesEquations n k α base []
  and_rule :
      {base : ℕ} {rule : Rule} {rules : List Rule} →
      RuleEquations (record { n = n; k = k; base = base; width = size rule.right }) α rule →
      RulesEquations n k α (base_after base rule) rules → RulesEquations n k α base (rule ∷ rules)

pub record Equations (book : Book) (α : Assignment) : Type 0 where
  pub pairs : PairEquations (symbols book) (rank_bits (symbols book)) α
  pub rules : RulesEquations (symbols book) (rank_bits (symbols book)) α (first_base (symbols book) (rank_bits (symbols book))) book.rules
