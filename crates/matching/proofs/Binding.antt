-- A variable that is bound at a place: the other variables keep what they have, and a replacement agrees with the new table exactly if it
-- agrees with the old and puts the term at the place for the variable. Assumes nothing.
use Prim.Native.Nat.{ℕ, ◌<◌}
use mathlib.Core.Bool.{Bool}
use mathlib.Core.List.{List}
use mathlib.Core.Logic.{◌↔◌, ◌≢◌}
use mathlib.Core.Path.{◌≡◌, sym, ap, ◌∙◌}
use native.Mathlib.Decide.{ℕ_discrete}
use native.Mathlib.Omega.{arith}
use lib.ListN.{length, set, length-set}
use lib.Seq.{get_or-set_same, get_or-set_other}
use Rattle.std.specs.Prelude.{Option, Some, None}
use Rattle.term.specs.Term.{Term, same}
use Rattle.term.specs.Replacement.{Replacement}
use Rattle.term.specs.At.{At, Standing}
use Rattle.term.proofs.At.{at_unique}
use Rattle.building.specs.Right.{start_of}
use Rattle.building.specs.declared.Match.{Match}
use Rattle.matching.specs.Table.{met, if_same, Meets, TableAt}

-- A variable is bound.
pub record Bound (table : Match) (x : ℕ) : Type 0 where
  pub start : ℕ
  pub is : start_of table x ≡ Some start

-- A replacement agrees with what the table holds.
abbrev pub Agrees : (bytes arities : List ℕ) → Match → Replacement → Type 0
Agrees bytes arities table σ = (x start : ℕ) (t : Term) (e : ℕ) → start_of table x ≡ Some start → At bytes arities start t e → σ x ≡ t

-- What a variable meets, by whether it is bound.
module _ (table : Match) (x place : ℕ) where
  pub met_bound : {start : ℕ} → start_of table x ≡ Some start → met table x place ≡ table
  unfolding met
  met_bound q = rw (q, met)

  pub met_free : start_of table x ≡ None → met table x place ≡ record { starts = set table.starts x (Some place) }
  unfolding met
  met_free q = rw (q, met)

  -- So the table after it is told, in either case.
  module _ {bytes arities : List ℕ} where
    pub meets_bound :
        {start : ℕ} (answer : Bool) → start_of table x ≡ Some start →
        ((s t : Term) (d e : ℕ) → At bytes arities start s d → At bytes arities place t e → answer ≡ same s t) →
        Meets bytes arities table x place (if_same answer table)
    meets_bound {start} answer q told = record {
      free = λ p. absurd cc;
      bound =
          λ from p t u d e h k.
          let there : from ≡ start = cc in ap (λ (b : Bool). if_same b table) (told t u d e (rw there at h) k);
    }

    pub meets_free :
        start_of table x ≡ None → Meets bytes arities table x place (Some (record { starts = set table.starts x (Some place) }))
    meets_free q = record { free = λ p. ap {B = Option Match} Some (sym (met_free q)); bound = λ from p t u d e h k. absurd cc }

-- Variable x is free, and is bound at a place.
module _ (table : Match) (x place : ℕ) (free : start_of table x ≡ None) where
  abbrev pub bind : Match
  bind = met table x place

  elsewhere : (y : ℕ) → y ≢ x → start_of bind y ≡ start_of table y
  elsewhere y n = ap (λ (m : Match). start_of m y) (met_free table x place free) ∙ get_or-set_other table.starts x y (Some place) None n

  module _ {bytes arities : List ℕ} (tabled : TableAt bytes arities table) (small : x < 16) where
    there : start_of bind x ≡ Some place
    there =
        ap (λ (m : Match). start_of m x) (met_free table x place free)
        ∙ get_or-set_same table.starts x (Some place) None (omega (arith, tabled.places))

    pub bound_there : Bound bind x
    bound_there = record { start = place; is = there }

    -- Some term stands at the place.
    pub bind_tabled : Standing bytes arities place → TableAt bytes arities bind
    bind_tabled standing = record {
      places = ap (λ (m : Match). length m.starts) (met_free table x place free) ∙ length-set table.starts x (Some place) ∙ tabled.places;
      stands = λ y start b. go y start b (ℕ_discrete y x);
    }
      where
        go : (y start : ℕ) → start_of bind y ≡ Some start → Dec (y ≡ x) → Standing bytes arities start
        go y start b (yes p) = let same : place ≡ start = cc (ap (start_of bind) p, there) in rw (← same) standing
        go y start b (no n) = tabled.stands y start (sym (elsewhere y n) ∙ b)

    pub bind_keeps : (y : ℕ) → Bound table y → Bound bind y
    bind_keeps y b = go (ℕ_discrete y x)
      where
        go : Dec (y ≡ x) → Bound bind y
        go (yes p) = record { start = place; is = ap (start_of bind) p ∙ there }
        go (no n) = record { start = b.start; is = elsewhere y n ∙ b.is }

    -- To agree with the new table is to agree with the old and to replace x by the term at the place.
    pub bind_agrees :
        {u : Term} {e : ℕ} → At bytes arities place u e → (σ : Replacement) →
        ((σ x ≡ u) × Agrees bytes arities table σ) ↔ Agrees bytes arities bind σ
    bind_agrees {u} {e} stands σ = (
      λ (p, agrees) y start t c b h. forth p agrees y start t c b h (ℕ_discrete y x),
      λ agrees. (agrees x place u e there stands, λ y start t c b h. back agrees y start t c b h (ℕ_discrete y x)),
    )
      where
        forth :
            σ x ≡ u → Agrees bytes arities table σ → (y start : ℕ) (t : Term) (c : ℕ) → start_of bind y ≡ Some start → At bytes arities start t c →
            Dec (y ≡ x) → σ y ≡ t
        forth p agrees y start t c b h (yes q) =
            let same : start ≡ place = cc (ap (start_of bind) q, there) in ap σ q ∙ p ∙ (at_unique stands (rw same at h)).0
        forth p agrees y start t c b h (no n) = agrees y start t c (sym (elsewhere y n) ∙ b) h

        back :
            Agrees bytes arities bind σ → (y start : ℕ) (t : Term) (c : ℕ) → start_of table y ≡ Some start → At bytes arities start t c →
            Dec (y ≡ x) → σ y ≡ t
        back agrees y start t c b h (yes q) = absurd (cc (ap (start_of table) q))
        back agrees y start t c b h (no n) = agrees y start t c (elsewhere y n ∙ b) h
