-- Two replies that the contract of the search for a place allows are equal, said of the contract itself: the rule and the place are those
-- that the definition takes, and the subterm there and the table follow. Assumes nothing.
use Prim.Native.Nat.{ℕ}
use mathlib.Core.List.{List}
use mathlib.Core.Path.{◌≡◌, refl, sym, ap, ap₂, subst, ◌∙◌}
use borrow.Fn.Kinds.{Dens, ended_of}
use contract.Lifetimes.{Lfts}
use denote.Triple.Clauses.{AtExit}
use Rattle.std.specs.Prelude.{Option as Maybe, Some, None}
use Rattle.term.specs.Term.{Term}
use Rattle.term.specs.At.{At}
use Rattle.term.proofs.At.{at_unique}
use Rattle.book.specs.Book.{Rule}
use Rattle.steps.specs.Step.{rule_of}
use Rattle.steps.specs.NextStep.{Taken}
use Rattle.steps.proofs.Chosen.{found_nothing}
use Rattle.building.specs.declared.Fit.{Fit}
use Rattle.building.specs.declared.Match.{Match}
use Rattle.building.specs.declared.Place.{Place}
use Rattle.matching.specs.Table.{table_of}
use Rattle.matching.specs.FirstPlace.{StepAt, FirstPlace}
use Rattle.matching.proofs.first_place.Kinds as first_place_kinds
use Rattle.matching.proofs.first_place.Reads as first_place

module _ {bytes arities : List ℕ} {rules : List Rule} {t : Term} where
  step_once : (a b : Place) → StepAt bytes arities rules t a → StepAt bytes arities rules t b → a ≡ b
  step_once a b p q =
      let same : ◌≡◌ {A = Taken} (record { rule = a.fit.rule; place = a.at }) (record { rule = b.fit.rule; place = b.at }) = cc p.is_taken in
      let rule : a.fit.rule ≡ b.fit.rule = ap (λ (x : Taken). x.rule) same in
      let at : a.at ≡ b.at = ap (λ (x : Taken). x.place) same in
      let (subterm, end) = at_unique p.stands (subst (λ (u : ℕ). At bytes arities u q.subterm b.end) (sym at) q.stands) in
      let table : a.fit.table ≡ b.fit.table =
      p.applies.table
      ∙ ap (λ (i : ℕ). table_of (rule_of rules i).left p.subterm a.at) rule
      ∙ ap₂ (λ (s : Term) (u : ℕ). table_of (rule_of rules b.fit.rule).left s u) subterm at
      ∙ sym q.applies.table in
      let fit : a.fit ≡ b.fit = ap₂ {C = Fit} (λ (i : ℕ) (m : Match). record { rule = i; table = m }) rule table in
      ap₂ {C = Place} (λ (u e : ℕ). record { at = u; end = e; fit = a.fit }) at end
      ∙ ap {B = Place} (λ (x : Fit). record { at = b.at; end = b.end; fit = x }) fit

place_once :
    (bytes arities : List ℕ) (rules : List Rule) (t : Term) (a b : Maybe Place) → FirstPlace bytes arities rules t a →
    FirstPlace bytes arities rules t b → a ≡ b
unfolding FirstPlace
place_once bytes arities rules t None None p q = refl
place_once bytes arities rules t None (Some b) p q = absurd (found_nothing p q.is_taken)
place_once bytes arities rules t (Some a) None p q = absurd (found_nothing q p.is_taken)
place_once bytes arities rules t (Some a) (Some b) p q = ap {B = Maybe Place} Some (step_once a b p q)

pub first_place_settled :
    (κs : Lfts 3) (a : Dens κs first_place_kinds.ps) (r r' : Maybe Place) (e e' : AtExit (ended_of 3 first_place_kinds.ps first_place_kinds.r) κs) →
    first_place.Pre κs a → first_place.Post κs a r e → first_place.Post κs a r' e' → r ≡ r'
first_place_settled κs a r r' e e' whole p p' = place_once _ _ _ whole.term r r' (p whole.term whole.stands) (p' whole.term whole.stands)
