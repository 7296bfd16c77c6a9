-- The next step of a record: the first place of its term at which a rule fits. Assumes nothing.
use Prim.Native.Nat.{ℕ, ◌*◌, ◌≤◌}
use mathlib.Core.List.{List}
use mathlib.Core.Option.{Option}
use mathlib.Core.Path.{◌≡◌, refl, sym, ap, subst, ◌∙◌}
use native.Mathlib.Omega.{arith}
use borrow.Author.Rules.{rules}
use lib.ListN.{length, take}
use lib.Seq.{length-take-le}
use Rattle.std.specs.Prelude.{Option as Maybe, Some, None}
use Rattle.std.specs.Option.{MatchOption, IsSomeAnd}
use Rattle.std.proofs.Common.{Err}
use Rattle.std.proofs.lemmas.Result.{err_from_is_err_and}
use Rattle.reply.specs.Reply.{given}
use Rattle.reply.specs.Replied.{replied_as}
use Rattle.term.specs.Term.{Term}
use Rattle.term.specs.At.{At}
use Rattle.term.proofs.At.{at_within}
use Rattle.book.specs.Book.{Rule}
use Rattle.record.proofs.Stands.{WholeTerm, whole_stands}
use Rattle.steps.specs.NextStep.{Taken, taken_in}
use Rattle.steps.proofs.Questions.{record_faulty, record_whole, at_beginning}
use Rattle.steps.proofs.NextAsked.{malformed, found}
use Rattle.building.specs.declared.Place.{Place}
use Rattle.matching.specs.FirstPlace.{FirstPlace}
use Rattle.next_step.specs.NextMeaning.{taken, next_meaning}
use Rattle.next_step.specs.declared.Next.{Next}
use Rattle.next_step.proofs.of_record.Goals as goal

-- The record's term, and its bytes alone.
module _ {text arities : List ℕ} {symbols nodes : ℕ} (its : WholeTerm text symbols arities nodes) where
  small : nodes ≤ 256
  small = omega (arith, its.node_count, its.its.few)

  as_long : length (take (2 * nodes) text) ≡ 2 * nodes
  as_long = length-take-le (2 * nodes) text (at_within its.stands)

  alone : At (take (2 * nodes) text) arities 0 its.term (length (take (2 * nodes) text))
  alone = subst (λ (n : ℕ). At (take (2 * nodes) text) arities 0 its.term n) (sym as_long) (at_beginning text its.stands refl)

-- The rule and the place that the search found are the step's.
place_taken :
    (bytes arities : List ℕ) (rules : List Rule) (t : Term) (place : Maybe Place) (next : Maybe Next) →
    MatchOption place (next ≡ None) (λ p. IsSomeAnd next (λ n. n ≡ record { rule = p.fit.rule; place = p.at })) →
    FirstPlace bytes arities rules t place → taken next ≡ taken_in rules 0 t
unfolding FirstPlace taken
place_taken bytes arities rules t None next no_next nowhere = ap taken no_next ∙ sym nowhere
place_taken bytes arities rules t (Some place) None no_next there = absurd no_next
place_taken bytes arities rules t (Some place) (Some next) is there = ap (λ (n : Next). taken (Some n)) is ∙ sym there.is_taken

pub returns-in_err-nodes : goal.returns-in_err-nodes
unfolding next_meaning replied_as
returns-in_err-nodes c =
    let p = err_from_is_err_and c.from_residual.result c.from_residual.ensures.1 in
    ap next_meaning (p.1 ∙ ap Err p.2) ∙ sym (malformed _ _ (record_faulty _ _ _ _ c.in_err-nodes.ensures.means))

pub overflow_mul-nodes : goal.overflow_mul-nodes
overflow_mul-nodes c = omega (arith, small (whole_stands _ _ _ _ c.in_ok-nodes.ensures.settled))

pub slice_bounds-first_place-end : goal.slice_bounds-first_place-end
slice_bounds-first_place-end c = sym (as_long (whole_stands _ _ _ _ c.in_ok-nodes.ensures.settled))

pub first_place-first-requires : goal.first_place-first-requires
first_place-first-requires c =
    let its = whole_stands _ _ _ _ c.in_ok-nodes.ensures.settled in
    record { term = its.term; stands = alone its }

pub returns : goal.returns
unfolding next_meaning replied_as
returns c =
    let its = whole_stands _ _ _ _ c.in_ok-nodes.ensures.settled in
    let first = c.first_place-first.ensures its.term (alone its) in
    ap (λ (o : Option Taken). given o) (place_taken _ _ _ _ c.first_place-first.result c.map.result (search rules) first)
    ∙ sym (found _ _ (record_whole _ _ _ its.term its.is))
