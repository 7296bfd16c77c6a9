-- A step tells how the run ends here, or the next term is built. What the search finds decides, with the steps left and the next term's
-- length. Assumes nothing.
use Prim.Native.Nat.{ℕ, ◌+◌, ◌*◌, ◌-◌, ◌<◌, ◌≤◌}
use mathlib.Core.List.{List}
use mathlib.Core.Path.{◌≡◌, refl, sym, ap, subst, ◌∙◌}
use native.Mathlib.Omega.{arith}
use lib.ListN.{length}
use Rattle.std.specs.Prelude.{Option as Maybe, Some, None, Result}
use Rattle.std.specs.Option.{ok_or}
use Rattle.std.proofs.Common.{Err}
use Rattle.std.proofs.lemmas.Result.{err_from_is_err_and}
use Rattle.term.specs.Term.{Term, size}
use Rattle.term.specs.Replacement.{replace}
use Rattle.term.specs.Prefix.{prefix}
use Rattle.term.specs.At.{At}
use Rattle.book.specs.BookOf.{book_of}
use Rattle.book.specs.Entries.{places_of}
use Rattle.book.specs.declared.read.ReadBook.{ReadBook}
use Rattle.matching.specs.FirstPlace.{Whole, FirstPlace}
use Rattle.steps.specs.Step.{NoNewVariable, rule_of}
use Rattle.steps.specs.Run.{Means}
use Rattle.steps.proofs.NextStep.{not_taken}
use Rattle.building.specs.Right.{UnderMatch, Within}
use Rattle.building.specs.declared.Place.{Place}
use Rattle.stepping.specs.Stepped.{outcome_of, Tells}
use Rattle.stepping.specs.declared.Outcome.{Outcome}
use Rattle.stepping.specs.declared.Outcome.TheVariants.{Done}
use Rattle.stepping.proofs.RulesAt.{right_end, RulesAt, rules_stand}
use Rattle.stepping.proofs.OneStep.{NextAt, next_at, rule_small, right_within, under_match, right_held, right_stands, right_there, place_within, made_few, next_length, next_in}
use Rattle.stepping.proofs.step.Goals as goal

-- A rule fits: the step of whatever term stands there.
record Here (book : ReadBook) (bytes : List ℕ) (place : Place) : Type 0 where
  stand : RulesAt book.bytes.now book.places (book_of book).rules
  whole : Whole bytes book.places.arities
  step_at : {t : Term} → At bytes book.places.arities 0 t (length bytes) → NextAt bytes book.places.arities (book_of book).rules t place

here :
    (book : ReadBook) {bytes : List ℕ} {first : Maybe Place} {place : Place} → NoNewVariable (book_of book).rules → Whole bytes book.places.arities →
    ((t : Term) → At bytes book.places.arities 0 t (length bytes) → FirstPlace bytes book.places.arities (book_of book).rules t first) →
    first ≡ Some place → Here book bytes place
unfolding FirstPlace
here book {bytes} no_new whole found is =
    record {
      stand = rules_stand book.read no_new;
      whole = whole;
      step_at = λ {t} k. next_at k (subst (λ (p : Maybe Place). FirstPlace bytes book.places.arities (book_of book).rules t p) is (found t k));
    }

module _ {book : ReadBook} {bytes : List ℕ} {place : Place} (h : Here book bytes place) where
  abbrev this : NextAt bytes book.places.arities (book_of book).rules h.whole.term place
  this = h.step_at h.whole.stands

  small : place.fit.rule < 32
  small = rule_small h.stand this

  there : right_end book.places place.fit.rule ≤ length book.bytes.now
  there = right_within h.stand this

  within : Within bytes place
  within = place_within h.stand this

  -- The count of the right side's bytes gives the next term's.
  module _
      {counted : ℕ}
      (told :
      UnderMatch book.bytes.now bytes book.places.arities place.fit.table (places_of book.places place.fit.rule).right.at (right_end book.places place.fit.rule)
      (λ t. counted ≡ length (prefix t))) where
    counts :
        {t : Term} (next : NextAt bytes book.places.arities (book_of book).rules t place) →
        counted ≡ length (prefix (replace (under_match h.stand next) (rule_of (book_of book).rules place.fit.rule).right))
    counts next = told (rule_of (book_of book).rules place.fit.rule).right (under_match h.stand next) (right_stands h.stand next) (right_held h.stand next)

    next_counted :
        {t : Term} (k : At bytes book.places.arities 0 t (length bytes)) → 2 * size (h.step_at k).next ≡ place.at + counted + (length bytes - place.end)
    next_counted k = omega (arith, next_length h.stand (h.step_at k), counts (h.step_at k))

    few : length bytes ≤ 512 → counted ≤ 5120
    few short = omega (arith, counts this, made_few h.stand this short)

pub returns-in_err-place : goal.returns-in_err-place
unfolding FirstPlace Tells Means outcome_of
returns-in_err-place c t k =
    let a = c.args in
    let rules = (book_of a.book.now).rules in
    let nowhere : FirstPlace a.bytes.now a.book.now.places.arities rules t None =
    subst (λ (p : Maybe Place). FirstPlace a.bytes.now a.book.now.places.arities rules t p) c.in_err-place.ensures.ok_part (c.first_place.ensures t k)
    in
    let p = err_from_is_err_and c.from_residual.result c.from_residual.ensures.1 in
    let done : ◌≡◌ {A = Result Place Outcome} (Err c.in_err-place.field-0.0) (Err Done) =
    c.in_err-place.ensures.value ∙ ap (λ (p : Maybe Place). ok_or p Done) c.in_err-place.ensures.ok_part
    in
    let is : c.from_residual.result ≡ Err Done = p.1 ∙ ap Err (p.2 ∙ cc) in
    subst (λ (r : Result ℕ Outcome). Tells r a.book.now.places.arities rules t a.left a.out.now a.out.now) (sym is) (not_taken rules 0 t nowhere, refl)

pub returns-then-left-eq0 : goal.returns-then-left-eq0
unfolding Tells Means outcome_of
returns-then-left-eq0 c t k =
    let next = (here c.args.book.now c.requires.no_new c.requires.whole c.first_place.ensures c.in_ok-place.ensures.ok_part).step_at k in
    ((sym c.if-left-eq0.true, (next.next, next.is_next)), refl)

pub offset_bounds-book-place : goal.offset_bounds-book-place
offset_bounds-book-place c = omega (arith, small (here c.args.book.now c.requires.no_new c.requires.whole c.first_place.ensures c.in_ok-place.ensures.ok_part))

pub bounds-book-place : goal.bounds-book-place
bounds-book-place c = small (here c.args.book.now c.requires.no_new c.requires.whole c.first_place.ensures c.in_ok-place.ensures.ok_part)

pub overflow_mul-end : goal.overflow_mul-end
overflow_mul-end c = omega (arith, there (here c.args.book.now c.requires.no_new c.requires.whole c.first_place.ensures c.in_ok-place.ensures.ok_part))

pub overflow_add-end : goal.overflow_add-end
overflow_add-end c = omega (arith, there (here c.args.book.now c.requires.no_new c.requires.whole c.first_place.ensures c.in_ok-place.ensures.ok_part))

pub right_length-requires-clause-right_at : goal.right_length-requires-clause-right_at
right_length-requires-clause-right_at c =
    let h = here c.args.book.now c.requires.no_new c.requires.whole c.first_place.ensures c.in_ok-place.ensures.ok_part in right_there h.stand (this h)

pub overflow_add-length : goal.overflow_add-length
overflow_add-length c =
    let h = here c.args.book.now c.requires.no_new c.requires.whole c.first_place.ensures c.in_ok-place.ensures.ok_part in
    omega (arith, few h c.right_length.ensures c.requires.bytes_len_bound, (within h).ordered, (within h).inside)

pub overflow_sub-length : goal.overflow_sub-length
overflow_sub-length c = (within (here c.args.book.now c.requires.no_new c.requires.whole c.first_place.ensures c.in_ok-place.ensures.ok_part)).inside

pub overflow_add-length-2 : goal.overflow_add-length-2
overflow_add-length-2 c =
    let h = here c.args.book.now c.requires.no_new c.requires.whole c.first_place.ensures c.in_ok-place.ensures.ok_part in
    omega (arith, few h c.right_length.ensures c.requires.bytes_len_bound, (within h).ordered, (within h).inside)

pub returns-then-length-gt512 : goal.returns-then-length-gt512
unfolding Tells Means outcome_of
returns-then-length-gt512 c t k =
    let h = here c.args.book.now c.requires.no_new c.requires.whole c.first_place.ensures c.in_ok-place.ensures.ok_part in
    let next = h.step_at k in
    ((omega arith, (next.next, next.is_next, omega (arith, next_counted h c.right_length.ensures k))), refl)

pub build-requires-clause-right_at : goal.build-requires-clause-right_at
build-requires-clause-right_at c =
    let h = here c.args.book.now c.requires.no_new c.requires.whole c.first_place.ensures c.in_ok-place.ensures.ok_part in right_there h.stand (this h)

pub build-requires-clause-within : goal.build-requires-clause-within
build-requires-clause-within c = within (here c.args.book.now c.requires.no_new c.requires.whole c.first_place.ensures c.in_ok-place.ensures.ok_part)

pub returns : goal.returns
unfolding Tells
returns c t k =
    let h = here c.args.book.now c.requires.no_new c.requires.whole c.first_place.ensures c.in_ok-place.ensures.ok_part in
    let next = h.step_at k in
    next_in h.stand next (omega arith) (omega (arith, next_counted h c.right_length.ensures k)) k
    (c.build.ensures (rule_of (book_of c.args.book.now).rules c.in_ok-place.place.fit.rule).right (under_match h.stand next) (right_stands h.stand next) (right_held h.stand next))
