-- What a run that goes on keeps: it has the outcome of the run that it came from, with the steps made. Assumes nothing.
use Prim.Native.Nat.{ℕ, suc, ◌+◌, ◌-◌, ◌<◌, ◌≤◌}
use mathlib.Core.Bool.{true}
use mathlib.Core.List.{List}
use mathlib.Core.Path.{◌≡◌, sym, ap, subst, ◌∙◌}
use native.Mathlib.Numerals.{add-one}
use native.Mathlib.Omega.{arith}
use lib.Dec.{leb, le→leb, leb→le}
use lib.ListN.{length, take}
use lib.Seq.{length-take-le}
use Rattle.std.specs.Prelude.{Ok, Err}
use Rattle.reply.proofs.Tests.{is_true, is_false}
use Rattle.term.specs.Term.{Term, size}
use Rattle.term.specs.At.{At}
use Rattle.term.proofs.At.{at_end_lem}
use Rattle.book.specs.Book.{Rule}
use Rattle.steps.specs.Run.{Means, run_from}
use Rattle.stepping.specs.Stepped.{outcome_of, Tells}
use Rattle.stepping.specs.declared.Outcome.{Outcome}
use Rattle.stepping.specs.declared.Outcome.TheVariants.{Done, Spent, TooLarge}
use Rattle.steps.proofs.Run.{run_done, run_spent, run_too_large, run_goes_on}

-- A run of t within its budget has come to a term in the first bytes of a buffer.
pub record Onward (arities : List ℕ) (rules : List Rule) (t : Term) (budget : ℕ) (buffer : List ℕ) (steps length' : ℕ) : Type 0 where
  pub term : Term
  pub stands : At (take length' buffer) arities 0 term length'
  pub small : length' ≤ 512
  pub within : steps ≤ budget
  pub same : run_from rules budget 0 t ≡ run_from rules (budget - steps) steps term

pub run_begins :
    {arities : List ℕ} {rules : List Rule} {t : Term} {buffer : List ℕ} {n : ℕ} (budget : ℕ) → At (take n buffer) arities 0 t n → n ≤ 512 →
    Onward arities rules t budget buffer 0 n
run_begins {rules = rules} {t = t} budget h p =
    record { term = t; stands = h; small = p; within = omega arith; same = ap (λ (b : ℕ). run_from rules b 0 t) (omega arith) }

module _
    {arities : List ℕ} {rules : List Rule} {t : Term} {budget : ℕ} {buffer : List ℕ} {steps n : ℕ}
    (onward : Onward arities rules t budget buffer steps n) where
  -- The term at hand, as a step is asked for it.
  pub whole : n ≤ length buffer → At (take n buffer) arities 0 onward.term (length (take n buffer))
  whole p = subst (λ (m : ℕ). At (take n buffer) arities 0 onward.term m) (sym (length-take-le n buffer p)) onward.stands

  -- A step was made: the next term stands in the other buffer.
  pub steps_remain : (next : ℕ) (before after : List ℕ) → Tells (Ok next) arities rules onward.term (budget - steps) before after → steps < budget
  unfolding Tells
  steps_remain next before after told = omega (arith, told.remain)

  pub run_goes :
      (next : ℕ) (before after : List ℕ) → Tells (Ok next) arities rules onward.term (budget - steps) before after →
      Onward arities rules t budget after (steps + 1) next
  unfolding Tells
  run_goes next before after told =
      let one_less : budget - steps ≡ suc (budget - (steps + 1)) = omega (arith, told.remain) in
      let fits : leb (size told.next) 256 ≡ true = is_true (leb (size told.next) 256) (le→leb (size told.next) 256 told.nodes) in
      record {
        term = told.next;
        stands = told.stands;
        small = omega (arith, at_end_lem told.stands, told.nodes);
        within = omega (arith, told.remain);
        same =
            onward.same
            ∙ ap (λ (b : ℕ). run_from rules b steps onward.term) one_less
            ∙ run_goes_on rules steps onward.term (budget - (steps + 1)) told.next told.is_next fits
            ∙ ap (λ (made : ℕ). run_from rules (budget - (steps + 1)) made told.next) (sym (add-one steps));
      }

  -- The outcome of a run that ends here.
  ends : (outcome : Outcome) → Means (outcome_of outcome) rules (budget - steps) 0 onward.term → run_from rules (budget - steps) steps onward.term ≡ record { outcome = outcome_of outcome; steps = steps; reached = onward.term }
  unfolding Means outcome_of
  ends Done h = run_done rules steps onward.term (budget - steps) h
  ends Spent (none_left, (next, is_next)) =
      ap (λ (b : ℕ). run_from rules b steps onward.term) (sym none_left) ∙ run_spent rules steps onward.term next is_next
  ends TooLarge (remain, (next, is_next, large)) =
      let one_less : budget - steps ≡ suc (budget - (steps + 1)) = omega arith in
      ap (λ (b : ℕ). run_from rules b steps onward.term) one_less
      ∙ run_too_large rules steps onward.term (budget - (steps + 1)) next is_next
      (is_false (leb (size next) 256) (λ h. let small = leb→le (size next) 256 h in omega arith))

  pub run_ends :
      (outcome : Outcome) (before after : List ℕ) → Tells (Err outcome) arities rules onward.term (budget - steps) before after →
      run_from rules budget 0 t ≡ record { outcome = outcome_of outcome; steps = steps; reached = onward.term }
  unfolding Tells
  run_ends outcome before after tells = onward.same ∙ ends outcome tells.0
