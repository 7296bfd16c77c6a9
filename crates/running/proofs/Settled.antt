-- Two replies of the run that its contract allows are equal, and so is what they leave in the lent buffer, said of the contract itself: an
-- answer can be told from what it means. Assumes nothing.
use mathlib.Core.Path.{◌≡◌, refl, sym, ap, ◌∙◌}
use borrow.Fn.Kinds.{Dens, ended_of}
use contract.Lifetimes.{Lfts}
use denote.Triple.Clauses.{AtExit}
use Rattle.std.specs.Prelude.{Result, Ok, Err}
use Rattle.reply.specs.Refusals.{numbered}
use Rattle.reply.specs.Replied.{replied_as}
use Rattle.reply.specs.declared.Refusal.{Refusal as Named}
use Rattle.reply.proofs.Given.{given_not_refused}
use Rattle.reply.proofs.Refusals.{numbered_apart}
use Rattle.steps.specs.Run.{Outcome, done, spent, too_large}
use Rattle.stepping.specs.Stepped.{outcome_of}
use Rattle.running.specs.RunMeaning.{Told, told_in_code, run_meaning}
use Rattle.stepping.specs.declared.Outcome.{Outcome as Ending}
use Rattle.stepping.specs.declared.Outcome.TheVariants.{Done, Spent, TooLarge}
use Rattle.running.specs.declared.RanTo.{RanTo}
use Rattle.running.proofs.run.Kinds as run_kinds
use Rattle.running.proofs.run.Reads as run_reads

ending_of : Outcome → Ending
ending_of done = Done
ending_of spent = Spent
ending_of too_large = TooLarge

ending_again : (ending : Ending) → ending_of (outcome_of ending) ≡ ending
unfolding ending_of outcome_of
ending_again Done = refl
ending_again Spent = refl
ending_again TooLarge = refl

run_apart : (a b : Result RanTo Named) → run_meaning a ≡ run_meaning b → a ≡ b
unfolding run_meaning replied_as told_in_code
run_apart (Ok ran) (Ok ran') e =
    let same :
    ◌≡◌ {A = Told} (record { outcome = outcome_of ran.outcome; steps = ran.steps; length = ran.length })
    (record { outcome = outcome_of ran'.outcome; steps = ran'.steps; length = ran'.length }) = cc
    in
    ap (λ (o : Ending). Ok (record { outcome = o; steps = ran.steps; length = ran.length }))
    (sym (ending_again ran.outcome) ∙ ap (λ (told : Told). ending_of told.outcome) same ∙ ending_again ran'.outcome)
    ∙ ap (λ (told : Told). Ok (record { outcome = ran'.outcome; steps = told.steps; length = told.length })) same
run_apart (Ok ran) (Err s) e = absurd (given_not_refused _ (numbered s) e)
run_apart (Err r) (Ok ran) e = absurd (given_not_refused _ (numbered r) (sym e))
run_apart (Err r) (Err s) e = ap (λ (why : Named). Err why) (numbered_apart r s cc)

pub run_settled :
    (κs : Lfts 4) (a : Dens κs run_kinds.ps) (r r' : Result RanTo Named) (e e' : AtExit (ended_of 4 run_kinds.ps run_kinds.r) κs) →
    run_reads.Post κs a r e → run_reads.Post κs a r' e' → (r ≡ r') × (e.1.1.1.1.0.now ≡ e'.1.1.1.1.0.now)
run_settled κs a r r' e e' p p' = (
  run_apart r r' (p.replied ∙ sym p'.replied),
  p.written ∙ sym p'.written,
)
