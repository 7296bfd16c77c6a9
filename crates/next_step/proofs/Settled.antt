-- Two replies about the next step that the contract allows are equal, said of the contract itself: an answer can be told from what it means.
-- Assumes nothing.
use mathlib.Core.Path.{◌≡◌, refl, sym, ap, ◌∙◌}
use borrow.Fn.Kinds.{Dens, ended_of}
use contract.Lifetimes.{Lfts}
use denote.Triple.Clauses.{AtExit}
use Rattle.std.specs.Prelude.{Option as Maybe, Some, None, Result, Ok, Err}
use Rattle.reply.specs.Refusals.{numbered}
use Rattle.reply.specs.Replied.{replied_as}
use Rattle.reply.specs.declared.Refusal.{Refusal as Named}
use Rattle.reply.proofs.Given.{given_not_refused}
use Rattle.reply.proofs.Refusals.{numbered_apart}
use Rattle.steps.specs.NextStep.{Taken}
use Rattle.steps.proofs.Chosen.{found_nothing}
use Rattle.next_step.specs.NextMeaning.{taken, next_meaning}
use Rattle.next_step.specs.declared.Next.{Next}
use Rattle.next_step.proofs.next_step.Kinds as next_kinds
use Rattle.next_step.proofs.next_step.Reads as next

-- What was found of the next step tells the answer.
taken_apart : (a b : Maybe Next) → taken a ≡ taken b → a ≡ b
unfolding taken
taken_apart None None e = refl
taken_apart None (Some next) e = absurd (found_nothing refl e)
taken_apart (Some next) None e = absurd (found_nothing e refl)
taken_apart (Some next) (Some next') e =
    let same : ◌≡◌ {A = Taken} (record { rule = next.rule; place = next.place }) (record { rule = next'.rule; place = next'.place }) = cc in
    ap (λ (x : Taken). Some (record { rule = x.rule; place = x.place })) same

apart : (a b : Result (Maybe Next) Named) → next_meaning a ≡ next_meaning b → a ≡ b
unfolding next_meaning replied_as
apart (Ok a) (Ok b) e = let same : taken a ≡ taken b = cc in ap (λ (x : Maybe Next). Ok x) (taken_apart a b same)
apart (Ok a) (Err s) e = absurd (given_not_refused _ (numbered s) e)
apart (Err r) (Ok b) e = absurd (given_not_refused _ (numbered r) (sym e))
apart (Err r) (Err s) e = ap (λ (why : Named). Err why) (numbered_apart r s cc)

pub next_step_settled :
    (κs : Lfts 3) (a : Dens κs next_kinds.ps) (r r' : Result (Maybe Next) Named) (e e' : AtExit (ended_of 3 next_kinds.ps next_kinds.r) κs) →
    next.Post κs a r e → next.Post κs a r' e' → r ≡ r'
next_step_settled κs a r r' e e' p p' = apart r r' (p ∙ sym p')
