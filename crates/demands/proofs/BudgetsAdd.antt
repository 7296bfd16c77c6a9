-- Budgets add up, by the law that a run which was not refused can be carried on. Assumes nothing.
use Prim.Native.Nat.{ℕ, ◌≤◌}
use mathlib.Core.Path.{◌≡◌, refl, ◌∙◌}
use Rattle.reply.specs.Reply.{given, ◌>>=◌}
use Rattle.steps.specs.Run.{Outcome, done, spent, too_large, Ran}
use Rattle.steps.proofs.Run.{after}
use Rattle.steps.proofs.Run as Runs
use Rattle.steps.proofs.Accepted.{Accepted, accepted, had_room, goes_on, with_more}
use Rattle.demands.specs.EntryPoints.{Bytes}
use Rattle.demands.specs.BudgetsAdd.{counting, carried_on, BudgetsAdd}

module _ (bytes ranks record' : Bytes) (budget : ℕ) (ran : Ran) (its : Accepted bytes ranks record' budget ran) where
  carried : (more room : ℕ) → 513 ≤ room → given (Runs.carried_on its.book.rules more ran) ≡ carried_on bytes ranks more room ran
  unfolding Runs.carried_on carried_on after counting ◌>>=◌
  carried more room roomy = go ran.outcome refl
    where
      go : (o : Outcome) → ran.outcome ≡ o → given (Runs.carried_on its.book.rules more ran) ≡ carried_on bytes ranks more room ran
      go done e = rw (Runs.carried_on, carried_on, e)
      go spent e = rw (Runs.carried_on, carried_on, e, goes_on bytes ranks record' budget ran its more room roomy)
      go too_large e = rw (Runs.carried_on, carried_on, e)

pub run_budgets_add : BudgetsAdd
unfolding BudgetsAdd
run_budgets_add bytes ranks record' a b room ran e =
    let its = accepted bytes ranks record' a room ran e in
    let roomy = had_room bytes ranks record' a room ran e in
    with_more bytes ranks record' a ran its b room roomy ∙ carried bytes ranks record' a ran its b room roomy
