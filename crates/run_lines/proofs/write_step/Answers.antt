-- The lines of each next step. Assumes nothing.
use mathlib.Core.Path.{◌≡◌, sym, ap, ◌∙◌}
use Rattle.std.specs.Prelude.{Option, Some, Result, Ok}
use Rattle.reply.specs.Reply.{given}
use Rattle.reply.specs.Replied.{replied_as}
use Rattle.reply.specs.declared.Refusal.{Refusal as Named}
use Rattle.next_step.specs.NextMeaning.{taken, next_meaning}
use Rattle.next_step.specs.declared.Next.{Next}
use Rattle.text.proofs.Laying.{lays_as, lays_then}
use Rattle.text.specs.Text.{ascii}
use Rattle.run_lines.specs.Lines.{next_line}
use Rattle.run_lines.proofs.write_step.Goals as goal

-- The line of an answer that is no refusal.
its_line :
    (next : Result (Option Next) Named) (found step : Option Next) → next ≡ Ok found → found ≡ step →
    next_line (given (taken step)) ≡ next_line (next_meaning next)
unfolding next_meaning replied_as
its_line next found step p q = sym (ap (λ (n : Result (Option Next) Named). next_line (next_meaning n)) (p ∙ ap (λ (o : Option Next). Ok o) q))

pub returns-in-Ok-Some : goal.returns-in-Ok-Some
unfolding next_line taken ascii
returns-in-Ok-Some c =
    lays_as (its_line c.args.next _ (Some c.in-Ok-Some.step) c.in-Ok-Some.is (rw c.in-Ok-Some.is at c.in-Ok-Some.field-0-is))
    (lays_then c.write_counted-at.ensures c.write_line.ensures)
