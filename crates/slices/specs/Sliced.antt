-- A run in slices of its budget.
use Rattle.std.specs.Prelude.{ℕ, ◌+◌, List, ◌≡◌, length, take, Result}
use Rattle.reply.specs.Reply.{Reply, given, ◌>>=◌}
use Rattle.reply.specs.declared.Refusal.{Refusal as Named}
use Rattle.record.specs.Record.{record_bytes}
use Rattle.steps.specs.Run.{Ran}
use Rattle.running.specs.RunMeaning.{Told, run_told, run_meaning}
use Rattle.running.specs.declared.RanTo.{RanTo}

-- The answer is this run's, and the buffer starts with the record of the term that it reached.
pub record OneRun (reply : Reply Ran) (answer : Result RanTo Named) (buffer : List ℕ) : Type 0 where
  pub replied : run_meaning answer ≡ run_told reply
  pub holds : (ran : Ran) → reply ≡ given ran → take (length (record_bytes ran.reached)) buffer ≡ record_bytes ran.reached

-- A run that so many steps led to: they are counted too.
unfoldable pub later_on : (made : ℕ) → Reply Ran → Reply Ran
later_on made reply = do
  ran ← reply
  given (record { outcome = ran.outcome; steps = made + ran.steps; reached = ran.reached })

-- The same of a run as it is told.
unfoldable pub told_later : (made : ℕ) → Reply Told → Reply Told
told_later made reply = do
  told ← reply
  given (record { outcome = told.outcome; steps = made + told.steps; length = told.length })
