-- What the answers of the run mean: the run's reply, with the length of the record that the lent buffer holds.
use Rattle.std.specs.Prelude.{ℕ, ◌≤◌, List, ◌≡◌, length, Result}
use Rattle.reply.specs.Reply.{Reply, given, ◌>>=◌}
use Rattle.reply.specs.Replied.{replied_as}
use Rattle.reply.specs.declared.Refusal.{Refusal as Named}
use Rattle.reply.specs.Lent.{laid}
use Rattle.term.specs.Term.{Term}
use Rattle.term.specs.At.{At}
use Rattle.record.specs.Record.{record_bytes}
use Rattle.steps.specs.Run.{Outcome, Ran, ran_bytes}
use Rattle.stepping.specs.Stepped.{outcome_of}
use Rattle.running.specs.declared.RanTo.{RanTo}

-- A run as it is told: the term itself lies in the lent buffer.
pub record Told : Type 0 where
  pub outcome : Outcome
  pub steps : ℕ
  pub length : ℕ

-- Of the term reached its record's length is told, the end record counted.
unfoldable pub told_of : Ran → Told
told_of ran = record { outcome = ran.outcome; steps = ran.steps; length = length (record_bytes ran.reached) }

-- A refusal is told as it is.
unfoldable pub run_told : Reply Ran → Reply Told
run_told reply = do
  ran ← reply
  given (told_of ran)

-- How the run ended on paper.
unfoldable pub told_in_code : RanTo → Told
told_in_code ran = record { outcome = outcome_of ran.outcome; steps = ran.steps; length = ran.length }

-- The same, or the refusal's number and place.
unfoldable pub run_meaning : Result RanTo Named → Reply Told
run_meaning = replied_as told_in_code

-- The record's term stands in its first `length` bytes, at most 256 nodes.
pub record RecordAt (bytes arities : List ℕ) (length : ℕ) : Type 0 where
  pub term : Term
  pub stands : At bytes arities 0 term length
  pub small : length ≤ 512

-- What an answer says of the run's reply, and what the lent buffer holds: "the term reached with its end record; later bytes keep their
-- values".
pub record RunsTo (reply : Reply Ran) (answer : Result RanTo Named) (before after : List ℕ) : Type 0 where
  pub replied : run_meaning answer ≡ run_told reply
  pub written : after ≡ laid (ran_bytes reply) before
