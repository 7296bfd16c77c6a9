-- The lines by which the run's reply, its next step and the argument question's reply are told.
use Rattle.std.specs.Prelude.{ℕ, List, ◌++◌}
use Rattle.std.proofs.Math.Option.{Option, none, some}
use Rattle.reply.specs.Reply.{Reply, given, refused}
use Rattle.text.specs.Text.{ascii, refused_line}
use Rattle.term.specs.Term.{Term}
use Rattle.steps.specs.Run.{Outcome, done, spent, too_large}
use Rattle.steps.specs.NextStep.{Taken}
use Rattle.steps.specs.Argument.{Part}
use Rattle.running.specs.RunMeaning.{Told}
use Rattle.number_text.specs.Numbers.{counted, counted_line}
use Rattle.term_lines.specs.Lines.{term_lines}

-- The run's reply: how it ended, `steps` and how many were made, and the term reached.
unfoldable pub outcome_line : Outcome → List ℕ
outcome_line done = ascii "done\n"
outcome_line spent = ascii "spent\n"
outcome_line too_large = ascii "too large\n"

unfoldable pub ran_to_lines : (bytes : List ℕ) → Told → Term → List ℕ
ran_to_lines bytes told t = (outcome_line told.outcome ++ counted_line (ascii "steps ") told.steps) ++ term_lines bytes told.length t

unfoldable pub ran_lines : (bytes : List ℕ) → Reply Told → Term → List ℕ
ran_lines bytes (given told) t = ran_to_lines bytes told t
ran_lines bytes (refused r) t = refused_line r

-- The next step: `at rest`, or `step rule 2 at 4`, the rule's number and the place of the subterm's first byte in the record.
unfoldable pub next_line : Reply (Option Taken) → List ℕ
next_line (given none) = ascii "at rest\n"
next_line (given (some taken)) = counted (ascii "step rule ") taken.rule ++ counted_line (ascii " at ") taken.place
next_line (refused r) = refused_line r

-- The argument question's reply: `start` and the place of the part's first byte in the record, and the part.
unfoldable pub part_lines : (bytes : List ℕ) → Reply Part → Term → List ℕ
part_lines bytes (given part) t = counted_line (ascii "start ") part.start ++ term_lines bytes part.length t
part_lines bytes (refused r) t = refused_line r
