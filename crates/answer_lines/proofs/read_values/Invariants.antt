-- At every turn the reader holds what the lines before have said.
use Prim.Native.Nat.{◌-◌}
use lib.ListN.{length}
use Rattle.answer_lines.specs.Progress.{SameCounts}
use Rattle.answer_lines.proofs.AllLines.{From}
use Rattle.answer_lines.proofs.read_values.Given as goal

abbrev pub invariant-loop-at : goal.invariant-loop-at
invariant-loop-at l = record {
  same : SameCounts l.initial.reader l.reader;
  holds : From l.text l.variables l.rank_variables l.reader.stage l.reader.table l.at;
}

abbrev pub decreases-loop-at : goal.decreases-loop-at
decreases-loop-at l = length l.text - l.at
