-- The ranks of the symbols so far stand in the table.
use mathlib.Core.Path.{◌≡◌}
use Rattle.answer_lines.specs.Marks.{assigned}
use Rattle.answer.specs.PaddedRanks.{padded_ranks}
use Rattle.answer.proofs.ranks.ranks_of.Given as goal

abbrev pub invariant-loop-f : goal.invariant-loop-f
invariant-loop-f l = l.ranks ≡ padded_ranks l.f l.bits (assigned l.table)
