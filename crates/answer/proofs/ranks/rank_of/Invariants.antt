-- The bits so far are summed.
use mathlib.Core.Path.{◌≡◌}
use Rattle.clauses.specs.Numbering.{rank_below}
use Rattle.answer_lines.specs.Marks.{assigned}
use Rattle.answer.proofs.ranks.rank_of.Given as goal

abbrev pub invariant-loop-b : goal.invariant-loop-b
invariant-loop-b l = l.rank ≡ rank_below l.bits (assigned l.table) l.f l.b
