-- Keys for computed cases: what opens `computing` may compute with every definition of this crate and of those below.
use Rattle.clauses.specs.Computing
use Rattle.answer_lines.specs.Values.{names, named, item_after, items_after, valued}
use Rattle.answer_lines.specs.Lines.{
  item_line,
  value_line,
  verdict_line,
  line_of,
  verdict_after,
  values_after,
  line_after,
  lines_after,
  whole,
  read_answer,
}
use Rattle.answer_lines.specs.Marks.{mark, table_of, assigned}

-- Of reading lines and their values.
unfoldable pub reading : Unit {0}
unfolding names named item_after items_after item_line value_line verdict_line line_of verdict_after values_after line_after lines_after whole read_answer
reading = tt

unfoldable pub computing : Unit {0}
unfolding Computing.computing reading valued mark table_of assigned
computing = tt
