-- The word, the symbols and the line that counts the rules, one laid behind the other. Assumes nothing.
use Rattle.text.specs.Text.{ascii}
use Rattle.text.proofs.Laying.{lays_then}
use Rattle.book_lines.specs.Lines.{head_lines}
use Rattle.book_lines.proofs.write_head.Goals as goal

pub returns : goal.returns
unfolding head_lines ascii
returns c =
    lays_then (lays_then c.write_text-start.ensures c.write_symbols.ensures) c.write_line.ensures
