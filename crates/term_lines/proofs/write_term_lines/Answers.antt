-- The three lines, one laid behind the other. Assumes nothing.
use Rattle.text.specs.Text.{ascii}
use Rattle.term_lines.specs.Lines.{term_lines}
use Rattle.term_lines.proofs.Parts.{any_term, then}
use Rattle.term_lines.proofs.write_term_lines.Goals as goal

pub returns : goal.returns
unfolding term_lines ascii
returns c = then (then (any_term c.write_line-start.ensures) c.write_term_line.ensures) (any_term c.write_bytes_line.ensures)
