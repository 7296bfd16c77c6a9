-- The word, the term and the line's end, one laid behind the other. Assumes nothing.
use Rattle.text.specs.Text.{ascii}
use Rattle.term_lines.specs.Lines.{term_line}
use Rattle.term_lines.proofs.Parts.{any_term, the_term, then}
use Rattle.term_lines.proofs.write_term_line.Goals as goal

pub returns : goal.returns
unfolding term_line ascii
returns c =
    then (then (any_term c.write_text-start.ensures) (the_term c.write_term-told.ensures c.write_term-told.auto.out))
    (any_term c.write_byte.ensures)
