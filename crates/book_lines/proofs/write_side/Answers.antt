-- The word and the term, one laid behind the other. Assumes nothing.
use Rattle.term_lines.proofs.Parts.{any_term, the_term, then}
use Rattle.book_lines.proofs.write_side.Goals as goal

pub returns : goal.returns
returns c = then (any_term c.write_text-at.ensures) (the_term c.write_term-side.ensures c.write_term-side.auto.out)
