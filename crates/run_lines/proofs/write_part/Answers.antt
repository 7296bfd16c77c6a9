-- The lines of each reply. Assumes nothing.
use Rattle.reply.specs.Replied.{replied_as}
use Rattle.text.specs.Text.{ascii}
use Rattle.asking.specs.Asked.{part_of, argument_meaning}
use Rattle.run_lines.specs.Lines.{part_lines}
use Rattle.term_lines.proofs.Parts.{any_term, then}
use Rattle.run_lines.proofs.write_part.Goals as goal

pub returns-in-Ok : goal.returns-in-Ok
unfolding part_lines argument_meaning replied_as part_of ascii
returns-in-Ok c = rw c.in-Ok.is (then (any_term c.write_line-at.ensures) c.write_term_lines.ensures)
