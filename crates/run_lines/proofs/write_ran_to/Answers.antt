-- The outcome's line, the steps and the term's lines, one laid behind the other. Assumes nothing.
use Rattle.text.specs.Text.{ascii}
use Rattle.running.specs.RunMeaning.{told_in_code}
use Rattle.run_lines.specs.Lines.{ran_to_lines}
use Rattle.term_lines.proofs.Parts.{any_term, then}
use Rattle.run_lines.proofs.write_ran_to.Goals as goal

pub returns : goal.returns
unfolding ran_to_lines told_in_code ascii
returns c = then (then (any_term c.write_outcome-start.ensures) (any_term c.write_line.ensures)) c.write_term_lines.ensures
