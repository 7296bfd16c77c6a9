-- The words, the numbers and the line's end, one laid behind the other. Assumes nothing.
use Rattle.text.specs.Text.{ascii}
use Rattle.text.proofs.Laying.{lays_then}
use Rattle.reply_lines.specs.Lines.{accepted_lines}
use Rattle.reply_lines.proofs.write_accepted.Goals as goal

pub returns : goal.returns
unfolding accepted_lines ascii
returns c = lays_then (lays_then c.write_text-start.ensures c.write_numbers.ensures) c.write_byte.ensures
