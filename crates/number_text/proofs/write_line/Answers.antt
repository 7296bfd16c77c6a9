-- `write_line` meets its contract. Assumes nothing.
use Rattle.text.specs.Text.{ascii}
use Rattle.text.proofs.Laying.{lays_then}
use Rattle.number_text.specs.Numbers.{counted_line}
use Rattle.number_text.proofs.write_line.Goals as goal

pub returns : goal.returns
unfolding counted_line ascii
returns c = lays_then c.write_counted-at.ensures c.write_byte.ensures
