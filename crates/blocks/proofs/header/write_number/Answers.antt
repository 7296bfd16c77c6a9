-- The decimal, then the byte behind it.
use Rattle.text.proofs.Laying.{lays_then}
use Rattle.blocks.proofs.header.write_number.Goals as goal

pub returns : goal.returns
returns c = lays_then c.write_decimal-at.ensures c.write_byte.ensures
