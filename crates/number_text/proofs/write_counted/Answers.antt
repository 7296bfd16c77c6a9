-- `write_counted` meets its contract. Assumes nothing.
use Rattle.text.proofs.Laying.{lays_then}
use Rattle.number_text.specs.Numbers.{counted}
use Rattle.number_text.proofs.write_counted.Goals as goal

pub returns : goal.returns
unfolding counted
returns c = lays_then c.write_text-at.ensures c.write_decimal.ensures
