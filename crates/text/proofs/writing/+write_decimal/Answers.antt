use Rattle.text.proofs.LastDigit.{decimal_digit, decimal_last}
use Rattle.text.proofs.Laying.{lays_then}
use Rattle.text.proofs.writing.+write_decimal.Goals as goal

pub returns-then-n-lt10 : goal.returns-then-n-lt10
returns-then-n-lt10 t c = rw (decimal_digit c.args.n c.if-n-lt10.true) c.write_digit.ensures

pub returns-else-n-lt10 : goal.returns-else-n-lt10
returns-else-n-lt10 t c = rw (decimal_last c.args.n c.if-n-lt10.false) (lays_then c.write_decimal-at.ensures c.write_digit-else-n-lt10.ensures)
