-- The number, and the space behind it.
use Rattle.text.specs.Text.{ascii}
use Rattle.clauses.specs.File.{literal_bytes}
use Rattle.text.proofs.Laying.{lays_then}
use Rattle.clause_bytes.proofs.literals.write_variable.Goals as goal

pub returns : goal.returns
unfolding literal_bytes ascii
returns c = lays_then c.write_decimal-at.ensures c.write_byte.ensures
