-- The symbol is one of the sixteen that have an arity.
use Rattle.std.proofs.Common.{arith}
use Rattle.comparing.proofs.Compared.{root_is}
use Rattle.comparing.proofs.root_at.Goals as goal

pub returns : goal.returns
returns c = root_is c.requires (omega arith) c.in_ok-symbol.ensures c.arguments_at-many.ensures
