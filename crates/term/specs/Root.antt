-- A term's root.
use Rattle.std.specs.Prelude.{ℕ, Option, Some, None}
use Rattle.term.specs.Term.{Term, Args, var, app, nil}

-- The root's symbol: of a variable, none.
unfoldable pub symbol_of : Term → Option ℕ
symbol_of (var x) = None
symbol_of (app f ts) = Some f

-- The arguments of the root: of a variable, none.
unfoldable pub arguments : Term → Args
arguments (var x) = nil
arguments (app f ts) = ts
