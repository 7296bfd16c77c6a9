-- The first nodes of a left side and of a subterm.
use Rattle.std.specs.Prelude.{Bool, true, false, eqb}
use Rattle.term.specs.Term.{Term, var, app}

-- Whether a left side begins with a variable, or with the symbol of s: otherwise it can't fit.
unfoldable pub begins_alike : (left s : Term) → Bool
begins_alike (var x) s = true
begins_alike (app f ls) (var y) = false
begins_alike (app f ls) (app g ss) = eqb f g
