-- The clauses of a pair at a higher bit by the sign of G: three with G, three with its negation.
use Rattle.std.specs.Prelude.{List, [], ◌∷◌}
use Rattle.clauses.specs.Cnf.{Literal, Clause}

-- The whole with each two of three literals.
unfoldable pub each_two : (whole x y z : Literal) → List Clause
each_two whole x y z = (whole ∷ x ∷ y ∷ []) ∷ (whole ∷ x ∷ z ∷ []) ∷ (whole ∷ y ∷ z ∷ []) ∷ []
