-- The record of "Examples at the edges", as bytes.
use Rattle.std.specs.Prelude.{ℕ, List, [], ◌∷◌}

-- z/0, s/1, a/2: a(s(z),z)
unfoldable pub one_and_none : List ℕ
one_and_none = 3 ∷ 2 ∷ 3 ∷ 1 ∷ 3 ∷ 0 ∷ 3 ∷ 0 ∷ 5 ∷ []
