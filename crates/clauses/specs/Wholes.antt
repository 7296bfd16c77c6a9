-- A whole and its parts: the clauses by which the whole is true exactly if all of its parts are, or exactly if some part is.
use Rattle.std.specs.Prelude.{ℕ, List, [], ◌∷◌, ◌++◌, map}
use Rattle.clauses.specs.Cnf.{is, is_not, Clause}

-- The whole exactly if all parts: "(−D qi) for each i, then (D −q1 .. −qp)"; with no parts "(−D)".
unfoldable pub all_parts : (whole : ℕ) (parts : List ℕ) → List Clause
all_parts whole [] = (is_not whole ∷ []) ∷ []
all_parts whole (q ∷ qs) = map (λ q'. is_not whole ∷ is q' ∷ []) (q ∷ qs) ++ ((is whole ∷ map is_not (q ∷ qs)) ∷ [])

-- The whole exactly if some part: "(C −part) for each, then (−C part1 .. )".
unfoldable pub some_parts : (whole : ℕ) (parts : List ℕ) → List Clause
some_parts whole parts = map (λ q. is whole ∷ is_not q ∷ []) parts ++ ((is_not whole ∷ map is parts) ∷ [])
