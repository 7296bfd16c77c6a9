-- What the code's values mean on paper, and the clauses of a whole and its parts by the sign of the whole.
use Rattle.std.specs.Prelude.{ℕ, List, [], ◌∷◌, ◌++◌, map, take}
use Rattle.clauses.specs.Cnf.{is, is_not, Clause}
use Rattle.clauses.specs.Cnf as Cnf
use Rattle.clause_bytes.specs.declared.writing.Literal.{Literal}
use Rattle.clause_bytes.specs.declared.writing.Literal.TheVariants.{Is, IsNot}
use Rattle.clause_bytes.specs.declared.gathering.Parts.{Parts}

-- The literal that a value stands for.
unfoldable pub meant : Literal → Cnf.Literal
meant (Is v) = is v
meant (IsNot v) = is_not v

-- The parts that a value holds.
unfoldable pub parts_in : Parts → List ℕ
parts_in parts = take parts.many parts.of

-- A part as it stands in a clause with the whole: with the other sign.
unfoldable pub against : Cnf.Literal → ℕ → Cnf.Literal
against (is v) part = is_not part
against (is_not v) part = is part

-- The whole and one part, for each part.
unfoldable pub part_clauses : Cnf.Literal → List ℕ → List Clause
part_clauses whole parts = map (λ part. whole ∷ against whole part ∷ []) parts

-- That, and one clause of the whole with the other sign and all parts.
unfoldable pub both_ways : (one other : Cnf.Literal) → List ℕ → List Clause
both_ways one other parts = part_clauses one parts ++ ((other ∷ map (against other) parts) ∷ [])
