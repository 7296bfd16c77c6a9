-- Clauses as data, and what satisfies them.
use Rattle.std.specs.Prelude.{ℕ, Bool, true, false, not, ◌&&◌, ◌||◌, List, [], ◌∷◌, T}

-- A variable, or its negation.
pub data Literal : Type 0 where
  is : ℕ → Literal
  is_not : ℕ → Literal

abbrev pub variable_of : Literal → ℕ
variable_of (is v) = v
variable_of (is_not v) = v

-- A clause holds if one of its literals does.
abbrev pub Clause : Type 0
Clause = List Literal

-- V variables, numbered from 1, and clauses over them.
pub record Cnf : Type 0 where
  pub variables : ℕ
  pub clauses : List Clause

abbrev pub Assignment : Type 0
Assignment = ℕ → Bool

unfoldable pub holds : Assignment → Literal → Bool
holds α (is v) = α v
holds α (is_not v) = not (α v)

unfoldable pub some_holds : Assignment → Clause → Bool
some_holds α [] = false
some_holds α (l ∷ ls) = holds α l || some_holds α ls

unfoldable pub all_hold : Assignment → List Clause → Bool
all_hold α [] = true
all_hold α (c ∷ cs) = some_holds α c && all_hold α cs

-- The assignment satisfies the clauses.
unfoldable pub Satisfies : Assignment → Cnf → Type 0
Satisfies α cnf = T (all_hold α cnf.clauses)
