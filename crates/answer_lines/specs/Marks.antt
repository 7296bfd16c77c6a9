-- A table of the rank variables: a mark at v − 1 says how variable v is named.
use Rattle.std.specs.Prelude.{ℕ, ◌-◌, Bool, true, false, List, map, get_or, Option, Some, None}
use Rattle.std.specs.Option.{unwrap_or}
use Rattle.clauses.specs.Cnf.{Literal, is, is_not, Assignment}
use Rattle.clauses.specs.Numbering.{numbers}
use Rattle.answer_lines.specs.Values.{names}
use Rattle.answer_lines.specs.Values.{valued}

-- How literals leave a variable: not named, true, or named and not true.
unfoldable pub mark : List Literal → ℕ → Option Bool
mark ls v = elim (valued ls v) [ true ↦ Some true | false ↦ elim (names v ls) [ true ↦ Some false | false ↦ None ] ]

-- The marks of the variables 1 to 64; there are never more rank variables.
unfoldable pub table_of : List Literal → List (Option Bool)
table_of ls = map (mark ls) (numbers 1 64)

-- The value that a literal gives its variable.
abbrev pub sign : Literal → Bool
sign (is v) = true
sign (is_not v) = false

-- "one not named counts as 0": the assignment that the marks tell.
unfoldable pub assigned : (table : List (Option Bool)) → Assignment
assigned table v = unwrap_or (get_or table (v - 1) None) false
