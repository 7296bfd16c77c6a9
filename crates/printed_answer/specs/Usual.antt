-- An answer in the solvers' usual form: the verdict, then one v line with a literal of each variable, in order.
use Rattle.std.specs.Prelude.{ℕ, true, false, List, [], map}
use Rattle.clauses.specs.Cnf.{Literal, is, is_not, Assignment}
use Rattle.clauses.specs.Numbering.{numbers}
use Rattle.printed_answer.specs.WellFormed.{Spaced, Answer, answer_lines, ended}

-- The literal of a variable that an assignment makes true.
unfoldable pub true_literal : Assignment → (v : ℕ) → Literal
true_literal α v = elim (α v) [ true ↦ is v | false ↦ is_not v ]

-- Literals after one space each.
abbrev pub singly : List Literal → List Spaced
singly ls = map (λ (l : Literal). record { more = 0; literal = l }) ls

abbrev pub usual : (variables : ℕ) → Assignment → Answer
usual variables α = record {
  before = [];
  lines = [];
  closing = record { literals = singly (map (true_literal α) (numbers 1 variables)); more = 0; at_end = 0 };
  behind = [];
}

unfoldable pub usual_answer : (variables : ℕ) → Assignment → List ℕ
usual_answer variables α = ended (answer_lines (usual variables α))
