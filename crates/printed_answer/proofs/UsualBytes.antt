-- An answer in the solvers' usual form is made of bytes: letters, spaces, minus signs, newlines and digits. Assumes nothing.
use Prim.Native.Nat.{ℕ, ◌<◌}
use mathlib.Core.List.{List, [], ◌∷◌, ◌++◌, map, flat_map}
use mathlib.Core.Path.{sym, subst}
use native.Mathlib.Omega.{arith}
use Rattle.text.specs.Decimal.{decimal}
use Rattle.text.specs.Text.{ascii}
use Rattle.text.proofs.Decimal.{Digit, decimal_digits}
use Rattle.reply.proofs.Every.{Every, every_append, every_implied}
use Rattle.clauses.specs.Cnf.{Literal, is, is_not, Assignment}
use Rattle.clauses.specs.Numbering.{numbers}
use Rattle.printed_answer.specs.WellFormed.{spaced_text}
use Rattle.printed_answer.specs.Usual.{true_literal, singly, usual_answer}
use Rattle.printed_answer.specs.Computing.{writing}
use Rattle.printed_answer.proofs.Usual.{single_text, usual_text}

abbrev Byte : ℕ → Type 0
Byte b = b < 256

decimal_bytes : (v : ℕ) → Every Byte (decimal v)
decimal_bytes v = every_implied Digit Byte (λ b (d : Digit b). omega arith) (decimal v) (decimal_digits v)

literal_bytes_lem : (l : Literal) → Every Byte (single_text l)
unfolding writing ascii
literal_bytes_lem (is v) = (omega arith, decimal_bytes v)
literal_bytes_lem (is_not v) = (omega arith, (omega arith, decimal_bytes v))

literals_bytes : (ls : List Literal) → Every Byte (flat_map spaced_text (singly ls))
unfolding flat_map
literals_bytes [] = tt
literals_bytes (l ∷ ls) = every_append Byte (single_text l) (flat_map spaced_text (singly ls)) (literal_bytes_lem l) (literals_bytes ls)

pub usual_bytes : (variables : ℕ) (α : Assignment) → Every (λ b. b < 256) (usual_answer variables α)
unfolding ascii
usual_bytes variables α =
    let ls : List Literal = map (true_literal α) (numbers 1 variables) in
    subst (Every Byte) (sym (usual_text variables α))
    (every_append Byte (ascii "s SATISFIABLE\nv") (flat_map spaced_text (singly ls) ++ ascii " 0\n") (omega arith)
    (every_append Byte (flat_map spaced_text (singly ls)) (ascii " 0\n") (literals_bytes ls) (omega arith)))
