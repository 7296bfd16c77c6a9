-- A small reader of DIMACS CNF: `p cnf V M`, then M clauses over the variables 1 to V, each ended by 0; words are parted by spaces and newlines.
use Rattle.std.specs.Prelude.{ℕ, Bool, true, false, ◌&&◌, ◌||◌, List, [], ◌∷◌, ◌++◌, eqb, length, get_or, drop}
use Rattle.std.proofs.Math.Option.{Option, none, some}
use Rattle.text.specs.Decimal.{number}
use Rattle.text.specs.Text.{ascii, same_text, space, newline, words}
use Rattle.clauses.specs.Cnf.{Clause, Cnf}
use Rattle.clauses.specs.Item.{closing, literal, faulty, item}

unfoldable pub blank : ℕ → Bool
blank b = space b || newline b

-- One clause ahead of those that were read.
unfoldable pub ahead : Clause → Option (List Clause) → Option (List Clause)
ahead clause none = none
ahead clause (some clauses) = some (clause ∷ clauses)

-- The words that are left once no clause may stay open.
unfoldable pub all_closed : (opened : Clause) → Option (List Clause)
all_closed [] = some []
all_closed (l ∷ ls) = none

-- The clauses of the words; `opened` has the literals of the clause that is not closed yet.
unfoldable pub clauses_of : (variables : ℕ) (opened : Clause) → List (List ℕ) → Option (List Clause)
clauses_of variables opened [] = all_closed opened
clauses_of variables opened (word ∷ words) =
    elim (item variables word) [
      | closing ↦ ahead opened (clauses_of variables [] words)
      | literal l ↦ clauses_of variables (opened ++ (l ∷ [])) words
      | faulty ↦ none
    ]

-- The header's M is the number of clauses.
unfoldable pub counted : (variables count : ℕ) → Option (List Clause) → Option Cnf
counted variables count none = none
counted variables count (some clauses) =
    elim (eqb (length clauses) count) [
      | true ↦ some (record { variables = variables; clauses = clauses })
      | false ↦ none
    ]

unfoldable pub behind_header : (variables count : Option ℕ) → List (List ℕ) → Option Cnf
behind_header none count words = none
behind_header (some v) none words = none
behind_header (some v) (some m) words = counted v m (clauses_of v [] words)

unfoldable pub from_words : List (List ℕ) → Option Cnf
from_words words =
    elim (same_text (get_or words 0 []) (ascii "p") && same_text (get_or words 1 []) (ascii "cnf")) [
      | true ↦ behind_header (number (get_or words 2 [])) (number (get_or words 3 [])) (drop 4 words)
      | false ↦ none
    ]

unfoldable pub read_dimacs : List ℕ → Option Cnf
read_dimacs text = from_words (words blank text)
