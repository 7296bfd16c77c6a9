-- One item of a clause or of a solver's values: a literal or the closing 0.
use Rattle.std.specs.Prelude.{ℕ, true, false, ◌&&◌, List, [], ◌∷◌, leb}
use Rattle.std.proofs.Math.Option.{Option, none, some}
use Rattle.text.specs.Decimal.{number}
use Rattle.text.specs.Text.{ascii, same_text}
use Rattle.clauses.specs.Cnf.{Literal, is, is_not}

-- "An item is a literal or the closing 0."
pub data Item : Type 0 where
  closing : Item
  literal : Literal → Item
  faulty : Item

-- "a number from 1 to V without leading zeros"
unfoldable pub signed : (variables : ℕ) (sign : ℕ → Literal) → Option ℕ → Item
signed variables sign none = faulty
signed variables sign (some v) = elim (leb 1 v && leb v variables) [ true ↦ literal (sign v) | false ↦ faulty ]

-- "A literal is an optional minus and a number"
unfoldable pub literal_of : (variables : ℕ) → List ℕ → Item
literal_of variables [] = faulty
literal_of variables (b ∷ bs) =
    elim (same_text (b ∷ []) (ascii "-")) [
      | true ↦ signed variables is_not (number bs)
      | false ↦ signed variables is (number (b ∷ bs))
    ]

unfoldable pub item : (variables : ℕ) (word : List ℕ) → Item
item variables word = elim (same_text word (ascii "0")) [ true ↦ closing | false ↦ literal_of variables word ]
