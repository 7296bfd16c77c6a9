-- Numbers behind words, as text.
use Rattle.std.specs.Prelude.{ℕ, List, ◌++◌}
use Rattle.text.specs.Decimal.{decimal}
use Rattle.text.specs.Text.{ascii}

-- A word and a number behind it, and the same as a line.
unfoldable pub counted : (word : List ℕ) → ℕ → List ℕ
counted word n = word ++ decimal n

unfoldable pub counted_line : (word : List ℕ) → ℕ → List ℕ
counted_line word n = counted word n ++ ascii "\n"
