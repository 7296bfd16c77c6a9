-- "Bytes of a book": those of a book that is given as trees.
use Rattle.std.specs.Prelude.{ℕ, List, [], ◌∷◌, ◌++◌}
use Rattle.term.specs.Prefix.{prefix}
use Rattle.book.specs.Book.{Book, Rule}

-- "1 symbol, body one byte, the arity"; "Symbols come first".
unfoldable pub symbols_bytes : (arities : List ℕ) → List ℕ
symbols_bytes [] = []
symbols_bytes (arity ∷ arities) = 1 ∷ arity ∷ symbols_bytes arities

-- "A rule is kind 2, the left term, the right term, each in prefix order."
unfoldable pub rule_bytes : Rule → List ℕ
rule_bytes rule = 2 ∷ (prefix rule.left ++ prefix rule.right)

unfoldable pub rules_bytes : List Rule → List ℕ
rules_bytes [] = []
rules_bytes (rule ∷ rules) = rule_bytes rule ++ rules_bytes rules

-- "Then kind 5 and nothing more."
unfoldable pub book_bytes : Book → List ℕ
book_bytes book = symbols_bytes book.arities ++ (rules_bytes book.rules ++ (5 ∷ []))
