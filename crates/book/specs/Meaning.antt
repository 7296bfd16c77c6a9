-- What the answer of reading a book means: a refusal's number and place, or the book whose trees stand at its places.
use Rattle.std.specs.Prelude.{ℕ, zero, suc, List, [], ◌∷◌, ◌++◌, take, Result}
use Rattle.reply.specs.Reply.{Reply}
use Rattle.reply.specs.Replied.{replied_as}
use Rattle.reply.specs.declared.Refusal.{Refusal as Named}
use Rattle.term.specs.Prefix.{tree_at}
use Rattle.book.specs.Book.{Book, Rule}
use Rattle.book.specs.Entries.{places_of}
use Rattle.book.specs.declared.Book.{Book as PlacedBook}

-- The arities of the declared symbols.
unfoldable pub arities_of : PlacedBook → List ℕ
arities_of b = take b.symbols b.arities

-- Rule i, and the rules before it.
unfoldable pub rule_at : (bytes : List ℕ) → PlacedBook → (i : ℕ) → Rule
rule_at bytes b i =
    let its = places_of b i in
    record {
      left = tree_at bytes (arities_of b) its.left.at its.left.nodes;
      right = tree_at bytes (arities_of b) its.right.at its.right.nodes;
    }

unfoldable pub rules_before : (bytes : List ℕ) → PlacedBook → (i : ℕ) → List Rule
rules_before bytes b zero = []
rules_before bytes b (suc i) = rules_before bytes b i ++ (rule_at bytes b i ∷ [])

unfoldable pub book_at : (bytes : List ℕ) → PlacedBook → Book
book_at bytes b = record { arities = arities_of b; rules = rules_before bytes b b.rules }

-- The book, or the number and the place of its refusal.
unfoldable pub meaning : (bytes : List ℕ) → Result PlacedBook Named → Reply Book
meaning bytes = replied_as (book_at bytes)
