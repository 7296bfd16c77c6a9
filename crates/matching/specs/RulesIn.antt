-- The rules of a read book, as trees.
use Rattle.std.specs.Prelude.{ℕ, List}
use Rattle.book.specs.Book.{Rule}
use Rattle.book.specs.Meaning.{book_at}
use Rattle.book.specs.declared.Book.{Book as Places}

abbrev pub rules_in : (bytes : List ℕ) → Places → List Rule
rules_in bytes places = (book_at bytes places).rules
