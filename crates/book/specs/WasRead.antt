-- A book that was read: what a function that works on a read book asks of it.
use Rattle.std.specs.Prelude.{ℕ, List, ◌≡◌, Ok}
use Rattle.book.specs.Placed.{placed}
use Rattle.book.specs.declared.Book.{Book as PlacedBook}

-- Reading these bytes gives this book.
pub record ReadFrom (bytes : List ℕ) (b : PlacedBook) : Type 0 where
  pub settled : placed bytes ≡ Ok b

-- It was read from some bytes.
pub record WasRead (b : PlacedBook) : Type 0 where
  pub bytes : List ℕ
  pub read : ReadFrom bytes b
