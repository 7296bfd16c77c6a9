-- "Bytes of a book", of the running code's `read_book` and of the call for C, said of every call that their contracts allow.
use Rattle.std.specs.Prelude.{◌↔◌, ◌≡◌}
use Rattle.reply.specs.Reply.{given}
use Rattle.book.specs.Book.{Book}
use Rattle.book.specs.Bytes.{book_bytes}
use Rattle.book.specs.Limits.{WithinLimits}
use Rattle.demands.specs.EntryPoints.{Bytes, Counts, counts_of, reading_a_book, counting_a_book}
use Rattle.demands.specs.InCode.{InCode}

-- Exactly the bytes of the books that keep to the limits are read, each to its book: no good book is refused, and no other is read.
unfoldable pub BooksInCode : InCode reading_a_book → Type 0
BooksInCode code =
    (call : code.Call) (bytes : Bytes) (book : Book) → code.asked call ≡ bytes →
    (code.answered call ≡ given book) ↔ (WithinLimits book × (bytes ≡ book_bytes book))

-- C is told the counts of that book and none of its trees: they are in its own bytes, which are those of no other book.
pub record CountedBook (bytes : Bytes) (counts : Counts) : Type 0 where
  pub book : Book
  pub within : WithinLimits book
  pub bytes_are : bytes ≡ book_bytes book
  pub counts_are : counts ≡ counts_of book

unfoldable pub BooksCountedInCode : InCode counting_a_book → Type 0
BooksCountedInCode code =
    (call : code.Call) (bytes : Bytes) (counts : Counts) → code.asked call ≡ bytes → (code.answered call ≡ given counts) ↔ CountedBook bytes counts
