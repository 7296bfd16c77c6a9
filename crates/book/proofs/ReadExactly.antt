-- Which bytes are read, and to what: a book's bytes, exactly if the book keeps to the limits. Assumes nothing.
use Prim.Native.Nat.{ℕ}
use mathlib.Core.List.{List}
use mathlib.Core.Logic.{◌↔◌}
use mathlib.Core.Path.{◌≡◌, ap, ◌∙◌}
use Rattle.reply.specs.Reply.{given}
use Rattle.book.specs.Book.{Book}
use Rattle.book.specs.Bytes.{book_bytes}
use Rattle.book.specs.Limits.{WithinLimits}
use Rattle.book.specs.Reading.{read_book}
use Rattle.book.proofs.Limits.{read_within_limits}
use Rattle.book.proofs.BytesRead.{bytes_read}
use Rattle.book.proofs.BytesTaken.{bytes_taken}

pub book_read_exactly : (bytes : List ℕ) (book : Book) → (read_book bytes ≡ given book) ↔ (WithinLimits book × (bytes ≡ book_bytes book))
book_read_exactly bytes book =
    (λ e. (read_within_limits bytes book e, bytes_read bytes book e), λ h. ap read_book h.1 ∙ bytes_taken book h.0)
