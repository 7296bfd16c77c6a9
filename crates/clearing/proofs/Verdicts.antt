-- The rank check case by case: a book that cannot be read, a wrong count, then what the rules reply. Assumes nothing.
use Prim.Native.Nat.{ℕ}
use mathlib.Core.List.{List}
use mathlib.Core.Path.{◌≡◌}
use borrow.Author.Tests.{eq-eqb, ne_eqb}
use lib.ListN.{length}
use Rattle.std.specs.Prelude.{Ok, Err}
use Rattle.reply.specs.Replied.{replied}
use Rattle.reply.specs.declared.Refusal.{Refusal as Named}
use Rattle.reply.specs.Reply.{refused, unless, ◌>>◌, ◌>>=◌, ◌at◌}
use Rattle.book.specs.Book.{Book, symbols}
use Rattle.book.specs.Meaning.{book_at}
use Rattle.book.specs.Placed.{placed}
use Rattle.book.specs.declared.Book.{Book as PlacedBook}
use Rattle.book.proofs.WasRead.{read_from_lem, read_given, read_refused}
use Rattle.order.proofs.Checked.{check_of_read}
use Rattle.order.specs.Test.{exceeds}
use Rattle.order.specs.Clearing.{all_decrease, ranks_clear, check_ranks}

pub wrong_count : (book : Book) (ranks : List ℕ) → (length ranks ≡ symbols book → ⊥) → ranks_clear book ranks ≡ refused (7 at 0)
unfolding ranks_clear unless ◌>>◌
wrong_count book ranks other = rw (ne_eqb (length ranks) (symbols book) other, ◌>>◌)

pub right_count : (book : Book) (ranks : List ℕ) → length ranks ≡ symbols book → ranks_clear book ranks ≡ all_decrease (exceeds ranks) 0 book.rules
unfolding ranks_clear unless ◌>>◌
right_count book ranks same = rw (eq-eqb (length ranks) (symbols book) same, ◌>>◌)

-- A book that cannot be read is refused for what the reading says, and one that was read is checked.
pub unreadable : (bytes ranks : List ℕ) {why : Named} → Err why ≡ placed bytes → check_ranks bytes ranks ≡ replied (Err why)
unfolding check_ranks ◌>>=◌ replied
unreadable bytes ranks settled = rw (read_refused bytes settled, ◌>>=◌)

pub readable :
    (bytes ranks : List ℕ) {places : PlacedBook} → Ok places ≡ placed bytes → check_ranks bytes ranks ≡ ranks_clear (book_at bytes places) ranks
readable bytes ranks {places} settled = check_of_read bytes (book_at bytes places) ranks (read_given (read_from_lem settled))
