-- "block 10, 9" on paper: no block of that number, then a short buffer, then the block's text. Assumes nothing.
use Prim.Native.Nat.{ℕ, ◌≤◌, ◌<◌}
use mathlib.Core.List.{List}
use mathlib.Core.Option.{none, some}
use mathlib.Core.Path.{◌≡◌}
use lib.ListN.{get_elem?}
use borrow.Author.Tests.{le-leb, lt-leb}
use Rattle.reply.specs.Reply.{given, refused, unless, ◌>>◌, ◌>>=◌, ◌at◌}
use Rattle.reply.proofs.Given.{given_bind}
use Rattle.book.specs.Book.{Book}
use Rattle.book.specs.Reading.{read_book}
use Rattle.clauses.specs.File.{file_blocks, numbered_block, block_of, block}

-- The reply of a book that was read.
module _ (book : Book) (number room : ℕ) where
  pub no_block : get_elem? (file_blocks book) number ≡ none → block_of book number room ≡ refused (10 at 0)
  unfolding block_of numbered_block ◌>>=◌
  no_block e = rw e

  pub short_room : {text : List ℕ} → get_elem? (file_blocks book) number ≡ some text → room < 512 → block_of book number room ≡ refused (9 at 0)
  unfolding block_of numbered_block unless ◌>>=◌ ◌>>◌
  short_room there h = rw (there, lt-leb _ _ h)

  pub its_text : {text : List ℕ} → get_elem? (file_blocks book) number ≡ some text → 512 ≤ room → block_of book number room ≡ given text
  unfolding block_of numbered_block unless ◌>>=◌ ◌>>◌
  its_text there h = rw (there, le-leb _ _ h)

-- The book's own refusals come first.
pub block_of_read : (bytes : List ℕ) (number room : ℕ) (book : Book) → read_book bytes ≡ given book → block bytes number room ≡ block_of book number room
unfolding block
block_of_read bytes number room book read = given_bind (read_book bytes) (λ b. block_of b number room) book read
