-- From a solver's answer to ranks that were checked.
use Rattle.std.specs.Prelude.{ℕ, ◌*◌, List, leb, length}
use Rattle.reply.specs.Reply.{Reply, given, unless, ◌>>◌, ◌>>=◌, ◌at◌}
use Rattle.term.specs.Tables.{rank_bits}
use Rattle.book.specs.Book.{Book, symbols}
use Rattle.book.specs.Reading.{read_book}
use Rattle.order.specs.Test.{exceeds}
use Rattle.order.specs.Clearing.{all_decrease}
use Rattle.clauses.specs.Cnf.{Assignment}
use Rattle.clauses.specs.Numbering.{ranks_of}
use Rattle.clauses.specs.Blocks.{«V»}
use Rattle.answer_lines.specs.Values.{valued}
use Rattle.answer_lines.specs.Lines.{read_answer}

-- "9, 8": the ranks of an assignment, once they are checked; `room` is the lent buffer's length.
unfoldable pub ranks_checked : Book → Assignment → (room : ℕ) → Reply (List ℕ)
ranks_checked book α room = do
  unless (leb (symbols book) room) (9 at 0)
  all_decrease (exceeds (ranks_of (symbols book) (rank_bits (symbols book)) α)) 0 book.rules
  given (ranks_of (symbols book) (rank_bits (symbols book)) α)

-- "answer 12, 13, 14, 9, 8", of a book that was read.
unfoldable pub answered : Book → (text : List ℕ) (room : ℕ) → Reply (List ℕ)
answered book text room = do
  unless (leb (length text) 65536) (12 at 0)
  literals ← read_answer («V» book) (symbols book * rank_bits (symbols book)) text
  ranks_checked book (valued literals) room

-- ENTRY POINT: ranks from an answer.
unfoldable pub ranks_from_answer : (book text : List ℕ) (room : ℕ) → Reply (List ℕ)
ranks_from_answer book text room = do
  b ← read_book book
  answered b text room
