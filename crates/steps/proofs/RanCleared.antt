-- The run, question by question: of a cleared book "11, 9", and then the run; before it the book and its ranks. Assumes nothing.
use Prim.Native.Nat.{ℕ, ◌<◌, ◌≤◌}
use mathlib.Core.List.{List}
use mathlib.Core.Path.{◌≡◌}
use borrow.Author.Tests.{le-leb, lt-leb}
use Rattle.reply.specs.Reply.{Refusal, refused, given, unless, ◌>>◌, ◌>>=◌, ◌at◌}
use Rattle.term.specs.Term.{Term}
use Rattle.book.specs.Book.{Book}
use Rattle.book.specs.Reading.{read_book}
use Rattle.record.specs.Record.{read_record}
use Rattle.order.specs.Clearing.{ranks_clear}
use Rattle.steps.specs.Run.{run_from, ran_cleared, run}

module _ (book : Book) (text : List ℕ) (budget room : ℕ) where
  pub malformed : {r : Refusal} → read_record book.arities text ≡ refused r → ran_cleared book text budget room ≡ refused r
  unfolding ran_cleared ◌>>=◌
  malformed e = rw (e, ◌>>=◌)

  pub short : {t : Term} → read_record book.arities text ≡ given t → room < 513 → ran_cleared book text budget room ≡ refused (9 at 0)
  unfolding ran_cleared ◌>>◌ ◌>>=◌ unless
  short e p = rw (e, ◌>>=◌, lt-leb 513 room p, unless)

  pub runs : {t : Term} → read_record book.arities text ≡ given t → 513 ≤ room → ran_cleared book text budget room ≡ given (run_from book.rules budget 0 t)
  unfolding ran_cleared ◌>>◌ ◌>>=◌ unless
  runs e p = rw (e, ◌>>=◌, le-leb 513 room p, unless)

-- The book that stands in the bytes, and what the ranks do to it.
module _ (bytes ranks text : List ℕ) (budget room : ℕ) where
  pub not_read : {r : Refusal} → read_book bytes ≡ refused r → run bytes ranks text budget room ≡ refused r
  unfolding run ◌>>=◌
  not_read e = rw (e, ◌>>=◌)

  module _ {book : Book} (read : read_book bytes ≡ given book) where
    pub not_cleared : {r : Refusal} → ranks_clear book ranks ≡ refused r → run bytes ranks text budget room ≡ refused r
    unfolding run ◌>>=◌ ◌>>◌
    not_cleared e = rw (read, ◌>>=◌, e, ◌>>◌)

    pub cleared : ranks_clear book ranks ≡ given tt → run bytes ranks text budget room ≡ ran_cleared book text budget room
    unfolding run ◌>>=◌ ◌>>◌
    cleared e = rw (read, ◌>>=◌, e, ◌>>◌)

-- A book that the ranks clear.
pub then_run :
    (book : Book) (ranks text : List ℕ) (budget room : ℕ) {t : Term} → ranks_clear book ranks ≡ given tt → read_record book.arities text ≡ given t → 513 ≤ room →
    ◌>>◌ (ranks_clear book ranks) (ran_cleared book text budget room) ≡ given (run_from book.rules budget 0 t)
unfolding ◌>>◌
then_run book ranks text budget room cleared e p = rw (cleared, ◌>>◌) (runs book text budget room e p)
