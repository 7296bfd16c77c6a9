-- The next step, question by question: the book, its ranks and the record are asked for in turn. Assumes nothing.
use Prim.Native.Nat.{ℕ}
use mathlib.Core.List.{List}
use mathlib.Core.Path.{◌≡◌}
use Rattle.reply.specs.Reply.{Refusal, refused, given, ◌>>◌, ◌>>=◌}
use Rattle.term.specs.Term.{Term}
use Rattle.book.specs.Book.{Book}
use Rattle.book.specs.Reading.{read_book}
use Rattle.record.specs.Record.{read_record}
use Rattle.order.specs.Clearing.{ranks_clear}
use Rattle.steps.specs.NextStep.{taken_in, next_cleared, next_step}

module _ (book : Book) (text : List ℕ) where
  pub malformed : {r : Refusal} → read_record book.arities text ≡ refused r → next_cleared book text ≡ refused r
  unfolding next_cleared ◌>>=◌
  malformed e = rw (e, ◌>>=◌)

  pub found : {t : Term} → read_record book.arities text ≡ given t → next_cleared book text ≡ given (taken_in book.rules 0 t)
  unfolding next_cleared ◌>>=◌
  found e = rw (e, ◌>>=◌)

module _ (bytes ranks text : List ℕ) where
  pub not_read : {r : Refusal} → read_book bytes ≡ refused r → next_step bytes ranks text ≡ refused r
  unfolding next_step ◌>>=◌
  not_read e = rw (e, ◌>>=◌)

  module _ {book : Book} (read : read_book bytes ≡ given book) where
    pub not_cleared : {r : Refusal} → ranks_clear book ranks ≡ refused r → next_step bytes ranks text ≡ refused r
    unfolding next_step ◌>>=◌ ◌>>◌
    not_cleared e = rw (read, ◌>>=◌, e, ◌>>◌)

    pub cleared : ranks_clear book ranks ≡ given tt → next_step bytes ranks text ≡ next_cleared book text
    unfolding next_step ◌>>=◌ ◌>>◌
    cleared e = rw (read, ◌>>=◌, e, ◌>>◌)
