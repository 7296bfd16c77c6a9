-- The argument question: the book, the record and the argument are asked for in turn. Assumes nothing.
use Prim.Native.Nat.{ℕ}
use mathlib.Core.List.{List}
use mathlib.Core.Path.{◌≡◌}
use Rattle.reply.specs.Reply.{Refusal, refused, given, ◌>>=◌}
use Rattle.term.specs.Term.{Term}
use Rattle.book.specs.Book.{Book}
use Rattle.book.specs.Reading.{read_book}
use Rattle.record.specs.Record.{read_record}
use Rattle.steps.specs.Argument.{argument_of, argument}

module _ (bytes text : List ℕ) (i : ℕ) where
  pub not_read : {r : Refusal} → read_book bytes ≡ refused r → argument bytes text i ≡ refused r
  unfolding argument ◌>>=◌
  not_read e = rw (e, ◌>>=◌)

  module _ {book : Book} (read : read_book bytes ≡ given book) where
    pub malformed : {r : Refusal} → read_record book.arities text ≡ refused r → argument bytes text i ≡ refused r
    unfolding argument ◌>>=◌
    malformed e = rw (read, ◌>>=◌, e)

    pub asked : {t : Term} → read_record book.arities text ≡ given t → argument bytes text i ≡ argument_of t i
    unfolding argument ◌>>=◌
    asked e = rw (read, ◌>>=◌, e)
