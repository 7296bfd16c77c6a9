-- The reply by what reading the book comes to. A wrong program of argument_reply names this lemma, and definitions that it unfolds: with them the
-- right program in the same form is proved. Assumes nothing.
use Prim.Native.Nat.{ℕ}
use mathlib.Core.List.{List}
use mathlib.Core.Path.{◌≡◌, refl}
use Rattle.reply.specs.Reply.{Reply, given, refused, ◌>>=◌}
use Rattle.book.specs.Book.{Book}
use Rattle.book.specs.Reading.{read_book}
use Rattle.steps.specs.Argument.{Part, argument}

abbrev pub asked_by : Reply Book → Reply Part → Reply Part
asked_by (given book) part = part
asked_by (refused refusal) part = refused refusal

asked : (r : Reply Book) (next : Book → Reply Part) → ◌>>=◌ r next ≡ asked_by r (◌>>=◌ r next)
unfolding ◌>>=◌
asked (given book) next = refl
asked (refused refusal) next = refl

pub by_book : (bytes text : List ℕ) (i : ℕ) → argument bytes text i ≡ asked_by (read_book bytes) (argument bytes text i)
unfolding argument
by_book bytes text i = asked (read_book bytes) _
