-- The argument question: one argument of a record's root, as a part of the record's bytes.
use Rattle.std.specs.Prelude.{ℕ, zero, suc, ◌+◌, ◌*◌, List}
use Rattle.reply.specs.Reply.{Reply, given, refused, ◌>>=◌, ◌at◌}
use Rattle.term.specs.Term.{Term, Args, var, app, nil, cons, size}
use Rattle.book.specs.Reading.{read_book}
use Rattle.record.specs.Record.{read_record}

-- "a part of the caller's own record bytes, without the end record": where it starts and how long it is.
pub record Part : Type 0 where
  pub start : ℕ
  pub length : ℕ

-- Argument i of those that stand at p on, two bytes a node. Refusal 15, "the root has no argument i".
unfoldable pub part_of : (p : ℕ) → Args → (i : ℕ) → Reply Part
part_of p nil i = refused (15 at 0)
part_of p (cons t ts) zero = given (record { start = p; length = 2 * size t })
part_of p (cons t ts) (suc i) = part_of (p + 2 * size t) ts i

-- The arguments stand behind the root's two bytes.
unfoldable pub argument_of : Term → (i : ℕ) → Reply Part
argument_of (var x) i = refused (15 at 0)
argument_of (app f ts) i = part_of 2 ts i

-- ENTRY POINT: argument i (from 0). "argument 11, 15".
unfoldable pub argument : (book record' : List ℕ) (i : ℕ) → Reply Part
argument book record' i = do
  b ← read_book book
  t ← read_record b.arities record'
  argument_of t i
