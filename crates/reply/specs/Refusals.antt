-- "Refusals by number": each named refusal of the code with its number and its place, and back.
use Rattle.std.specs.Prelude.{ℕ, List, [], ◌∷◌, get_or}
use Rattle.std.proofs.Math.Option.{Option, none, some}
use Rattle.reply.specs.Reply.{Refusal, ◌at◌}
use Rattle.reply.specs.declared.Refusal.{Refusal as Named}
use Rattle.reply.specs.declared.Refusal.TheVariants.{
  BookEnded,
  UnknownKind,
  NotAllowed,
  BadBody,
  TooMany,
  AfterEnd,
  WrongRankCount,
  NotDecreasing,
  ShortBuffer,
  NoSuchBlock,
  BadRecord,
  AnswerTooLong,
  BadAnswer,
  NoModel,
  NoSuchArgument,
}
use Rattle.reply.specs.declared.NumberAt.{NumberAt}

unfoldable pub numbered : Named → Refusal
-- "the book ends before its end record, or inside a body": "its length"
numbered (BookEnded length) = 1 at length
-- "unknown kind": "the kind byte"
numbered (UnknownKind kind_byte) = 2 at kind_byte
-- "record not allowed here: symbol after a rule, node outside a side still open, rule or end while a side is open": "the kind byte"
numbered (NotAllowed kind_byte) = 3 at kind_byte
-- "arity above 6, variable above 15, symbol not declared": "the body byte"
numbered (BadBody body_byte) = 4 at body_byte
-- "17th symbol, 33rd rule, 11th node of a side": "the kind byte"
numbered (TooMany kind_byte) = 5 at kind_byte
-- "bytes after the end": "the first of them"
numbered (AfterEnd first) = 6 at first
-- "rank count differs from n"
numbered WrongRankCount = 7 at 0
-- "some rule does not decrease": "the lowest such rule"
numbered (NotDecreasing lowest) = 8 at lowest
-- "lent buffer under 512 bytes (block), 513 (run), n (ranks from an answer)"
numbered ShortBuffer = 9 at 0
-- "no block of that number"
numbered NoSuchBlock = 10 at 0
-- "record malformed or above 256 nodes"
numbered BadRecord = 11 at 0
-- "answer above 65,536 bytes"
numbered AnswerTooLong = 12 at 0
-- "answer malformed": "start of the first faulty line, or the text's length if something is missing"
numbered (BadAnswer place) = 13 at place
-- "UNSATISFIABLE or UNKNOWN, well formed"
numbered NoModel = 14 at 0
-- "the root has no argument i"
numbered NoSuchArgument = 15 at 0

-- The rows of the table by number, each with this place.
unfoldable pub rows : (place : ℕ) → List (Option Named)
rows place =
    none
    ∷ some (BookEnded place)
    ∷ some (UnknownKind place)
    ∷ some (NotAllowed place)
    ∷ some (BadBody place)
    ∷ some (TooMany place)
    ∷ some (AfterEnd place)
    ∷ some WrongRankCount
    ∷ some (NotDecreasing place)
    ∷ some ShortBuffer
    ∷ some NoSuchBlock
    ∷ some BadRecord
    ∷ some AnswerTooLong
    ∷ some (BadAnswer place)
    ∷ some NoModel
    ∷ some NoSuchArgument
    ∷ []

-- The row with the refusal's number, if there is one.
unfoldable pub named : Refusal → Option Named
named r = get_or (rows r.place) r.number none

-- The struct of the code that tells a refusal.
abbrev pub in_numbers : Refusal → NumberAt
in_numbers r = record { number = r.number; place = r.place }
