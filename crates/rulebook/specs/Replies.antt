-- Replies as C reads them: a refusal's number and place, or 0 and 0 and what was given. "a place that no text names is 0"; of a refusal
-- every other field is 0.
use Rattle.std.specs.Prelude.{ℕ, length}
use Rattle.reply.specs.Reply.{Reply, given, refused}
use Rattle.book.specs.Book.{Book, symbols}
use Rattle.clauses.specs.File.{file_blocks}
use Rattle.steps.specs.Run.{Outcome, done, spent, too_large}
use Rattle.running.specs.RunMeaning.{Told}
use Rattle.steps.specs.Argument.{Part}
use Rattle.rulebook.specs.declared.replies.Verdict.{Verdict}
use Rattle.rulebook.specs.declared.replies.BookReply.{BookReply}
use Rattle.rulebook.specs.declared.replies.WrittenReply.{WrittenReply}
use Rattle.rulebook.specs.declared.replies.RanReply.{RanReply}
use Rattle.rulebook.specs.declared.replies.PartReply.{PartReply}

-- Accepted, or refused.
abbrev pub verdict_reply : Reply (Unit {0}) → Verdict
verdict_reply (given u) = record { refusal = 0; place = 0 }
verdict_reply (refused r) = record { refusal = r.number; place = r.place }

-- A book that was read: how many symbols and rules it has, and how many blocks its clause file has, the header included.
abbrev pub book_reply : Reply Book → BookReply
book_reply (given book) =
    record { refusal = 0; place = 0; symbols = symbols book; rules = length book.rules; blocks = length (file_blocks book) }
book_reply (refused r) = record { refusal = r.number; place = r.place; symbols = 0; rules = 0; blocks = 0 }

-- How many bytes were laid at the start of the lent buffer.
abbrev pub written_reply : Reply ℕ → WrittenReply
written_reply (given many) = record { refusal = 0; place = 0; length = many }
written_reply (refused r) = record { refusal = r.number; place = r.place; length = 0 }

-- The outcomes of a run by number.
abbrev pub outcome_number : Outcome → ℕ
outcome_number done = 1
outcome_number spent = 2
outcome_number too_large = 3

-- A run: its outcome, its steps, and how many bytes the lent buffer's record has.
abbrev pub ran_reply : Reply Told → RanReply
ran_reply (given ran) =
    record { refusal = 0; place = 0; outcome = outcome_number ran.outcome; steps = ran.steps; length = ran.length }
ran_reply (refused r) = record { refusal = r.number; place = r.place; outcome = 0; steps = 0; length = 0 }

-- A part of the record: where it starts and how long it is.
abbrev pub part_reply : Reply Part → PartReply
part_reply (given part) = record { refusal = 0; place = 0; start = part.start; length = part.length }
part_reply (refused r) = record { refusal = r.number; place = r.place; start = 0; length = 0 }
