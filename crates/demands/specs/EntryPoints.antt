-- The six entry points side by side: what each is asked, what it replies, which numbers it refuses with, what it writes.
use Rattle.std.specs.Prelude.{ℕ, List, [], ◌∷◌, length}
use Rattle.reply.specs.Reply.{Reply, given, ◌>>=◌}
use Rattle.reply.specs.Lent.{laid}
use Rattle.book.specs.Book.{Book, symbols}
use Rattle.book.specs.Reading.{read_book}
use Rattle.record.specs.Record.{record_bytes}
use Rattle.order.specs.Clearing.{check_ranks}
use Rattle.clauses.specs.File.{block, file_blocks}
use Rattle.answer.specs.Ranks.{ranks_from_answer}
use Rattle.steps.specs.Run.{Ran, run}
use Rattle.running.specs.RunMeaning.{Told, told_of}
use Rattle.steps.specs.Argument.{Part, argument}

-- Bytes: a book, ranks, a record, a solver's answer, a lent buffer.
abbrev pub Bytes : Type 0
Bytes = List ℕ

-- `written` is what a result lays at the start of the lent buffer: nothing where no buffer is lent. `told` is what the answer itself
-- says of a result: of bytes that were written, how many there are.
pub record EntryPoint : Type 1 where
  pub Asked : Type 0
  pub Result : Type 0
  pub reply : Asked → Reply Result
  pub numbers : List ℕ
  pub written : Result → Bytes
  pub Answer : Type 0
  pub told : Result → Answer

-- What is answered.
unfoldable pub answer : (e : EntryPoint) → e.Asked → Reply e.Answer
answer e asked = do
  result ← e.reply asked
  given (e.told result)

-- What the lent buffer holds afterwards.
unfoldable pub buffer_after : (e : EntryPoint) → e.Asked → Bytes → Bytes
buffer_after e asked buffer =
    laid
    (do
      result ← e.reply asked
      given (e.written result))
    buffer

-- A book.
abbrev pub reading_a_book : EntryPoint
reading_a_book =
    record {
      Asked = Bytes;
      Result = Book;
      reply = read_book;
      numbers = 1 ∷ 2 ∷ 3 ∷ 4 ∷ 5 ∷ 6 ∷ [];
      written = λ book. [];
      Answer = Book;
      told = λ book. book;
    }

-- A book, the block's number and the lent buffer's length: "block 10, 9".
abbrev pub a_block : EntryPoint
a_block =
    record {
      Asked = Bytes × ℕ × ℕ;
      Result = Bytes;
      reply = λ asked. block asked.0 asked.1 asked.2;
      numbers = 1 ∷ 2 ∷ 3 ∷ 4 ∷ 5 ∷ 6 ∷ 10 ∷ 9 ∷ [];
      written = λ bytes. bytes;
      Answer = ℕ;
      told = λ bytes. length bytes;
    }

-- A book and ranks: "ranks 7, 8".
abbrev pub checking_ranks : EntryPoint
checking_ranks =
    record {
      Asked = Bytes × Bytes;
      Result = Unit {0};
      reply = λ asked. check_ranks asked.0 asked.1;
      numbers = 1 ∷ 2 ∷ 3 ∷ 4 ∷ 5 ∷ 6 ∷ 7 ∷ 8 ∷ [];
      written = λ accepted. [];
      Answer = Unit {0};
      told = λ accepted. accepted;
    }

-- A book, an answer and the lent buffer's length: "answer 12, 13, 14, 9, 8".
abbrev pub ranks_of_an_answer : EntryPoint
ranks_of_an_answer =
    record {
      Asked = Bytes × Bytes × ℕ;
      Result = Bytes;
      reply = λ asked. ranks_from_answer asked.0 asked.1 asked.2;
      numbers = 1 ∷ 2 ∷ 3 ∷ 4 ∷ 5 ∷ 6 ∷ 12 ∷ 13 ∷ 14 ∷ 9 ∷ 8 ∷ [];
      written = λ ranks. ranks;
      Answer = ℕ;
      told = λ ranks. length ranks;
    }

-- A book, ranks, a record, a budget and the lent buffer's length: "run 7, 8, 11, 9".
abbrev pub a_run : EntryPoint
a_run =
    record {
      Asked = Bytes × Bytes × Bytes × ℕ × ℕ;
      Result = Ran;
      reply = λ asked. run asked.0 asked.1 asked.2 asked.3 asked.4;
      numbers = 1 ∷ 2 ∷ 3 ∷ 4 ∷ 5 ∷ 6 ∷ 7 ∷ 8 ∷ 11 ∷ 9 ∷ [];
      written = λ ran. record_bytes ran.reached;
      Answer = Told;
      told = told_of;
    }

-- A book, a record and the argument's number: "argument 11, 15".
abbrev pub an_argument : EntryPoint
an_argument =
    record {
      Asked = Bytes × Bytes × ℕ;
      Result = Part;
      reply = λ asked. argument asked.0 asked.1 asked.2;
      numbers = 1 ∷ 2 ∷ 3 ∷ 4 ∷ 5 ∷ 6 ∷ 11 ∷ 15 ∷ [];
      written = λ part. [];
      Answer = Part;
      told = λ part. part;
    }

-- The six entry points.
unfoldable pub entry_points : List EntryPoint
entry_points = reading_a_book ∷ a_block ∷ checking_ranks ∷ ranks_of_an_answer ∷ a_run ∷ an_argument ∷ []

-- What C is told of a book that was read: how many symbols and rules it has, and how many blocks its clause file has. The rules themselves stand in
-- the bytes that C handed over.
pub record Counts : Type 0 where
  pub symbols : ℕ
  pub rules : ℕ
  pub blocks : ℕ

unfoldable pub counts_of : Book → Counts
counts_of book = record { symbols = symbols book; rules = length book.rules; blocks = length (file_blocks book) }

-- A book, as C is told of it.
abbrev pub counting_a_book : EntryPoint
counting_a_book =
    record {
      Asked = Bytes;
      Result = Book;
      reply = read_book;
      numbers = 1 ∷ 2 ∷ 3 ∷ 4 ∷ 5 ∷ 6 ∷ [];
      written = λ book. [];
      Answer = Counts;
      told = counts_of;
    }

-- The six as C calls them.
unfoldable pub entry_points_of_c : List EntryPoint
entry_points_of_c = counting_a_book ∷ a_block ∷ checking_ranks ∷ ranks_of_an_answer ∷ a_run ∷ an_argument ∷ []
