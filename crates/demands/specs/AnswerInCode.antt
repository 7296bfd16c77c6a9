-- Demand 2 of the running code's `ranks_from_answer`, said of every call that its contract allows.
use Rattle.std.specs.Prelude.{ℕ, ◌<◌, ◌≤◌, ◌≡◌, length}
use mathlib.Core.List.{List, Memᴰ}
use Rattle.reply.specs.Reply.{given}
use Rattle.reply.specs.Lent.{laid}
use Rattle.book.specs.Book.{Book, symbols}
use Rattle.book.specs.Reading.{read_book}
use Rattle.printed_answer.specs.Decided.{Decided}
use Rattle.demands.specs.EntryPoints.{Bytes, ranks_of_an_answer}
use Rattle.demands.specs.Demand2.{SomePrecedenceClears}
use Rattle.demands.specs.InCode.{InCode}

-- "Accepted ranks are written to the first n bytes of the lent buffer; later bytes keep their values": the call answers how many there are.
pub record RanksLaid (code : InCode ranks_of_an_answer) (call : code.Call) (ranks : List ℕ) : Type 0 where
  pub counted : code.answered call ≡ given (length ranks)
  pub holds : code.after call ≡ laid (given ranks) (code.before call)

-- What demand 2 says of an answer, of every call, whatever the solver printed.
pub record AnswersInCode (code : InCode ranks_of_an_answer) : Type 1 where
  -- "Ranks are accepted exactly if they make every rule decrease, whichever solver proposed them", and then they are written.
  pub decided :
      (call : code.Call) (bytes text : Bytes) (room : ℕ) (book : Book) → code.asked call ≡ (bytes, text, room) → read_book bytes ≡ given book →
      Decided book text room (code.answered call) (RanksLaid code call)
  -- An answer is accepted only if some strict precedence clears the book ..
  pub only_if_cleared :
      (call : code.Call) (bytes text : Bytes) (room count : ℕ) (book : Book) → code.asked call ≡ (bytes, text, room) →
      read_book bytes ≡ given book → code.answered call ≡ given count → SomePrecedenceClears book
  -- .. and if one does, there is a text of bytes with which every call is accepted that lends a byte for each symbol.
  pub if_cleared :
      (bytes : Bytes) (book : Book) → read_book bytes ≡ given book → SomePrecedenceClears book →
      (text : Bytes)
      × ((b : ℕ) → Memᴰ b text → b < 256)
      × ((call : code.Call) (room : ℕ) → code.asked call ≡ (bytes, text, room) → symbols book ≤ room → code.answered call ≡ given (symbols book))
