-- Demand 2 of the running code's `check_ranks`, said of every call that its contract allows.
use Rattle.std.specs.Prelude.{◌↔◌, ◌≡◌, length}
use Rattle.reply.specs.Reply.{given}
use Rattle.book.specs.Book.{Book, symbols}
use Rattle.book.specs.Reading.{read_book}
use Rattle.order.specs.Precedence.{Above}
use Rattle.order.specs.Clearing.{Clears}
use Rattle.demands.specs.EntryPoints.{Bytes, checking_ranks}
use Rattle.demands.specs.InCode.{InCode}

-- "Ranks are accepted exactly if they make every rule decrease", one for each symbol.
unfoldable pub AcceptedInCode : InCode checking_ranks → Type 0
AcceptedInCode code =
    (call : code.Call) (bytes ranks : Bytes) (book : Book) → code.asked call ≡ (bytes, ranks) → read_book bytes ≡ given book →
    (code.answered call ≡ given tt) ↔ ((length ranks ≡ symbols book) × Clears (Above ranks) book.rules)
