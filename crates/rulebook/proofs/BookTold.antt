-- What a book comes to, by what reading it found: its counts. Assumes nothing.
use Prim.Native.Nat.{ℕ}
use mathlib.Core.List.{List}
use mathlib.Core.Path.{◌≡◌, sym, ap, ◌∙◌}
use lib.ListN.{length}
use Rattle.std.specs.Prelude.{Ok}
use Rattle.reply.specs.Reply.{given}
use Rattle.book.specs.Reading.{read_book}
use Rattle.book.specs.Meaning.{book_at}
use Rattle.book.specs.Placed.{placed}
use Rattle.book.specs.WasRead.{ReadFrom}
use Rattle.book.specs.declared.Book.{Book as Places}
use Rattle.book.proofs.WasRead.{read_given, read_stands}
use Rattle.clauses.specs.File.{file_blocks}
use Rattle.counts.proofs.ReadRules.{read_symbols}
use Rattle.rulebook.specs.Replies.{book_reply}

-- The book was read.
pub book_was_read :
    {bytes : List ℕ} {b : Places} → Ok b ≡ placed bytes → (blocks : ℕ) → (ReadFrom bytes b → blocks ≡ length (file_blocks (book_at bytes b))) →
    record { refusal = 0; place = 0; symbols = b.symbols; rules = b.rules; blocks = blocks } ≡ book_reply (read_book bytes)
book_was_read {bytes} {b} is blocks count-of =
    let read : ReadFrom bytes b = record { settled = sym is } in
    let count = count-of read in
    let symbols = read_symbols read in
    let rules = (read_stands read).rule_count in
    let same : record { refusal = 0; place = 0; symbols = b.symbols; rules = b.rules; blocks = blocks } ≡ book_reply (given (book_at bytes b)) = cc in
    same ∙ ap book_reply (sym (read_given read))
