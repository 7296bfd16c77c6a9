-- Two replies that the contract of one function allows are equal, said of the contracts themselves. Assumes nothing.
use mathlib.Core.Path.{◌≡◌, sym, ◌∙◌}
use contract.Lifetimes.{Lfts}
use borrow.Fn.Kinds.{Dens, ended_of}
use denote.Triple.Clauses.{AtExit}
use Rattle.std.proofs.Common.{Result}
use Rattle.reply.specs.declared.Refusal.{Refusal}
use Rattle.book.specs.declared.Book.{Book}
use Rattle.book.proofs.read_book.Kinds as read_book_kinds
use Rattle.book.proofs.read_book.Reads as read_book

-- Reading a book: each field of the book is settled, and so is the refusal.
pub read_book_settled :
    (κs : Lfts 1) (a : Dens κs read_book_kinds.ps) (r r' : Result Book Refusal) (e e' : AtExit (ended_of 1 read_book_kinds.ps read_book_kinds.r) κs) →
    read_book.Post κs a r e → read_book.Post κs a r' e' → r ≡ r'
read_book_settled κs a r r' e e' p p' = p.0 ∙ sym p'.0
