-- Two replies that the contract of `write_book` allows are equal, and so is what they leave in the lent buffer, said of the contract
-- itself. Assumes nothing.
use Prim.Native.Nat.{ℕ}
use mathlib.Core.Path.{◌≡◌}
use contract.Lifetimes.{Lfts}
use borrow.Fn.Kinds.{Dens, ended_of}
use denote.Triple.Clauses.{AtExit}
use Rattle.text.proofs.Laying.{lays_settled}
use Rattle.book_lines.proofs.write_book.Kinds as write_book_kinds
use Rattle.book_lines.proofs.write_book.Reads as write_book

pub write_book_settled :
    (κs : Lfts 2) (a : Dens κs write_book_kinds.ps) (r r' : ℕ) (e e' : AtExit (ended_of 2 write_book_kinds.ps write_book_kinds.r) κs) →
    write_book.Post κs a r e → write_book.Post κs a r' e' → (r ≡ r') × (e.1.0.now ≡ e'.1.0.now)
write_book_settled κs a r r' e e' p p' = lays_settled p p'
