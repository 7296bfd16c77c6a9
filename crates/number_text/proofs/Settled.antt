-- Two replies that the contract of one function allows are equal, and so is what they leave in the lent buffer, said of the contracts
-- themselves. Assumes nothing.
use Prim.Native.Nat.{ℕ}
use mathlib.Core.Path.{◌≡◌}
use contract.Lifetimes.{Lfts}
use borrow.Fn.Kinds.{Dens, ended_of}
use denote.Triple.Clauses.{AtExit}
use Rattle.text.proofs.Laying.{lays_settled}
use Rattle.number_text.proofs.write_counted.Kinds as write_counted_kinds
use Rattle.number_text.proofs.write_counted.Reads as write_counted
use Rattle.number_text.proofs.write_line.Kinds as write_line_kinds
use Rattle.number_text.proofs.write_line.Reads as write_line

pub write_counted_settled :
    (κs : Lfts 2) (a : Dens κs write_counted_kinds.ps) (r r' : ℕ) (e e' : AtExit (ended_of 2 write_counted_kinds.ps write_counted_kinds.r) κs) →
    write_counted.Post κs a r e → write_counted.Post κs a r' e' → (r ≡ r') × (e.1.1.0.now ≡ e'.1.1.0.now)
write_counted_settled κs a r r' e e' p p' = lays_settled p p'

pub write_line_settled :
    (κs : Lfts 2) (a : Dens κs write_line_kinds.ps) (r r' : ℕ) (e e' : AtExit (ended_of 2 write_line_kinds.ps write_line_kinds.r) κs) →
    write_line.Post κs a r e → write_line.Post κs a r' e' → (r ≡ r') × (e.1.1.0.now ≡ e'.1.1.0.now)
write_line_settled κs a r r' e e' p p' = lays_settled p p'
