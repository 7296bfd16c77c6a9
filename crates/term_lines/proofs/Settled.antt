-- Two replies that the contract of `write_term_lines` allows are equal, and so is what they leave in the lent buffer, said of the contract
-- itself, where a term stands at the start of the bytes. Assumes nothing.
use Prim.Native.Nat.{ℕ}
use mathlib.Core.Path.{◌≡◌}
use contract.Lifetimes.{Lfts}
use borrow.Fn.Kinds.{Dens, ended_of}
use denote.Triple.Clauses.{AtExit}
use Rattle.text.proofs.Laying.{lays_settled}
use Rattle.term.specs.Term.{Term}
use Rattle.term.specs.At.{At}
use Rattle.term_lines.proofs.write_term_lines.Kinds as write_term_lines_kinds
use Rattle.term_lines.proofs.write_term_lines.Reads as write_term_lines

pub write_term_lines_settled :
    (κs : Lfts 3) (a : Dens κs write_term_lines_kinds.ps) (r r' : ℕ)
    (e e' : AtExit (ended_of 3 write_term_lines_kinds.ps write_term_lines_kinds.r) κs) →
    (t : Term) (end : ℕ) → At a.0.now.bytes.now a.0.now.arities 0 t end →
    write_term_lines.Post κs a r e → write_term_lines.Post κs a r' e' → (r ≡ r') × (e.1.1.0.now ≡ e'.1.1.0.now)
write_term_lines_settled κs a r r' e e' t end stands p p' = lays_settled (p.told t end stands) (p'.told t end stands)
