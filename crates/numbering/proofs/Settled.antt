-- Two replies that the contract of one function allows are equal, said of the contracts themselves. Assumes nothing.
use Prim.Native.Nat.{ℕ}
use mathlib.Core.Path.{◌≡◌, sym, ◌∙◌}
use contract.Lifetimes.{Lfts}
use borrow.Fn.Kinds.{Dens, ended_of}
use denote.Triple.Clauses.{AtExit}
use Rattle.numbering.proofs.larger_number.Kinds as larger_number_kinds
use Rattle.numbering.proofs.larger_number.Reads as larger_number
use Rattle.numbering.proofs.pairs_clauses.Kinds as pairs_clauses_kinds
use Rattle.numbering.proofs.pairs_clauses.Reads as pairs_clauses

pub larger_number_settled :
    (κs : Lfts 0) (a : Dens κs larger_number_kinds.ps) (r r' : ℕ) (e e' : AtExit (ended_of 0 larger_number_kinds.ps larger_number_kinds.r) κs) →
    larger_number.Post κs a r e → larger_number.Post κs a r' e' → r ≡ r'
larger_number_settled κs a r r' e e' p p' = p ∙ sym p'

pub pairs_clauses_settled :
    (κs : Lfts 0) (a : Dens κs pairs_clauses_kinds.ps) (r r' : ℕ) (e e' : AtExit (ended_of 0 pairs_clauses_kinds.ps pairs_clauses_kinds.r) κs) →
    pairs_clauses.Post κs a r e → pairs_clauses.Post κs a r' e' → r ≡ r'
pairs_clauses_settled κs a r r' e e' p p' = p.1 ∙ sym p'.1
