-- Two replies that the contract of one function allows are equal, said of the contracts themselves. Assumes nothing.
use Prim.Native.Nat.{ℕ}
use mathlib.Core.Path.{◌≡◌, sym, ◌∙◌}
use contract.Lifetimes.{Lfts}
use borrow.Fn.Kinds.{Dens, ended_of}
use denote.Triple.Clauses.{AtExit}
use Rattle.counts.proofs.variables.Kinds as variables_kinds
use Rattle.counts.proofs.variables.Reads as variables
use Rattle.counts.proofs.count_blocks.Kinds as count_blocks_kinds
use Rattle.counts.proofs.count_blocks.Reads as count_blocks

-- V of a read book.
pub variables_settled :
    (κs : Lfts 1) (a : Dens κs variables_kinds.ps) (r r' : ℕ) (e e' : AtExit (ended_of 1 variables_kinds.ps variables_kinds.r) κs) →
    variables.Pre κs a → variables.Post κs a r e → variables.Post κs a r' e' → r ≡ r'
variables_settled κs a r r' e e' was p p' = p was.bytes was.read ∙ sym (p' was.bytes was.read)

-- How many blocks a read book has.
pub count_blocks_settled :
    (κs : Lfts 1) (a : Dens κs count_blocks_kinds.ps) (r r' : ℕ) (e e' : AtExit (ended_of 1 count_blocks_kinds.ps count_blocks_kinds.r) κs) →
    count_blocks.Pre κs a → count_blocks.Post κs a r e → count_blocks.Post κs a r' e' → r ≡ r'
count_blocks_settled κs a r r' e e' was p p' = p was.bytes was.read ∙ sym (p' was.bytes was.read)
