-- Two replies that the contract of one function allows are equal, and so is what they leave in the lent buffer, said of the contracts
-- themselves. Assumes nothing.
use Prim.Native.Nat.{ℕ}
use mathlib.Core.Path.{◌≡◌}
use contract.Lifetimes.{Lfts}
use borrow.Fn.Kinds.{Dens, ended_of}
use denote.Triple.Clauses.{AtExit}
use Rattle.text.proofs.Laying.{lays_settled}
use Rattle.pair_blocks.proofs.write_pair.Kinds as write_pair_kinds
use Rattle.pair_blocks.proofs.write_pair.Reads as write_pair

pub write_pair_settled :
    (κs : Lfts 1) (a : Dens κs write_pair_kinds.ps) (r r' : ℕ) (e e' : AtExit (ended_of 1 write_pair_kinds.ps write_pair_kinds.r) κs) →
    write_pair.Post κs a r e → write_pair.Post κs a r' e' → (r ≡ r') × (e.1.1.0.now ≡ e'.1.1.0.now)
write_pair_settled κs a r r' e e' p p' = lays_settled p p'
