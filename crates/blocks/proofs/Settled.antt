-- Two replies that the contract of one function allows are equal, and so is what they leave in the lent buffer, said of the contracts
-- themselves: an answer can be told from what it means. Assumes nothing.
use Prim.Native.Nat.{ℕ}
use mathlib.Core.Path.{◌≡◌, sym, ◌∙◌}
use contract.Lifetimes.{Lfts}
use borrow.Fn.Kinds.{Dens, ended_of}
use denote.Triple.Clauses.{AtExit}
use Rattle.std.specs.Prelude.{Result}
use Rattle.reply.specs.declared.Refusal.{Refusal as Named}
use Rattle.reply.proofs.Replied.{replied_apart}
use Rattle.blocks.proofs.writing.write_read_block.Kinds as write_read_block_kinds
use Rattle.blocks.proofs.writing.write_read_block.Reads as write_read_block
use Rattle.blocks.proofs.write_block.Kinds as write_block_kinds
use Rattle.blocks.proofs.write_block.Reads as write_block

-- The block call: the answer, and the lent buffer's last content.
pub write_block_settled :
    (κs : Lfts 2) (a : Dens κs write_block_kinds.ps) (r r' : Result ℕ Named) (e e' : AtExit (ended_of 2 write_block_kinds.ps write_block_kinds.r) κs) →
    write_block.Post κs a r e → write_block.Post κs a r' e' → (r ≡ r') × (e.1.1.0.now ≡ e'.1.1.0.now)
write_block_settled κs a r r' e e' p p' = (replied_apart r r' (p.0 ∙ sym p'.0), p.1 ∙ sym p'.1)

-- A block of a read book: the same.
pub write_read_block_settled :
    (κs : Lfts 3) (a : Dens κs write_read_block_kinds.ps) (r r' : Result ℕ Named)
    (e e' : AtExit (ended_of 3 write_read_block_kinds.ps write_read_block_kinds.r) κs) →
    write_read_block.Post κs a r e → write_read_block.Post κs a r' e' → (r ≡ r') × (e.1.1.0.now ≡ e'.1.1.0.now)
write_read_block_settled κs a r r' e e' p p' = (replied_apart r r' (p.0 ∙ sym p'.0), p.1 ∙ sym p'.1)
