-- The loop has laid the clauses of the bits that it passed.
use Rattle.std.proofs.Common.{arith, ap, ◌<◌}
use Rattle.clauses.specs.Numbering.{numbers}
use Rattle.clauses.specs.Blocks.{pair_block}
use Rattle.text.proofs.Laying.{lays_as}
use Rattle.clauses.proofs.Lists.{flat_map_flat_map, numbers_length, numbers_at}
use Rattle.clause_bytes.proofs.EachLaid.{one_more_laid, all_laid}
use Rattle.pair_blocks.proofs.write_pair_block.Invariants.{bit_text}
use Rattle.pair_blocks.proofs.write_pair_block.Goals as goal

pub loop-b-preserved : goal.loop-b-preserved
loop-b-preserved c =
    let k = c.args.k in
    let b = c.loop-b.b in
    let below : b < k = omega arith in
    one_more_laid _ (numbers 0 k) 0 b (rw numbers_length below) c.loop-b.invariant
    (lays_as (ap (bit_text c.args.n k c.args.f c.args.g) (omega (arith, numbers_at 0 k b 0 below))) c.write_pair_clauses-at.ensures)

pub returns : goal.returns
unfolding pair_block
returns c = rw flat_map_flat_map (all_laid _ _ _ (omega (arith, numbers_length 0 c.args.k)) c.loop-b.invariant)
