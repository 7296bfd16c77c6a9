-- `answer::ranks::ranks_of` meets its contract. The ranks of the symbols so far stand in the table.
use Rattle.std.proofs.Common.{arith}
use Rattle.answer.proofs.PaddedRanks.{no_ranks, next_rank}
use Rattle.answer.proofs.ranks.ranks_of.Goals as goal

pub loop-f-init : goal.loop-f-init
loop-f-init c = no_ranks _ _

pub loop-f-preserved : goal.loop-f-preserved
loop-f-preserved c = rw c.loop-f.invariant (next_rank _ _ _ _ (omega arith) c.rank_of.ensures)
