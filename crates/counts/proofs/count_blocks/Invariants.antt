-- The loop has counted the blocks before the rule that it comes to.
use Prim.Native.Nat.{◌+◌, ◌*◌, ◌≤◌}
use Rattle.counts.proofs.BlockCount.{CountedTo}
use Rattle.counts.proofs.count_blocks.Given as goal

abbrev pub invariant-loop-rule : goal.invariant-loop-rule
invariant-loop-rule l =
    (l.blocks ≤ 300 + 200 * l.rule-index) × CountedTo l.book l.blocks l.rule-index
