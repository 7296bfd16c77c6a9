-- The loop has noted a part for each subterm that it passed.
use Rattle.std.proofs.Common.{arith}
use Rattle.rule_blocks.proofs.Walk.{walk_node, walk_goes_on, walk_ends}
use Rattle.rule_blocks.proofs.nodes.parts_along.Goals as goal

pub node_behind-at-requires : goal.node_behind-at-requires
node_behind-at-requires c = walk_node _ _ _ _ _ _ _ _ _ _ c.loop.invariant.0 (omega arith)

pub loop-preserved : goal.loop-preserved
loop-preserved c = (
  walk_goes_on _ _ _ _ _ _ _ _ _ _ c.loop.invariant.0 (omega arith) c.node_behind-at.ensures c.with-so_far.ensures.1,
  omega arith,
)

pub returns-clause-are : goal.returns-clause-are
returns-clause-are c = λ ts e stand. walk_ends _ _ _ _ _ _ _ _ _ _ c.loop.invariant.0 (omega arith) ts e stand
