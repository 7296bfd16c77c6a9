-- The parts argument by argument: a difference ends the walk.
use Rattle.std.proofs.Common.{arith, sym, ◌∙◌}
use Rattle.term.proofs.At.{at_root_lem}
use Rattle.clauses.specs.Blocks.{numbered_args}
use Rattle.rule_blocks.specs.Nodes.{setting_of}
use Rattle.rule_blocks.proofs.Behind.{C_small, part_then_right, alike_none, alike_one, alike_ends, alike_differs}
use Rattle.rule_blocks.proofs.Walk.{nodes_first, nodes_others}
use Rattle.rule_blocks.proofs.nodes.parts_behind.Goals as goal

pub loop-passed-init : goal.loop-passed-init
loop-passed-init c = alike_none (omega arith) c.requires.nodes_at.0 c.requires.nodes_at.1

pub node_behind-behind-requires : goal.node_behind-behind-requires
node_behind-behind-requires c = nodes_first c.loop-passed.invariant.right (omega arith)

pub node_behind-a-requires : goal.node_behind-a-requires
node_behind-a-requires c = nodes_first c.loop-passed.invariant.left (omega arith)

pub loop-passed-preserved : goal.loop-passed-preserved
loop-passed-preserved c =
    alike_one c.loop-passed.invariant (omega arith) (λ s t d e hs ht. sym c.if-not-same_at.false ∙ c.same_at.ensures s t d e hs ht)
    c.node_behind-a.ensures c.node_behind-behind.ensures

pub returns-clause-are : goal.returns-clause-are
returns-clause-are c = alike_ends c.loop-passed.invariant (omega arith) c.none-2.ensures.1

pub overflow_add-placed : goal.overflow_add-placed
overflow_add-placed c = let root = at_root_lem (nodes_first c.loop-passed.invariant.left (omega arith)).stands in grind arith

pub overflow_add-placed-in-loop-passed : goal.overflow_add-placed-in-loop-passed
overflow_add-placed-in-loop-passed c = let root = at_root_lem (nodes_first c.loop-passed.invariant.right (omega arith)).stands in grind arith

pub parts_along-requires : goal.parts_along-requires
parts_along-requires c = (
  nodes_others c.loop-passed.invariant.right (omega arith) c.node_behind-behind.ensures,
  omega arith,
  omega (arith, c.c_number-first.ensures, C_small c.args.placed c.args.u 0 c.requires.within_maximum.0 c.requires.within_maximum.1 (omega arith)),
  omega arith,
)

pub returns-then-not-same_at-clause-are : goal.returns-then-not-same_at-clause-are
returns-then-not-same_at-clause-are c =
    alike_differs c.loop-passed.invariant (omega arith) (λ s t d e hs ht. sym c.if-not-same_at.true ∙ c.same_at.ensures s t d e hs ht)
    c.node_behind-behind.ensures
    (λ ts e k.
    c.parts_along.ensures.are ts e k
    ∙ part_then_right (setting_of c.args.placed) c.args.u c.none.ensures.1 c.with-parts.ensures.1 c.c_number.ensures c.c_number-first.ensures
    (numbered_args c.node_behind-behind.result ts))
