-- Whether one is identical, argument by argument.
use Rattle.std.proofs.Common.{arith, sym, ◌∙◌}
use Rattle.rule_blocks.proofs.Identical.{passed_none, passed_one, passed_found, passed_all}
use Rattle.rule_blocks.proofs.PartsAt.{arguments_stand, node_arguments, identical_argument}
use Rattle.rule_blocks.proofs.Walk.{node_stands, nodes_first}
use Rattle.rule_blocks.proofs.nodes.TwoNodes.some_identical.Goals as goal

pub loop-init : goal.loop-init
loop-init c =
    let left = c.requires.left in
    passed_none (omega arith) (node_arguments left (c.arguments_at-many.ensures left.term left.behind left.stands))

pub same_at-requires-clause-standing : goal.same_at-requires-clause-standing
same_at-requires-clause-standing c = node_stands (nodes_first c.loop.invariant.left (omega arith))

pub returns-then-same_at : goal.returns-then-same_at
returns-then-same_at c =
    λ s t here.
    passed_found c.loop.invariant (omega arith) (λ s t d e hs ht. sym c.if-same_at.true ∙ c.same_at.ensures s t d e hs ht) t _ here.right _ _
    (arguments_stand _ _ here.left (c.arguments_at-many.ensures s _ here.left))
    ∙ identical_argument s t

pub node_behind-at-requires : goal.node_behind-at-requires
node_behind-at-requires c = nodes_first c.loop.invariant.left (omega arith)

pub loop-preserved : goal.loop-preserved
loop-preserved c =
    passed_one c.loop.invariant (omega arith) (λ s t d e hs ht. sym c.if-same_at.false ∙ c.same_at.ensures s t d e hs ht) c.node_behind-at.ensures

pub returns : goal.returns
returns c =
    λ s t here.
    passed_all c.loop.invariant (omega arith) t _ here.right _ _ (arguments_stand _ _ here.left (c.arguments_at-many.ensures s _ here.left))
    ∙ identical_argument s t
