-- C's number along the left side, and D's behind them.
use native.Mathlib.Omega.{arith}
use Rattle.rule_blocks.specs.Nodes.{setting_of}
use Rattle.rule_blocks.proofs.Behind.{C_small}
use Rattle.rule_blocks.proofs.PartsAt.{arguments_stand, node_arguments, c_parts_noted}
use Rattle.rule_blocks.proofs.nodes.TwoNodes.parts_of_c.Goals as goal

pub parts_along-parts-requires : goal.parts_along-parts-requires
parts_along-parts-requires c = (
  node_arguments c.requires.left (c.arguments_at-many.ensures c.requires.left.term c.requires.left.behind c.requires.left.stands),
  omega (arith, c.arguments_at-many.ensures c.requires.left.term c.requires.left.behind c.requires.left.stands),
  omega (arith, c.c_number-first.ensures, C_small c.args.self.now.placed 0 c.args.self.now.v c.requires.bounded (omega arith) (omega arith)),
  omega arith,
)

pub returns-clause-are : goal.returns-clause-are
unfolding setting_of
returns-clause-are c =
    λ s t here.
    c_parts_noted (setting_of c.args.self.now.placed) c.args.self.now.u c.args.self.now.v s c.none.ensures.1 c.c_number-first.ensures
    (c.parts_along-parts.ensures.are _ _ (arguments_stand _ _ here.left (c.arguments_at-many.ensures s _ here.left)))
    c.c_number.ensures
    c.with.ensures.1
