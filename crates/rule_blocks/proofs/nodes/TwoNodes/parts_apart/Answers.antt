-- G's number, and C's along the right side behind it.
use mathlib.Core.Path.{◌∙◌}
use native.Mathlib.Omega.{arith}
use Rattle.clauses.specs.Blocks.{numbered_args}
use Rattle.rule_blocks.specs.Nodes.{setting_of}
use Rattle.rule_blocks.proofs.Behind.{C_small, part_then_right}
use Rattle.rule_blocks.proofs.nodes.TwoNodes.parts_apart.Goals as goal

pub parts_along-requires : goal.parts_along-requires
parts_along-requires c = (
  c.requires.nodes_at,
  omega arith,
  omega (arith, c.c_number-first.ensures, C_small c.args.self.now.placed c.args.self.now.u 0 c.requires.within_maximum.0 c.requires.within_maximum.1 (omega arith)),
  omega arith,
)

pub returns-clause-are : goal.returns-clause-are
returns-clause-are c =
    λ ts e stand.
    c.parts_along.ensures.are ts e stand
    ∙ part_then_right (setting_of c.args.self.now.placed) c.args.self.now.u c.none.ensures.1 c.with-parts.ensures.1 c.larger_number-larger.ensures c.c_number-first.ensures
    (numbered_args _ ts)
