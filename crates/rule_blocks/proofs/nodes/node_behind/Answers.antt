-- A term ends two bytes a node behind its start.
use Rattle.std.proofs.Common.{arith}
use Rattle.term.proofs.At.{at_end_lem}
use Rattle.rule_blocks.proofs.nodes.node_behind.Goals as goal

pub overflow_sub-result : goal.overflow_sub-result
overflow_sub-result c = omega (arith, c.end_of.ensures c.requires.term c.requires.behind c.requires.stands, at_end_lem c.requires.stands)

pub returns : goal.returns
returns c = λ t e h. omega (arith, c.end_of.ensures t e h, at_end_lem h)
