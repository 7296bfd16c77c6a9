-- D's clauses and then C's.
use native.Mathlib.Omega.{arith}
use Rattle.rule_blocks.specs.Nodes.{setting_of}
use Rattle.text.proofs.Laying.{lays_as, lays_then}
use Rattle.rule_blocks.proofs.NodesBlock.{nodes_text}
use Rattle.rule_blocks.proofs.Walk.{nodes_are}
use Rattle.rule_blocks.proofs.nodes.TwoNodes.write_block.Goals as goal

pub overflow_add-result : goal.overflow_add-result
overflow_add-result c = omega (arith, (c.write_c_clauses.ensures _ _ (nodes_are c.requires)).count)

pub returns : goal.returns
returns c =
    λ s t here.
    lays_as
    (nodes_text (setting_of c.args.self.now.placed) c.args.self.now.u c.args.self.now.v s t c.c_number-d.ensures (c.parts_of_d.ensures.are s t here))
    (lays_then c.write_all_parts-at.ensures (c.write_c_clauses.ensures s t here))
