-- The arguments that the loop passed are identical pair by pair.
use Rattle.std.proofs.Common.{◌+◌, ◌-◌}
use Rattle.rule_blocks.specs.Nodes.{setting_of}
use Rattle.rule_blocks.proofs.Behind.{Alike}
use Rattle.rule_blocks.proofs.nodes.parts_behind.Given as goal

abbrev pub invariant-loop-passed : goal.invariant-loop-passed
invariant-loop-passed l =
    Alike l.terms.bytes.now l.terms.arities (setting_of l.placed) l.u l.placed.left l.placed.right (l.u + 1) (l.v + 1) l.many l.a l.b (l.many - l.passed)
