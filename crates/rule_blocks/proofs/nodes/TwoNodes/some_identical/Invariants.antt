-- None of the arguments that the loop passed is identical.
use Rattle.std.proofs.Common.{◌+◌, ◌-◌}
use Rattle.rule_blocks.proofs.Identical.{Passed}
use Rattle.rule_blocks.proofs.nodes.TwoNodes.some_identical.Given as goal

abbrev pub invariant-loop : goal.invariant-loop
invariant-loop l =
    Passed l.self.terms.bytes.now l.self.terms.arities l.left (l.self.u + 1) l.many l.right l.at (l.many - l.counter)
