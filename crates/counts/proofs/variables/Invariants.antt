-- The loop has the base before the rule that it comes to.
use Rattle.counts.proofs.ReadRules.{BaseAt}
use Rattle.counts.proofs.variables.Given as goal

abbrev pub invariant-loop-rule : goal.invariant-loop-rule
invariant-loop-rule l = BaseAt l.book l.base l.rule-index
