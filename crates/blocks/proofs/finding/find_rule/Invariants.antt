-- The loop has passed the blocks of the rules before the one that it comes to.
use Rattle.blocks.proofs.RulesBlocks.{Sought}
use Rattle.counts.proofs.ReadRules.{BaseAt}
use Rattle.blocks.proofs.finding.find_rule.Given as goal

abbrev pub invariant-loop-i : goal.invariant-loop-i
invariant-loop-i l = BaseAt l.book.places l.base l.i × Sought l.book l.number l.base l.i l.rest
