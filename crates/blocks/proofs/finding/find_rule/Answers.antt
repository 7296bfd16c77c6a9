-- The loop has passed the blocks of the rules before the one that it comes to.
use native.Mathlib.Omega.{arith}
use Rattle.counts.proofs.ReadRules.{base_starts}
use Rattle.blocks.proofs.RulesBlocks.{sought_starts, sought_goes_on, sought_found, sought_none}
use Rattle.blocks.proofs.RulesWalk.{rule_here}
use Rattle.blocks.proofs.finding.find_rule.Goals as goal

pub loop-i-init : goal.loop-i-init
loop-i-init c = (
  base_starts c.args.book.now.places c.first_base-base.result c.first_base-base.ensures,
  sought_starts c.args.book.now c.args.number c.first_base-base.result c.first_base-base.ensures,
)

pub returns-then-rest-nodes : goal.returns-then-rest-nodes
returns-then-rest-nodes c =
    let here = rule_here c.args.book.now c.loop-i.invariant.0 (omega arith) c.placed_rule-rule.ensures in
    sought_found here c.args.number c.loop-i.rest c.loop-i.invariant.1 (omega arith)

pub loop-i-preserved : goal.loop-i-preserved
loop-i-preserved c =
    let here = rule_here c.args.book.now c.loop-i.invariant.0 (omega arith) c.placed_rule-rule.ensures in
    (here.next, sought_goes_on here c.args.number c.loop-i.rest c.loop-i.invariant.1 (omega arith))

pub returns : goal.returns
returns c = sought_none c.args.book.now c.args.number c.loop-i.base c.loop-i.i c.loop-i.rest c.loop-i.invariant.1 (omega arith)
