-- The lowest rule that fits: the rules before do not fit whatever subterm stands there. Assumes nothing.
use mathlib.Core.Path.{sym, ◌∙◌}
use native.Mathlib.Omega.{arith}
use lib.ListN.{length-take}
use Rattle.term.proofs.At.{at_within}
use Rattle.matching.specs.Table.{Holds}
use Rattle.matching.specs.FirstPlace.{FirstRule}
use Rattle.matching.proofs.Alike.{begins_otherwise}
use Rattle.matching.proofs.LeftsAt.{rule_count, in_range, item_stands, left_at}
use Rattle.matching.proofs.RuleByRule.{one_more_tried, this_applies, all_tried}
use Rattle.matching.proofs.first_rule.Goals as goal
use Rattle.matching.proofs.first_rule.Goals.{then-begins_alike+in_default, else-begins_alike}

pub begins_alike-requires-clause-left : goal.begins_alike-requires-clause-left
begins_alike-requires-clause-left c =
    record { term = _; behind = _; stands = item_stands c.args.book.now.read c.loop-rule.rule c.loop-rule-test.true }

pub overflow_mul-end : goal.overflow_mul-end
overflow_mul-end c = omega (arith, at_within (item_stands c.args.book.now.read c.loop-rule.rule c.loop-rule-test.true))

pub overflow_add-end : goal.overflow_add-end
overflow_add-end c = omega (arith, at_within (item_stands c.args.book.now.read c.loop-rule.rule c.loop-rule-test.true))

pub matched-requires-clause-left_at : goal.matched-requires-clause-left_at
matched-requires-clause-left_at c = left_at c.args.book.now.read c.loop-rule.rule c.loop-rule-test.true

pub returns-in-Some : goal.returns-in-Some
unfolding FirstRule Holds
returns-in-Some c s e h =
    let left = item_stands c.args.book.now.read c.loop-rule.rule c.loop-rule-test.true in
    this_applies (c.loop-rule.invariant s e h) (in_range c.args.book.now.read c.loop-rule.rule c.loop-rule-test.true) (c.in-Some.ensures _ s e left h)

-- The rule does not fit: the match failed, or it was passed over.
pub loop-rule-preserved : goal.loop-rule-preserved
unfolding Holds
loop-rule-preserved c s e h =
    let left = item_stands c.args.book.now.read c.loop-rule.rule c.loop-rule-test.true in
    one_more_tried (c.loop-rule.invariant s e h) (in_range c.args.book.now.read c.loop-rule.rule c.loop-rule-test.true)
    (elim c.if-begins_alike.branch [
      | then-begins_alike+in_default w ↦ w.in_default.ensures _ s e left h
      | else-begins_alike w ↦ begins_otherwise _ s (sym (c.begins_alike.ensures _ s _ e left h) ∙ w.if-begins_alike.false)
    ])

pub returns : goal.returns
unfolding FirstRule
returns c s e h = all_tried (c.loop-rule.invariant s e h) (omega (arith, length-take c.args.book.now.places.rules c.args.book.now.places.places, rule_count c.args.book.now.read))
