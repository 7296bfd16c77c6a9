-- The argument that is asked for: the arguments of whatever term stands there are passed one by one. Assumes nothing.
use mathlib.Core.Path.{sym}
use native.Mathlib.Omega.{arith}
use Rattle.reply.specs.Refusals.{numbered}
use Rattle.reply.specs.Replied.{replied_as}
use Rattle.term.proofs.At.{at_end_lem}
use Rattle.asking.specs.Asked.{part_of, argument_meaning}
use Rattle.asking.proofs.ArgumentPart.{no_such_argument, none_passed, this, one_more_passed, argument_found}
use Rattle.asking.proofs.argument_of.Goals as goal

pub returns-then-arguments_at-number : goal.returns-then-arguments_at-number
unfolding argument_meaning replied_as numbered
returns-then-arguments_at-number c t e h = sym (no_such_argument t _ (omega (arith, c.arguments_at.ensures t e h, c.if-arguments_at-number.true)))

pub loop-init : goal.loop-init
loop-init c t e h = none_passed _ h (omega (arith, c.arguments_at.ensures t e h, c.if-arguments_at-number.false))

pub loop-preserved : goal.loop-preserved
loop-preserved c t e h =
    let so_far = c.loop.invariant t e h in
    let next = this so_far in
    one_more_passed so_far _ c.loop-test.true (c.end_of-start.ensures next.first next.behind next.first_stands)

pub overflow_sub-result : goal.overflow_sub-result
overflow_sub-result c =
    let next = this (c.loop.invariant c.requires.term c.requires.behind c.requires.stands) in
    omega (arith, c.end_of-end.ensures next.first next.behind next.first_stands, at_end_lem next.first_stands)

pub returns : goal.returns
unfolding argument_meaning replied_as part_of
returns c t e h =
    let so_far = c.loop.invariant t e h in
    let next = this so_far in
    argument_found so_far _ c.loop-test.false (c.end_of-end.ensures next.first next.behind next.first_stands)
