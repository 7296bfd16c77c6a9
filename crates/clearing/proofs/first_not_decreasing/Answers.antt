-- What the comparison answers of the rule decides what the rules from it on reply.
use Rattle.std.proofs.Common.{◌≤◌, length, sym, ◌∙◌, arith}
use Rattle.std.proofs.lemmas.List.{length-take}
use Rattle.reply.specs.Refusals.{numbered}
use Rattle.reply.specs.Replied.{replied}
use Rattle.book.specs.BookOf.{book_of}
use Rattle.order.specs.Test.{exceeds}
use Rattle.clearing.proofs.Lowest.{all_from_first, decreases_here, fails_here, none_left}
use Rattle.clearing.proofs.Rules.{few_rules, how_many, below, left_standing, right_standing, answered}
use Rattle.clearing.proofs.first_not_decreasing.Goals as goal

pub loop-rule-init : goal.loop-rule-init
loop-rule-init c = all_from_first (exceeds c.args.ranks) (book_of c.args.book.now).rules

pub exceeds-requires-clause-s_stands : goal.exceeds-requires-clause-s_stands
exceeds-requires-clause-s_stands c = left_standing c.args.book.now c.loop-rule.rule c.loop-rule-test.true

pub exceeds-requires-clause-t_stands : goal.exceeds-requires-clause-t_stands
exceeds-requires-clause-t_stands c = right_standing c.args.book.now c.loop-rule.rule c.loop-rule-test.true

pub returns-then-not-exceeds : goal.returns-then-not-exceeds
unfolding replied numbered
returns-then-not-exceeds c =
    let ranks = c.args.ranks in
    let book = c.args.book.now in
    let here = c.loop-rule in
    let fails = answered book here.rule c.loop-rule-test.true ranks c.if-not-exceeds.ensures in
    sym (fails_here (exceeds ranks) (book_of book).rules here.rule (below book here.rule c.loop-rule-test.true) (sym fails)) ∙ here.invariant

pub loop-rule-preserved : goal.loop-rule-preserved
loop-rule-preserved c =
    let ranks = c.args.ranks in
    let book = c.args.book.now in
    let here = c.loop-rule in
    let holds = answered book here.rule c.loop-rule-test.true ranks c.if-not-exceeds.ensures in
    sym (decreases_here (exceeds ranks) (book_of book).rules here.rule (below book here.rule c.loop-rule-test.true) (sym holds)) ∙ here.invariant

pub returns : goal.returns
unfolding replied
returns c =
    let book = c.args.book.now in
    let all : length (book_of book).rules ≤ c.loop-rule.rule = omega (arith, how_many book, few_rules book.read, length-take book.places.rules book.places.places) in
    sym (none_left (exceeds c.args.ranks) (book_of book).rules c.loop-rule.rule all) ∙ c.loop-rule.invariant
