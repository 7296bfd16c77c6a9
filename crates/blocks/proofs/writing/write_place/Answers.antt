-- By the kinds of places.
use mathlib.Core.Path.{subst}
use Rattle.blocks.specs.Found.{FindsPlace}
use Rattle.text.proofs.Laying.{lays_as}
use Rattle.counts.proofs.ReadRules.{read_few_symbols}
use Rattle.blocks.proofs.FileBlocks.{one_text}
use Rattle.blocks.proofs.writing.write_place.Goals as goal

pub write_pair-requires : goal.write_pair-requires
unfolding FindsPlace
write_pair-requires c =
    let found = subst (FindsPlace c.args.book.now c.requires.number) c.in-Pair.is c.requires.finds in
    (read_few_symbols c.args.book.now.read, found.0)

pub write_rule_block-requires : goal.write_rule_block-requires
unfolding FindsPlace
write_rule_block-requires c =
    let found = subst (FindsPlace c.args.book.now c.requires.number) c.in-InRule.is c.requires.finds in
    (record { rule = found.rule; stands = found.stands }, found.within)

pub returns-in-Header : goal.returns-in-Header
unfolding FindsPlace
returns-in-Header c number text finds there =
    let found = subst (FindsPlace c.args.book.now number) c.in-Header.is finds in lays_as (one_text found there) c.write_header.ensures

pub returns-in-Pair : goal.returns-in-Pair
unfolding FindsPlace
returns-in-Pair c number text finds there =
    let found = (subst (FindsPlace c.args.book.now number) c.in-Pair.is finds).1 in lays_as (one_text found there) c.write_pair.ensures

pub returns-in-InRule : goal.returns-in-InRule
unfolding FindsPlace
returns-in-InRule c number text finds there =
    let found = subst (FindsPlace c.args.book.now number) c.in-InRule.is finds in
    lays_as (one_text found.text there) (c.write_rule_block.ensures found.rule found.stands)
