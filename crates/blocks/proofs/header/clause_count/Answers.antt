-- The loop has counted the clauses of the pairs and of the rules that it passed.
use native.Mathlib.Omega.{arith}
use Rattle.counts.proofs.ReadRules.{base_starts}
use Rattle.blocks.proofs.RulesBlocks.{counted_starts, counted_goes_on, counted_ends}
use Rattle.blocks.proofs.RulesWalk.{rule_here}
use Rattle.blocks.proofs.header.clause_count.Goals as goal

pub loop-i-init : goal.loop-i-init
loop-i-init c = (
  base_starts c.args.book.now.places c.first_base-base.result c.first_base-base.ensures,
  counted_starts c.args.book.now c.first_base-base.result c.pairs_clauses-clauses.result c.first_base-base.ensures c.pairs_clauses-clauses.ensures.count,
  omega arith,
)

pub rule_clauses-clauses-requires : goal.rule_clauses-clauses-requires
rule_clauses-clauses-requires c =
    let here = rule_here c.args.book.now c.loop-i.invariant.0 (omega arith) c.placed_rule-rule.ensures in
    record { rule = here.rule; stands = here.stands }

pub loop-i-preserved : goal.loop-i-preserved
loop-i-preserved c =
    let here = rule_here c.args.book.now c.loop-i.invariant.0 (omega arith) c.placed_rule-rule.ensures in (
      here.next,
      counted_goes_on here c.loop-i.clauses c.rule_clauses-clauses.result c.loop-i.invariant.1 c.rule_clauses-clauses.ensures.count,
      omega (arith, c.rule_clauses-clauses.ensures.few),
    )

pub returns : goal.returns
returns c = counted_ends c.args.book.now c.loop-i.base c.loop-i.i c.loop-i.clauses c.loop-i.invariant.1 (omega arith)
