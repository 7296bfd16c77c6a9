-- The loop has counted the clauses of the blocks that it passed.
use Rattle.std.proofs.Common.{arith, ◌+◌, refl, sym, ap, ap₂, ◌∙◌, length}
use mathlib.Core.List.{flatten}
use lib.Seq.{take_all}
use Rattle.clauses.specs.Blocks.{rule_blocks}
use Rattle.rule_blocks.specs.Nodes.{setting_of}
use Rattle.clauses.proofs.Lists.{flatten_next}
use Rattle.rule_blocks.proofs.RuleNumbers.{blocks_counted}
use Rattle.rule_blocks.proofs.rules.rule_clauses.Goals as goal

pub loop-number-init : goal.loop-number-init
unfolding flatten
loop-number-init c = record { few = omega arith; count = λ rule stands. refl }

pub loop-number-preserved : goal.loop-number-preserved
loop-number-preserved c =
    record {
      few = omega arith;
      count = λ rule stands.
          ap₂ ◌+◌ (c.loop-number.invariant.count rule stands) (c.rule_block_clauses-clauses.ensures.count rule stands)
          ∙ sym (flatten_next (rule_blocks (setting_of c.args.placed) rule) c.loop-number.number (omega (arith, blocks_counted stands)));
    }

pub returns-clause-count : goal.returns-clause-count
returns-clause-count c =
    λ rule stands.
    c.loop-number.invariant.count rule stands
    ∙ ap (λ l. length (flatten l)) (take_all c.loop-number.number (rule_blocks (setting_of c.args.placed) rule) (omega (arith, blocks_counted stands)))
