-- Block 0 is one clause, and each other block is that of two nodes.
use mathlib.Core.List.{flat_map}
use Rattle.clauses.specs.File.{clause_bytes}
use Rattle.clause_bytes.specs.Meaning.{meant}
use Rattle.text.specs.Laying.{Lays}
use Rattle.text.proofs.Laying.{lays_as}
use Rattle.rule_blocks.proofs.RuleNumbers.{numbered_stand, numbered_holds, zeroth_text}
use Rattle.rule_blocks.proofs.rules.write_rule_block.Goals as goal

pub returns-then-number-eq0 : goal.returns-then-number-eq0
unfolding meant
returns-then-number-eq0 c =
    λ rule stands. lays_as (zeroth_text stands c.args.number c.if-number-eq0.true c.c_number.ensures) c.write_clause.ensures

pub write_block-requires : goal.write_block-requires
write_block-requires c = numbered_stand _ c.requires.0.stands c.args.number c.if-number-eq0.false c.requires.1 c.numbered_nodes.ensures

pub returns : goal.returns
returns c =
    λ rule stands.
    numbered_holds _ stands c.args.number c.if-number-eq0.false c.requires.1 c.numbered_nodes.ensures
    (λ block. Lays (flat_map clause_bytes block) c.args.out.now c.write_block.result c.write_block.new.out)
    c.write_block.ensures
