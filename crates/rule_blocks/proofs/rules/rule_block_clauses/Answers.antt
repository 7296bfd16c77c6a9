-- Block 0 is one clause, and each other block is that of two nodes.
use Rattle.std.proofs.Common.{ap, ◌≡◌, length}
use Rattle.rule_blocks.proofs.RuleNumbers.{numbered_stand, numbered_holds, zeroth_block}
use Rattle.rule_blocks.proofs.rules.rule_block_clauses.Goals as goal

pub returns-then-number-eq0-clause-count : goal.returns-then-number-eq0-clause-count
returns-then-number-eq0-clause-count c = λ rule stands. ap length (zeroth_block stands c.args.number c.if-number-eq0.true)

pub clauses-requires : goal.clauses-requires
clauses-requires c = numbered_stand _ c.requires.0.stands c.args.number c.if-number-eq0.false c.requires.1 c.numbered_nodes.ensures

pub returns-clause-count : goal.returns-clause-count
returns-clause-count c =
    λ rule stands.
    numbered_holds _ stands c.args.number c.if-number-eq0.false c.requires.1 c.numbered_nodes.ensures (λ block. c.clauses.result ≡ length block) c.clauses.ensures.count
