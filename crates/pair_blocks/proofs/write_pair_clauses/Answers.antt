-- By whether the bit is the lowest.
use Rattle.text.proofs.Laying.{lays_as}
use Rattle.pair_blocks.proofs.PairClauses.{lowest_clauses, higher_clauses}
use Rattle.pair_blocks.proofs.write_pair_clauses.Goals as goal

pub returns-then-b-eq0 : goal.returns-then-b-eq0
returns-then-b-eq0 c =
    lays_as
    (lowest_clauses _ _ _ _ c.args.b _ _ _ c.larger_number-larger.ensures c.bit_number-of_f.ensures c.bit_number-of_g.ensures c.if-b-eq0.true)
    c.write_lowest_bit.ensures

pub returns-else-b-eq0 : goal.returns-else-b-eq0
returns-else-b-eq0 c =
    lays_as
    (higher_clauses _ _ _ _ c.args.b _ _ _ c.larger_number-larger.ensures c.bit_number-of_f.ensures c.bit_number-of_g.ensures _
    c.larger_number.ensures
    c.if-b-eq0.false)
    c.write_higher_bit.ensures
