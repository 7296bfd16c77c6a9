-- Three clauses with G and three with its negation.
use Rattle.clause_bytes.specs.Meaning.{meant}
use Rattle.pair_blocks.proofs.PairClauses.{each_two_twice}
use Rattle.text.proofs.Laying.{lays_then, lays_as}
use Rattle.pair_blocks.proofs.write_higher_bit.Goals as goal

pub returns : goal.returns
unfolding meant
returns c =
    lays_as (each_two_twice _ _ _ _) (lays_then c.write_each_two-at.ensures c.write_each_two.ensures)
