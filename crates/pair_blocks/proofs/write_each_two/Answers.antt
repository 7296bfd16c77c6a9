-- Three clauses, one behind the other.
use Rattle.pair_blocks.specs.EachTwo.{each_two}
use Rattle.text.proofs.Laying.{lays_then, lays_as}
use Rattle.clause_bytes.proofs.Laid.{clauses_text}
use Rattle.pair_blocks.proofs.write_each_two.Goals as goal

pub returns : goal.returns
unfolding each_two
returns c =
    lays_as (clauses_text _ _ _)
    (lays_then (lays_then c.write_clause-at.ensures c.write_clause-at-2.ensures) c.write_clause.ensures)
