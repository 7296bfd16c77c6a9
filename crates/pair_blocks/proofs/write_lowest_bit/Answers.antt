-- Three clauses, one behind the other.
use Rattle.clause_bytes.specs.Meaning.{meant}
use Rattle.clauses.specs.Blocks.{lowest_bit}
use Rattle.text.proofs.Laying.{lays_then, lays_as}
use Rattle.clause_bytes.proofs.Laid.{clauses_text}
use Rattle.pair_blocks.proofs.write_lowest_bit.Goals as goal

pub returns : goal.returns
unfolding lowest_bit meant
returns c =
    lays_as (clauses_text _ _ _)
    (lays_then (lays_then c.write_clause-at.ensures c.write_clause-at-2.ensures) c.write_clause.ensures)
