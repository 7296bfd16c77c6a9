-- By whether there are parts.
use Rattle.std.proofs.Common.{rules}
use Rattle.clause_bytes.specs.Meaning.{meant}
use Rattle.clause_bytes.proofs.BothWays.{all_parts_both, all_parts_none}
use Rattle.text.proofs.Laying.{lays_as}
use Rattle.clause_bytes.proofs.parts.write_all_parts.Goals as goal

pub returns-then-is_empty : goal.returns-then-is_empty
unfolding meant
returns-then-is_empty c =
    rw (← c.as_slice-parts.ensures)
    (lays_as (all_parts_none c.args.whole c.as_slice-parts.result.now (search rules)) c.write_clause.ensures)

pub returns-else-is_empty : goal.returns-else-is_empty
unfolding meant
returns-else-is_empty c =
    rw (← c.as_slice-parts.ensures, all_parts_both c.args.whole c.as_slice-parts.result.now (search rules)) c.write_both_ways.ensures
