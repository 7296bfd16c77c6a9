-- The clauses of the parts, then the clause of the whole and all parts.
use Rattle.clause_bytes.specs.Meaning.{meant}
use Rattle.clause_bytes.proofs.BothWays.{both_ways_text}
use Rattle.text.proofs.Laying.{lays_then, lays_as}
use Rattle.clause_bytes.proofs.parts.write_both_ways.Goals as goal

pub returns : goal.returns
returns c =
    lays_as (both_ways_text (meant c.args.one) (meant c.args.other) c.args.parts.now)
    (lays_then (lays_then c.write_part_clauses-at.ensures c.write_literal-at.ensures) c.write_part_literals.ensures)
