-- The loop has laid the parts that it passed.
use Rattle.std.proofs.Common.{arith, ap}
use Rattle.clauses.specs.File.{literal_bytes, clause_bytes}
use Rattle.clauses.proofs.Lists.{flat_map_map}
use Rattle.text.proofs.Laying.{lays_as, lays_then}
use Rattle.clause_bytes.proofs.EachLaid.{one_more_laid, all_laid}
use Rattle.clause_bytes.proofs.parts.write_part_literals.Goals as goal

pub loop-part-preserved : goal.loop-part-preserved
loop-part-preserved c =
    one_more_laid _ c.args.parts.now _ c.loop-part.part-index (omega arith) c.loop-part.invariant
    (lays_as (ap literal_bytes c.against.ensures) c.write_literal-at.ensures)

pub returns : goal.returns
unfolding clause_bytes
returns c = rw flat_map_map (lays_then (all_laid _ _ _ (omega arith) c.loop-part.invariant) c.write_clause_end.ensures)
