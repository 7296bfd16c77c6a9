-- The loop has laid the clauses of the parts that it passed.
use Rattle.std.proofs.Common.{arith, ap, [], ◌∷◌}
use Rattle.clauses.specs.File.{clause_bytes}
use Rattle.clauses.proofs.Lists.{flat_map_map}
use Rattle.text.proofs.Laying.{lays_as}
use Rattle.clause_bytes.specs.Meaning.{meant, part_clauses}
use Rattle.clause_bytes.proofs.EachLaid.{one_more_laid, all_laid}
use Rattle.clause_bytes.proofs.parts.write_part_clauses.Goals as goal

pub loop-part-preserved : goal.loop-part-preserved
loop-part-preserved c =
    one_more_laid _ c.args.parts.now _ c.loop-part.part-index (omega arith) c.loop-part.invariant
    (lays_as (ap (λ l. clause_bytes (meant c.args.whole ∷ l ∷ [])) c.against.ensures) c.write_clause-at.ensures)

pub returns : goal.returns
unfolding part_clauses
returns c = rw flat_map_map (all_laid _ _ _ (omega arith) c.loop-part.invariant)
