-- The loop has laid the literals that it passed.
use Rattle.std.proofs.Common.{arith}
use Rattle.clauses.specs.File.{clause_bytes}
use Rattle.clauses.proofs.Lists.{flat_map_map}
use Rattle.text.proofs.Laying.{lays_then}
use Rattle.clause_bytes.proofs.EachLaid.{one_more_laid, all_laid}
use Rattle.clause_bytes.proofs.writing.write_clause.Goals as goal

pub loop-literal-preserved : goal.loop-literal-preserved
loop-literal-preserved c = one_more_laid _ c.args.literals.now _ c.loop-literal.literal-index (omega arith) c.loop-literal.invariant c.write_literal-at.ensures

pub returns : goal.returns
unfolding clause_bytes
returns c = rw flat_map_map (lays_then (all_laid _ _ _ (omega arith) c.loop-literal.invariant) c.write_clause_end.ensures)
