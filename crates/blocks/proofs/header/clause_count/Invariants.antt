-- The loop has counted the clauses of the pairs and of the rules that it passed.
use Prim.Native.Nat.{◌+◌, ◌*◌, ◌≤◌}
use Rattle.blocks.proofs.RulesBlocks.{Counted}
use Rattle.counts.proofs.ReadRules.{BaseAt}
use Rattle.blocks.proofs.header.clause_count.Given as goal

abbrev pub invariant-loop-i : goal.invariant-loop-i
invariant-loop-i l = BaseAt l.book.places l.base l.i × Counted l.book l.base l.i l.clauses × (l.clauses ≤ 5376 + 1616 * l.i)
