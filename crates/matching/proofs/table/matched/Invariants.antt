-- The loop's invariant: the matching of whatever terms stand there has come to the two places at hand.
use Prim.Native.Nat.{ℕ}
use Rattle.term.specs.Term.{Term}
use Rattle.term.specs.At.{At}
use Rattle.matching.specs.Table.{table_of}
use Rattle.matching.proofs.NodeByNode.{Going}
use Rattle.matching.proofs.table.matched.Given as goal

abbrev pub invariant-loop-left : goal.invariant-loop-left
invariant-loop-left l =
    (left s : Term) (e : ℕ) → At l.book l.terms.arities l.left_at left l.left_end → At l.terms.bytes.now l.terms.arities l.at s e →
    Going l.book l.terms.bytes.now l.terms.arities left s l.left_end e l.left l.place (table_of left s l.at) l.table
