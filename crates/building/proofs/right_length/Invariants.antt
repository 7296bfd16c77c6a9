-- The loop's invariant: the count and what is ahead are the whole. The measure is what is left of the right side.
use Rattle.term.specs.Term.{Term}
use Rattle.term.specs.Replacement.{Replacement}
use Rattle.term.specs.At.{At}
use Rattle.building.specs.Right.{Held}
use Rattle.building.proofs.RightSide.{Counted}
use Rattle.building.proofs.right_length.Given as goal

abbrev pub invariant-loop-right : goal.invariant-loop-right
invariant-loop-right l =
    (r : Term) (σ : Replacement) → At l.book l.terms.arities l.right_at r l.right_end → Held l.terms.bytes.now l.terms.arities l.table r σ → Counted l.book l.terms.arities r σ l.right_end l.right l.total
