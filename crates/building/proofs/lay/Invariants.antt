-- The loop's invariant: what lies there and what is ahead are the whole. The measure is what is left of the right side.
use Rattle.term.specs.Term.{Term}
use Rattle.term.specs.Replacement.{Replacement}
use Rattle.term.specs.At.{At}
use Rattle.building.specs.Right.{Held}
use Rattle.building.proofs.LaidDown.{Laying}
use Rattle.building.proofs.lay.Given as goal

abbrev pub invariant-loop-right : goal.invariant-loop-right
invariant-loop-right l =
    (r : Term) (σ : Replacement) → At l.book l.terms.arities l.right_at r l.right_end → Held l.terms.bytes.now l.terms.arities l.table r σ →
    Laying l.book l.terms.arities r σ l.right_end l.right l.at l.initial.out l.out l.end
