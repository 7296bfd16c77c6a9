-- The loop's invariant: looking for the step of whatever term stands there has come to the place at hand. The measure is how far the bound
-- is.
use Prim.Native.Nat.{◌-◌}
use lib.ListN.{length}
use Rattle.term.specs.Term.{Term}
use Rattle.term.specs.At.{At}
use Rattle.matching.specs.RulesIn.{rules_in}
use Rattle.matching.proofs.Looking.{Looking}
use Rattle.matching.proofs.first_place.Given as goal

abbrev pub invariant-loop-at : goal.invariant-loop-at
invariant-loop-at l =
    (t : Term) → At l.bytes l.book.places.arities 0 t (length l.bytes) →
    Looking l.bytes l.book.places.arities (rules_in l.book.bytes.now l.book.places) t l.at l.bound l.first

abbrev pub decreases-loop-at : goal.decreases-loop-at
decreases-loop-at l = l.bound - l.at
