-- The loop's invariant: the run of whatever term stands in the record has come to the term in the first buffer, with the steps made, and both
-- buffers have room for a term of 256 nodes. The measure is how many steps are left.
use Prim.Native.Nat.{◌-◌, ◌≤◌}
use lib.ListN.{length as long}
use Rattle.term.specs.Term.{Term}
use Rattle.term.specs.At.{At}
use Rattle.book.specs.BookOf.{book_of}
use Rattle.running.proofs.TakingTurns.{Onward}
use Rattle.running.proofs.run_record.Given as goal

abbrev pub invariant-loop-outcome : goal.invariant-loop-outcome
invariant-loop-outcome l = record {
  onward :
      (t : Term) → At l.record l.book.places.arities 0 t l.size →
      Onward l.book.places.arities (book_of l.book).rules t l.budget l.here l.steps l.length;
  room_here : 512 ≤ long l.here;
  room_there : 512 ≤ long l.there;
}

abbrev pub decreases-loop-outcome : goal.decreases-loop-outcome
decreases-loop-outcome l = l.budget - l.steps
