-- The reading to places goes on from the reader at `at`, and the counts keep to the limits; the measure is what is left of the bytes.
use Prim.Native.Nat.{◌-◌}
use lib.ListN.{length}
use Rattle.book.specs.Placed.{so_far}
use Rattle.book.proofs.Going.{Going}
use Rattle.book.proofs.read_book.Given as goal

abbrev pub invariant-loop-at : goal.invariant-loop-at
invariant-loop-at l = Going l.bytes (so_far l.book l.side) l.at

abbrev pub decreases-loop-at : goal.decreases-loop-at
decreases-loop-at l = length l.bytes - l.at
