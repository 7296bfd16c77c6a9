-- The slices so far are one run; the measure is what is left of the budget.
use Rattle.std.proofs.Common.{◌-◌, ◌≤◌, ◌≡◌, length}
use Rattle.std.specs.Prelude.{Ok}
use Rattle.steps.specs.Run.{run}
use Rattle.slices.specs.Sliced.{OneRun}
use Rattle.slices.proofs.slice_by_slice.Given as goal

abbrev pub invariant-loop-left : goal.invariant-loop-left
invariant-loop-left g l = record {
  room : length l.out ≡ 513;
  within : l.left ≤ l.fn.budget;
  so_far : OneRun (run l.book l.ranks l.«record» (l.fn.budget - l.left) 513) (Ok l.ran) l.out;
}

abbrev pub decreases-loop-left : goal.decreases-loop-left
decreases-loop-left g l = l.left
