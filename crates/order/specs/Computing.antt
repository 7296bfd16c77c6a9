-- Keys for computed cases: what opens `computing` may compute with every definition of this crate and of those below.
use Rattle.book.specs.Computing
use Rattle.order.specs.Precedence.{Above, above}
use Rattle.order.specs.Test.{every_arg, some_arg, decrease_at, reaches, case1_holds, case2_holds, case3_holds, at_root, exceeds_in, exceeds}
use Rattle.order.specs.Clearing.{Decreases, AllDecrease, decreases, all_decrease, ranks_clear, check_ranks}

-- Of comparing terms.
unfoldable pub comparing : Unit {0}
unfolding Above above every_arg some_arg decrease_at reaches case1_holds case2_holds case3_holds at_root exceeds_in exceeds
comparing = tt

unfoldable pub computing : Unit {0}
unfolding Computing.computing comparing Decreases AllDecrease decreases all_decrease ranks_clear check_ranks
computing = tt
