-- A key for computed cases: what opens it may compute with every definition of this crate and of those below.
use Rattle.std.proofs.Math.Option.{or_else}
use Rattle.record.specs.Computing as Record
use Rattle.order.specs.Computing
use Rattle.steps.specs.Fits.{Fits, standing, bound, matching, fits}
use Rattle.steps.specs.Step.{chosen, applied, rewritten, step_of}
use Rattle.steps.specs.NextStep.{lowest, taken_at, taken_in, next_cleared, next_step}
use Rattle.steps.specs.Run.{run_from, ran_cleared, run, ran_bytes}
use Rattle.steps.specs.Argument.{part_of, argument_of, argument}

-- A step.
unfoldable pub stepping : Unit {0}
unfolding Fits standing bound matching fits chosen applied rewritten step_of or_else lowest taken_at taken_in
stepping = tt

unfoldable pub computing : Unit {0}
unfolding Record.computing Computing.computing stepping next_cleared next_step run_from ran_cleared run ran_bytes part_of argument_of argument
computing = tt
