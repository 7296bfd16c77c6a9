-- The argument's part of the record's own bytes: where the answer says, and none for a refusal. Assumes nothing.
use mathlib.Core.Path.{refl, sym, ap}
use native.Mathlib.Omega.{arith}
use Rattle.steps.specs.Argument.{Part}
use Rattle.asking.specs.Asked.{part_bytes}
use Rattle.asking.proofs.HandedOut.{found_inside, found_bytes, found_start, refused_part}
use Rattle.asking.proofs.argument.Goals as goal

pub overflow_add-end : goal.overflow_add-end
overflow_add-end c = omega (arith, found_inside _ _ _ _ c.in-Ok.ensures)

pub slice_bounds-result-end-2 : goal.slice_bounds-result-end-2
slice_bounds-result-end-2 c = omega (arith, found_inside _ _ _ _ c.in-Ok.ensures)

pub returns : goal.returns
returns c =
    let means = c.in-Ok.ensures in
    record { bytes = found_bytes _ _ _ _ means; place = (refl, omega (arith, found_start _ _ _ _ means)) }

pub returns-in_default : goal.returns-in_default
unfolding part_bytes
returns-in_default c =
    let none = refused_part _ _ _ _ c.in_default.ensures in
    record {
      bytes = ap (λ (p : Part). part_bytes p c.args.record.now) (sym none);
      place = (refl, omega (arith, ap (λ (p : Part). p.start) none));
    }
