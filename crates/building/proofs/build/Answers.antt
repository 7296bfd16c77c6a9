-- The next term is built. The front is copied, the right side is laid behind it, and the back is copied into the remainder. Assumes
-- nothing.
use Prim.Native.Nat.{ℕ, ◌+◌, ◌-◌}
use mathlib.Core.List.{List}
use mathlib.Core.Path.{◌≡◌, sym, ap, subst₂, ◌∙◌}
use native.Mathlib.Omega.{arith}
use borrow.Rule.Slice.PartMut.{put_mid}
use lib.ListN.{length, take, drop}
use Rattle.term.specs.Replacement.{replace}
use Rattle.building.specs.Right.{Built, BuiltFits}
use Rattle.building.proofs.LaidDown.{front_copied, front_behind, all_built}
use Rattle.building.proofs.build.Goals as goal

pub returns : goal.returns
returns c r σ h k =
    let place = c.args.place.now in
    let bytes = c.args.terms.now.bytes.now in
    let out = c.args.out.now in
    let front = c.copy.new.out in
    let behind = c.lay-end.new.out in
    let end = c.lay-end.result in
    let within = c.requires.within in
    -- The buffer is as long as before.
    let as_long : length behind ≡ length out = omega (arith, c.lay-end.auto.out, c.copy.auto.out) in
    let room : BuiltFits bytes place (length behind) (replace σ r) = omega (arith, c.requires.under_match r σ h k, as_long) in
    let same_front : take place.at front ≡ take place.at bytes =
    ap (take place.at) c.copy.ensures.kept
    ∙ front_copied bytes out place.at (omega (arith, within.ordered, within.inside)) (omega (arith, room, as_long))
    in
    let same_behind : drop place.at front ≡ drop place.at out =
    ap (drop place.at) c.copy.ensures.kept
    ∙ front_behind bytes out place.at (omega (arith, within.ordered, within.inside)) (omega (arith, room, as_long))
    in
    subst₂ (λ (n : ℕ) (l : List ℕ). Built bytes place n out l (replace σ r))
    (ap (λ (n : ℕ). end + n) (sym c.copy-2.ensures.laid))
    (ap (λ (ys : List ℕ). put_mid end (length behind - end) behind ys) (sym c.copy-2.ensures.kept))
    (all_built bytes place within room same_front (c.lay-end.ensures r σ h k) out same_behind)
