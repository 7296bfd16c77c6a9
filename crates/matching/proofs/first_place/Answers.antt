-- The first place in postorder at which some rule fits: looking for the step of whatever term stands there goes on place by place. Assumes
-- nothing.
use Prim.Native.Nat.{ℕ, ◌<◌}
use mathlib.Core.List.{List}
use native.Mathlib.Omega.{arith}
use lib.ListN.{length}
use Rattle.std.specs.Prelude.{Option as Maybe}
use Rattle.term.specs.At.{At, Standing}
use Rattle.term.specs.Term.{Term}
use Rattle.term.proofs.At.{at_root_lem}
use Rattle.book.specs.Book.{Rule}
use Rattle.building.specs.declared.Place.{Place}
use Rattle.matching.specs.FirstPlace.{Whole, FirstRule}
use Rattle.matching.proofs.Looking.{Looking, look_begins, root, root_within, look_on_to, look_inside_to, look_ends}
use Rattle.matching.proofs.first_place.Goals as goal
use Rattle.matching.proofs.first_place.Goals.{in-Some, in_default}

-- In a turn: some term stands at the place at hand.
here :
    {bytes arities : List ℕ} {rules : List Rule} {at bound : ℕ} {first : Maybe Place} (whole : Whole bytes arities) →
    ((t : Term) → At bytes arities 0 t (length bytes) → Looking bytes arities rules t at bound first) → at < bound → Standing bytes arities at
here whole so_far p =
    let node = root (so_far whole.term whole.stands) p in record { term = node.first; behind = node.behind; stands = node.first_stands }

pub loop-at-init : goal.loop-at-init
loop-at-init c t h = look_begins h

pub first_rule-requires : goal.first_rule-requires
first_rule-requires c = here c.requires c.loop-at.invariant c.loop-at-test.true

pub end_of-bound-requires : goal.end_of-bound-requires
end_of-bound-requires c = here c.requires c.loop-at.invariant c.loop-at-test.true

pub overflow_add-at : goal.overflow_add-at
overflow_add-at c = omega (arith, at_root_lem (here c.requires c.loop-at.invariant c.loop-at-test.true).stands)

pub loop-at-smaller : goal.loop-at-smaller
loop-at-smaller c =
    let looking = c.loop-at.invariant c.requires.term c.requires.stands in
    let node = root looking c.loop-at-test.true in
    elim c.match-first_rule.branch [
      | in-Some w ↦
          omega (arith, w.end_of-bound.ensures node.first node.behind node.first_stands, root_within looking c.loop-at-test.true)
      | in_default w ↦ omega arith
    ]

pub loop-at-preserved : goal.loop-at-preserved
unfolding FirstRule
loop-at-preserved c t h =
    let looking = c.loop-at.invariant t h in
    let node = root looking c.loop-at-test.true in
    elim c.match-first_rule.branch [
      | in-Some w ↦
          look_inside_to looking c.loop-at-test.true w.in-Some.fit w.end_of-bound.result c.match-first_rule.bound c.match-first_rule.first
          (w.in-Some.ensures node.first node.behind node.first_stands) (w.end_of-bound.ensures node.first node.behind node.first_stands)
          w.bound-is w.first-is
      | in_default w ↦
          look_on_to looking c.loop-at-test.true c.match-first_rule.bound c.match-first_rule.first
          (w.in_default.ensures node.first node.behind node.first_stands) w.bound-is w.first-is
    ]

pub returns : goal.returns
returns c t h = look_ends (c.loop-at.invariant t h) c.loop-at-test.false
