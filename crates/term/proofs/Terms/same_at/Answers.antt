-- A pair of roots that differs decides; a pair that agrees is passed, and its arguments take its stead.
use Prim.Native.Nat.{ℕ, ◌+◌, ◌-◌, ◌<◌}
use mathlib.Core.Bool.{and-true}
use mathlib.Core.List.{List}
use mathlib.Core.Path.{sym}
use native.Mathlib.Omega.{arith}
use Rattle.term.specs.Term.{Term, nil, cons, same}
use Rattle.term.specs.At.{At, none_at, and_at, Standing}
use Rattle.term.proofs.At.{at_root_lem, at_within, args_long}
use Rattle.term.proofs.SameAt.{Pairs, on_the_left, on_the_right, kinds_differ, numbers_differ, first_differs, pair_passed, all_passed}
use Rattle.term.proofs.Terms.same_at.Invariants.{ToCompare}
use Rattle.term.proofs.Terms.same_at.Goals as goal
use Rattle.term.proofs.Terms.same_at.Goals.{After-arguments_at}

-- The first pair of what is to come stands at `left` and `right`.
to_compare :
    {bytes arities : List ℕ} {a b missing left right : ℕ} → Standing bytes arities a → Standing bytes arities b →
    ((s t : Term) (d e : ℕ) → At bytes arities a s d → At bytes arities b t e → Pairs bytes arities missing left right d e (same s t)) →
    ToCompare bytes arities a b missing left right
to_compare {missing = missing} sa sb come =
    let pairs = come sa.term sb.term sa.behind sb.behind sa.stands sb.stands in
    let first = λ (p : 0 < missing). on_the_left pairs p in
    record {
      come = come;
      next = λ p. record { term = (first p).first; behind = (first p).behind; stands = (first p).first_stands };
      left_root = λ p. at_root_lem (first p).first_stands;
      right_root = λ p. at_root_lem (on_the_right pairs p).first_stands;
    }

pub loop-missing-init : goal.loop-missing-init
unfolding same
loop-missing-init c =
    to_compare c.requires.standing c.requires.standing_2
    (λ s t d e h k.
    record {
      lefts = cons s nil;
      rights = cons t nil;
      lefts_stand = and_at h none_at;
      rights_stand = and_at k none_at;
      decide = sym (and-true (same s t));
    })

pub returns-then-self-left : goal.returns-then-self-left
returns-then-self-left c s t d e h k =
    let pairs = c.loop-missing.invariant.come s t d e h k in
    let p = c.loop-missing-test.true in
    first_differs pairs p (kinds_differ (on_the_left pairs p).first_stands (on_the_right pairs p).first_stands c.if-self-left.true)

pub returns-then-self-left-2 : goal.returns-then-self-left-2
returns-then-self-left-2 c s t d e h k =
    let pairs = c.loop-missing.invariant.come s t d e h k in
    let p = c.loop-missing-test.true in
    first_differs pairs p (numbers_differ (on_the_left pairs p).first_stands (on_the_right pairs p).first_stands c.if-self-left-2.true)

again :
    (c : After-arguments_at) →
    ToCompare c.args.self.now.bytes.now c.args.self.now.arities c.args.a c.args.b (c.loop-missing.missing - 1 + c.arguments_at.result) (c.loop-missing.left + 2) (c.loop-missing.right + 2)
again c =
    to_compare c.requires.standing c.requires.standing_2
    (λ s t d e h k.
    pair_passed (c.loop-missing.invariant.come s t d e h k) c.loop-missing-test.true c.arguments_at.result c.arguments_at.ensures c.if-self-left.false c.if-self-left-2.false)

pub overflow_add-missing : goal.overflow_add-missing
overflow_add-missing c =
    let sa = c.requires.standing in
    let sb = c.requires.standing_2 in
    omega (arith, args_long ((again c).come sa.term sb.term sa.behind sb.behind sa.stands sb.stands).lefts_stand, at_within sa.stands)

pub loop-missing-preserved : goal.loop-missing-preserved
loop-missing-preserved c = again c

pub returns : goal.returns
returns c s t d e h k = all_passed (c.loop-missing.invariant.come s t d e h k) (omega arith)
