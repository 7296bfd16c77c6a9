-- The next subterm stands at `place`; a turn passes its root, whose arguments take its stead.
use Prim.Native.Nat.{ℕ, ◌+◌, ◌-◌, ◌<◌}
use mathlib.Core.List.{List}
use mathlib.Core.Path.{sym}
use native.Mathlib.Omega.{arith}
use Rattle.term.specs.Term.{Term, nil, cons}
use Rattle.term.specs.At.{At, none_at, and_at, Standing}
use Rattle.term.proofs.At.{Several, at_root_lem, at_within, args_first, args_none, args_long, past_root}
use Rattle.term.proofs.Terms.end_of.Invariants.{ToCome}
use Rattle.term.proofs.Terms.end_of.Goals as goal
use Rattle.term.proofs.Terms.end_of.Goals.{After-arguments_at}

-- The first of what is to come stands at `place`.
to_come :
    {bytes arities : List ℕ} {at missing place : ℕ} → Standing bytes arities at →
    ((t : Term) (e : ℕ) → At bytes arities at t e → Several bytes arities missing place e) → ToCome bytes arities at missing place
to_come {missing = missing} stands come =
    let parts = λ (p : 0 < missing). args_first (come stands.term stands.behind stands.stands).stand p in
    record {
      come = come;
      next = λ p. record { term = (parts p).first; behind = (parts p).behind; stands = (parts p).first_stands };
      root = λ p. at_root_lem (parts p).first_stands;
    }

pub loop-missing-init : goal.loop-missing-init
loop-missing-init c = to_come c.requires (λ t e h. record { terms = cons t nil; stand = and_at h none_at })

again :
    (c : After-arguments_at) →
    ToCome c.args.self.now.bytes.now c.args.self.now.arities c.args.at (c.loop-missing.missing - 1 + c.arguments_at.result) (c.loop-missing.place + 2)
again c =
    to_come c.requires
    (λ t e h. past_root c.arguments_at.result (c.loop-missing.invariant.come t e h) c.loop-missing-test.true c.arguments_at.ensures)

-- With the arguments of its root in its stead there are at most as many as bytes.
pub overflow_add-missing : goal.overflow_add-missing
overflow_add-missing c =
    let here = c.requires in
    omega (arith, args_long ((again c).come here.term here.behind here.stands).stand, at_within here.stands)

pub loop-missing-preserved : goal.loop-missing-preserved
loop-missing-preserved c = again c

pub returns : goal.returns
returns c t e h = sym (args_none (c.loop-missing.invariant.come t e h).stand (omega arith)).1
