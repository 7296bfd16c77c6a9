-- The slices so far are one run.
use Rattle.std.proofs.Common.{ℕ, ◌+◌, ◌-◌, List, ◌≡◌, subst, arith, rules}
use mathlib.Core.Bool.{true, false}
use mathlib.Core.Path.{refl}
use denote.Enum.Bare.{sameb}
use Rattle.std.specs.Prelude.{Result}
use Rattle.std.proofs.lemmas.Result.{err_from_is_err_and}
use Rattle.reply.specs.declared.Refusal.{Refusal as Named}
use Rattle.steps.specs.Run.{run}
use Rattle.running.specs.RunMeaning.{RunsTo}
use Rattle.running.specs.declared.RanTo.{RanTo}
use Rattle.stepping.specs.contracts.Outcome.{the_type}
use Rattle.stepping.specs.declared.Outcome.{Outcome}
use Rattle.stepping.specs.declared.Outcome.TheVariants.{Done, Spent, TooLarge}
use Rattle.slices.specs.Sliced.{OneRun}
use Rattle.slices.proofs.AddUp.{one_run, ended_run, refused_run, spent_run, made_within, size_within, carried_on_lem}
use Rattle.slices.proofs.slice_by_slice.Goals as goal

-- What `==` says of an outcome.
spent_so : (o : Outcome) → true ≡ sameb the_type o Spent → o ≡ Spent
spent_so Done e = absurd (cc)
spent_so Spent e = refl
spent_so TooLarge e = absurd (cc)

not_so : (o : Outcome) → false ≡ sameb the_type o Spent → o ≡ Spent → ⊥
not_so Done e p = cc
not_so Spent e p = cc
not_so TooLarge e p = cc

-- The run with no budget.
at_first :
    (bytes ranks record' : List ℕ) (room : ℕ) {answer : Result RanTo Named} {before after : List ℕ} → room ≡ 513 →
    RunsTo (run bytes ranks record' 0 room) answer before after → OneRun (run bytes ranks record' 0 513) answer after
at_first bytes ranks record' room {answer = answer} {after = after} p runs =
    subst (λ (room : ℕ). OneRun (run bytes ranks record' 0 room) answer after) p (one_run runs)

-- With the whole budget left.
begun :
    (bytes ranks record' : List ℕ) (room : ℕ) {answer : Result RanTo Named} {before after : List ℕ} (budget : ℕ) → room ≡ 513 →
    RunsTo (run bytes ranks record' 0 room) answer before after → OneRun (run bytes ranks record' (budget - budget) 513) answer after
begun bytes ranks record' room {answer = answer} {after = after} budget p runs =
    let none : 0 ≡ budget - budget = omega arith in
    subst (λ (n : ℕ). OneRun (run bytes ranks record' n 513) answer after) none (at_first bytes ranks record' room p runs)

-- The same run under another sum of its budget.
with_budget :
    (bytes ranks record' : List ℕ) (a b : ℕ) {answer : Result RanTo Named} {after : List ℕ} → a ≡ b → OneRun (run bytes ranks record' a 513) answer after →
    OneRun (run bytes ranks record' b 513) answer after
with_budget bytes ranks record' a b {answer} {after} p one = subst (λ (n : ℕ). OneRun (run bytes ranks record' n 513) answer after) p one

pub returns-in_err-ran : goal.returns-in_err-ran
returns-in_err-ran g c =
    let refusal = err_from_is_err_and c.from_residual.result c.from_residual.ensures.1 in
    rw (refusal.1, refusal.2)
    (with_budget _ _ _ _ c.args.budget {after = c.run.new.out} (omega arith)
    (refused_run _ _ _ 0 c.args.budget c.in_err-ran.field-0.0 c.run.new.out (at_first _ _ _ _ c.requires c.in_err-ran.ensures)))

pub loop-left-init : goal.loop-left-init
loop-left-init g c = record {
  room = search rules;
  within = omega arith;
  so_far = begun _ _ _ _ c.args.budget c.requires c.in_ok-ran.ensures;
}

pub carry_on-requires-clause-size_bound : goal.carry_on-requires-clause-size_bound
carry_on-requires-clause-size_bound g c =
    let its =
    spent_run _ _ _ (c.args.budget - c.loop-left.left) c.min-slice.result c.loop-left.ran c.loop-left.out (spent_so _ c.if-eq.ensures)
    c.loop-left.invariant.so_far in
    omega (arith, size_within _ _ _ _ _ its, c.loop-left.invariant.room)

pub carry_on-requires-clause-slice_bound : goal.carry_on-requires-clause-slice_bound
carry_on-requires-clause-slice_bound g c =
    let its =
    spent_run _ _ _ (c.args.budget - c.loop-left.left) c.min-slice.result c.loop-left.ran c.loop-left.out (spent_so _ c.if-eq.ensures)
    c.loop-left.invariant.so_far in
    omega (arith, made_within _ _ _ _ _ its, c.min-slice.ensures, c.loop-left.invariant.within, c.ranges.budget)

pub returns-in_err-ran-2 : goal.returns-in_err-ran-2
returns-in_err-ran-2 g c =
    let its =
    spent_run _ _ _ (c.args.budget - c.loop-left.left) c.min-slice.result c.loop-left.ran c.loop-left.out (spent_so _ c.if-eq.ensures)
    c.loop-left.invariant.so_far in
    let refusal = err_from_is_err_and c.from_residual-in_err-ran-2.result c.from_residual-in_err-ran-2.ensures.1 in
    rw (refusal.1, refusal.2)
    (with_budget _ _ _ _ c.args.budget {after = c.carry_on.new.out} (omega (arith, c.min-slice.ensures, c.loop-left.invariant.within))
    (refused_run _ _ _ (c.args.budget - c.loop-left.left + c.min-slice.result) (c.loop-left.left - c.min-slice.result) c.in_err-ran-2.field-0.0
    c.carry_on.new.out (carried_on_lem _ _ _ _ _ its c.in_err-ran-2.ensures)))

pub loop-left-preserved : goal.loop-left-preserved
loop-left-preserved g c =
    let its =
    spent_run _ _ _ (c.args.budget - c.loop-left.left) c.min-slice.result c.loop-left.ran c.loop-left.out (spent_so _ c.if-eq.ensures)
    c.loop-left.invariant.so_far in
    record {
      room = search rules;
      within = omega (arith, c.loop-left.invariant.within);
      so_far =
          with_budget _ _ _ _ _ (omega (arith, c.min-slice.ensures, c.loop-left.invariant.within))
          (carried_on_lem _ _ _ _ _ its c.in_ok-ran-2.ensures);
    }

pub returns-else-eq : goal.returns-else-eq
returns-else-eq g c =
    with_budget _ _ _ _ c.args.budget (omega (arith, c.loop-left.invariant.within))
    (ended_run _ _ _ (c.args.budget - c.loop-left.left) c.loop-left.left c.loop-left.ran c.loop-left.out (not_so _ c.if-eq.ensures)
    c.loop-left.invariant.so_far)
