-- A record is run in working buffers, and the term reached is laid into the lent buffer. Assumes nothing.
use Prim.Native.Nat.{ℕ, ◌+◌}
use mathlib.Core.List.{List, ◌++◌, append-nil}
use mathlib.Core.Path.{◌≡◌, sym, ap, subst, ◌∙◌}
use native.Mathlib.Omega.{arith}
use lib.ListN.{length, take, drop, set, replicate}
use lib.Seq.{take-length, drop-length}
use Rattle.std.proofs.Common.{Ok, MutBor}
use Rattle.reply.specs.Reply.{given}
use Rattle.reply.specs.Lent.{overlaid}
use Rattle.term.specs.At.{At}
use Rattle.term.specs.Copied.{copied}
use Rattle.book.specs.BookOf.{book_of}
use Rattle.steps.specs.Run.{run_from}
use Rattle.running.specs.RunMeaning.{RunsTo}
use Rattle.running.proofs.RecordRuns.{term_copied, record_run_in}
use Rattle.running.proofs.TakingTurns.{Onward, run_begins, whole, steps_remain, run_goes, run_ends}
use Rattle.running.proofs.run_record.Goals as goal

-- A buffer that was lent whole holds what was left there.
lent_whole : (after before : List ℕ) → after ++ drop (length before) before ≡ after
lent_whole after before = ap (λ (l : List ℕ). after ++ l) (drop-length before) ∙ append-nil after

pub loop-outcome-init : goal.loop-outcome-init
loop-outcome-init c =
    let small = c.requires.record_at.small in
    record {
      onward = λ t k.
          run_begins _
          (subst (λ (l : List ℕ). At (take c.args.size l) c.args.book.now.places.arities 0 t c.args.size) (sym c.copy.ensures.kept)
          (term_copied (replicate 513 0) k (omega arith)))
          small;
      room_here = omega (arith, c.copy.auto.out);
      room_there = omega arith;
    }

pub overflow_add-steps : goal.overflow_add-steps
overflow_add-steps c =
    let here = c.requires.record_at in
    let turns = c.loop-outcome.invariant in
    let came = turns.onward here.term here.stands in
    omega (arith, steps_remain came _ _ _ (c.in-Ok.ensures came.term (whole came (omega (arith, came.small, turns.room_here)))))

pub loop-outcome-smaller : goal.loop-outcome-smaller
loop-outcome-smaller c =
    let here = c.requires.record_at in
    let turns = c.loop-outcome.invariant in
    let came = turns.onward here.term here.stands in
    omega (arith, steps_remain came _ _ _ (c.in-Ok.ensures came.term (whole came (omega (arith, came.small, turns.room_here)))))

pub loop-outcome-preserved : goal.loop-outcome-preserved
loop-outcome-preserved c =
    let turns = c.loop-outcome.invariant in
    let swapped : c.swap.new.x.now ≡ c.step.new.out = ap (λ (b : MutBor (List ℕ)). b.now) c.swap.ensures.x_after ∙ lent_whole c.step.new.out c.loop-outcome.there.now in
    record {
      onward = λ t k.
          let came = turns.onward t k in
          subst (λ (l : List ℕ). Onward c.args.book.now.places.arities (book_of c.args.book.now).rules t c.args.budget l (c.loop-outcome.steps + 1) c.in-Ok.next) (sym swapped)
          (run_goes came _ _ _ (c.in-Ok.ensures came.term (whole came (omega (arith, came.small, turns.room_here)))));
      room_here = omega (arith, ap length swapped, c.step.auto.out, ap length (take-length c.loop-outcome.there.now), turns.room_there);
      room_there = omega (arith, ap (λ (b : MutBor (List ℕ)). length b.now) c.swap.ensures.y_after, turns.room_here);
    }

pub returns : goal.returns
returns c t k =
    let a = c.args in
    let l = c.loop-outcome in
    let came = l.invariant.onward t k in
    let ended = run_ends came _ _ _ (c.in-Err.ensures came.term (whole came (omega (arith, came.small, l.invariant.room_here)))) in
    let kept : c.copy-2.new.out ≡ overlaid (copied l.here.now 0 l.length (length a.out.now)) a.out.now =
    c.copy-2.ensures.kept ∙ ap (λ (b : List ℕ). overlaid (copied b 0 l.length (length a.out.now)) a.out.now) (take-length l.here.now)
    in
    subst (λ (b : List ℕ). RunsTo (given (run_from (book_of a.book.now).rules a.budget 0 t)) (Ok (record { outcome = c.in-Err.outcome; steps = l.steps; length = l.length + 1 })) a.out.now (set b l.length 5)) (sym kept)
    (record_run_in _ t _ l.here.now a.out.now came.stands (omega (arith, came.small, c.requires.in_bounds)) ended)
