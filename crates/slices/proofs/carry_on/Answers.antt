-- The record is copied out of the buffer, whole, and run from there.
use Rattle.std.proofs.Common.{ℕ, ◌-◌, ◌≤◌, List, ◌≡◌, ap, subst, ◌∙◌, arith, length, take, drop, replicate}
use mathlib.Core.Path.{refl, ap₂}
use Rattle.std.specs.Prelude.{Result, Ok}
use Rattle.std.proofs.lemmas.Result.{err_from_is_err_and}
use lib.Seq.{take-append_seam}
use Rattle.reply.specs.Lent.{overlaid}
use Rattle.reply.specs.Reply.{Reply}
use Rattle.reply.specs.declared.Refusal.{Refusal as Named}
use Rattle.reply.specs.Replied.{replied_as}
use Rattle.term.specs.Copied.{copied}
use Rattle.term.proofs.Copied.{copied_whole}
use Rattle.steps.specs.Run.{Ran, run}
use Rattle.running.specs.RunMeaning.{told_in_code, run_meaning, RunsTo}
use Rattle.running.specs.declared.RanTo.{RanTo}
use Rattle.slices.proofs.AddUp.{told_within, refused_later, made_later, later_run}
use Rattle.slices.proofs.carry_on.Goals as goal

-- What was copied lies at the start of the record's own buffer.
laid_there : {n : ℕ} {after : List ℕ} (text before : List ℕ) → n ≡ length text → after ≡ overlaid text before → take n after ≡ text
laid_there text before p q = ap₂ (λ (m : ℕ) (l : List ℕ). take m l) p q ∙ take-append_seam text (drop (length text) before)

is_record :
    {n : ℕ} {after : List ℕ} (out : List ℕ) (size : ℕ) → length out ≡ 513 → size ≤ 513 → n ≡ length (copied out 0 size 513) →
    after ≡ overlaid (copied out 0 size 513) (replicate 513 0) → take n after ≡ take size out
is_record out size whole within p q =
    let same : size - 0 ≡ size = omega arith in
    laid_there (copied out 0 size 513) (replicate 513 0) p q ∙ copied_whole out 0 size 513 (omega arith) ∙ ap (λ (n : ℕ). take n out) same

-- So the slice is a run of that record.
runs_record :
    (book ranks «record» laid out : List ℕ) (slice room : ℕ) {answer : Result RanTo Named} {before after : List ℕ} → laid ≡ «record» → room ≡ 513 →
    RunsTo (run book ranks laid slice room) answer before after → RunsTo (run book ranks «record» slice 513) answer before after
runs_record book ranks «record» laid out slice room {answer} {before} {after} p q runs =
    subst (λ (x : Reply Ran). RunsTo x answer before after) (ap₂ (λ (l : List ℕ) (room : ℕ). run book ranks l slice room) p q) runs

pub returns-in_err-further : goal.returns-in_err-further
returns-in_err-further c =
    let refusal = err_from_is_err_and c.from_residual.result c.from_residual.ensures.1 in
    rw (refusal.1, refusal.2)
    (later_run c.args.ran.steps
    (runs_record _ _ _ _ c.args.out.now _ _
    (is_record c.args.out.now c.args.ran.length c.requires.out_len c.requires.size_bound c.copy-laid.ensures.laid c.copy-laid.ensures.kept)
    c.requires.out_len c.in_err-further.ensures)
    (refused_later c.args.ran.steps _))

pub overflow_add-result : goal.overflow_add-result
unfolding run_meaning replied_as told_in_code
overflow_add-result c =
    let ran = c.in_ok-further.further in
    let few = told_within _ _ _ _ _ (Ok ran) (told_in_code ran) c.in_ok-further.ensures.replied refl in
    record { fits = omega (arith, few, c.requires.slice_bound) }

pub returns : goal.returns
returns c =
    later_run c.args.ran.steps
    (runs_record _ _ _ _ c.args.out.now _ _
    (is_record c.args.out.now c.args.ran.length c.requires.out_len c.requires.size_bound c.copy-laid.ensures.laid c.copy-laid.ensures.kept)
    c.requires.out_len c.in_ok-further.ensures)
    (made_later c.args.ran.steps c.in_ok-further.further)
