-- A run that is refused, and one that is given under another name. Assumes nothing.
use Prim.Native.Nat.{ℕ}
use mathlib.Core.List.{List}
use mathlib.Core.Path.{◌≡◌, sym, ap, subst}
use Rattle.std.specs.Prelude.{Result, Err}
use Rattle.reply.specs.Reply.{Reply, refused, ◌>>=◌}
use Rattle.reply.specs.Refusals.{numbered}
use Rattle.reply.specs.Replied.{replied_as}
use Rattle.reply.specs.Lent.{laid}
use Rattle.reply.specs.declared.Refusal.{Refusal as Named}
use Rattle.steps.specs.Run.{Ran, ran_bytes}
use Rattle.running.specs.RunMeaning.{run_told, run_meaning, RunsTo}
use Rattle.running.specs.declared.RanTo.{RanTo}

-- A refusal leaves the lent buffer.
pub refused_run : {reply : Reply Ran} {r : Named} (out : List ℕ) → reply ≡ refused (numbered r) → RunsTo reply (Err r) out out
unfolding run_meaning replied_as run_told ran_bytes laid ◌>>=◌
refused_run out q = record { replied = ap run_told (sym q); written = ap (λ (x : Reply Ran). laid (ran_bytes x) out) (sym q) }

pub refused_by :
    {reply : Reply Ran} {r : Named} {answer : Result RanTo Named} (out : List ℕ) → answer ≡ Err r → reply ≡ refused (numbered r) →
    RunsTo reply answer out out
refused_by {reply} out e q = subst (λ (a : Result RanTo Named). RunsTo reply a out out) (sym e) (refused_run out q)

-- The same run under another name.
pub runs_as : {reply reply' : Reply Ran} {answer : Result RanTo Named} {before after : List ℕ} → reply' ≡ reply → RunsTo reply answer before after → RunsTo reply' answer before after
runs_as {answer = answer} {before = before} {after = after} e runs = subst (λ (x : Reply Ran). RunsTo x answer before after) (sym e) runs
