-- A run of a cleared book: the record and the lent buffer are asked for in turn, and then the record is run. Assumes nothing.
use Prim.Native.Nat.{ℕ, ◌≤◌}
use mathlib.Core.List.{List}
use mathlib.Core.Path.{ap, ◌∙◌}
use native.Mathlib.Omega.{arith}
use Rattle.std.proofs.Common.{Err}
use Rattle.std.proofs.lemmas.Result.{err_from_is_err_and}
use Rattle.reply.specs.Refusals.{numbered}
use Rattle.record.proofs.Stands.{WholeTerm, whole_stands}
use Rattle.steps.proofs.RanCleared.{malformed, short, runs}
use Rattle.steps.proofs.Questions.{record_faulty, record_whole}
use Rattle.running.proofs.RunsTo.{refused_run, refused_by, runs_as}
use Rattle.running.proofs.run_cleared.Goals as goal

-- The record's length.
small : {text arities : List ℕ} {symbols nodes : ℕ} → WholeTerm text symbols arities nodes → nodes ≤ 256
small its = omega (arith, its.node_count, its.its.few)

pub returns-in_err-nodes : goal.returns-in_err-nodes
returns-in_err-nodes c =
    let p = err_from_is_err_and c.from_residual.result c.from_residual.ensures.1 in
    refused_by _ (p.1 ∙ ap Err p.2) (malformed _ _ _ _ (record_faulty _ _ _ _ c.in_err-nodes.ensures.means))

pub returns-then-out-lt513 : goal.returns-then-out-lt513
unfolding numbered
returns-then-out-lt513 c =
    let its = whole_stands _ _ _ _ c.in_ok-nodes.ensures.settled in
    refused_run _ (short _ _ _ _ (record_whole _ _ _ its.term its.is) (omega arith))

pub overflow_mul-nodes : goal.overflow_mul-nodes
overflow_mul-nodes c = omega (arith, small (whole_stands _ _ _ _ c.in_ok-nodes.ensures.settled))

pub run_record-requires-clause-record_at : goal.run_record-requires-clause-record_at
run_record-requires-clause-record_at c =
    let its = whole_stands _ _ _ _ c.in_ok-nodes.ensures.settled in
    record { term = its.term; stands = its.stands; small = omega (arith, small its) }

pub returns : goal.returns
returns c =
    let its = whole_stands _ _ _ _ c.in_ok-nodes.ensures.settled in
    runs_as (runs _ _ _ _ (record_whole _ _ _ its.term its.is) (omega arith)) (c.run_record.ensures its.term its.stands)
