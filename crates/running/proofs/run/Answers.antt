-- The run's reply and the lent buffer: the book is read, the ranks are checked, and then the cleared book is run. Assumes nothing.
use mathlib.Core.Path.{sym, ap, ◌∙◌}
use Rattle.std.proofs.Common.{Err}
use Rattle.std.proofs.lemmas.Result.{err_from_is_err_and}
use Rattle.reply.specs.Replied.{replied}
use Rattle.book.proofs.WasRead.{read_from_lem, read_given, read_refused}
use Rattle.steps.proofs.NoNewVariable.{cleared_no_new}
use Rattle.steps.proofs.RanCleared.{not_read, not_cleared, cleared}
use Rattle.running.proofs.RunsTo.{refused_by, runs_as}
use Rattle.running.proofs.run.Goals as goal

pub returns-in_err-places : goal.returns-in_err-places
returns-in_err-places c =
    let p = err_from_is_err_and c.from_residual.result c.from_residual.ensures.1 in
    refused_by _ (p.1 ∙ ap Err p.2) (not_read _ _ _ _ _ (read_refused _ c.in_err-places.ensures.settled))

pub returns-in_err-ranks_clear : goal.returns-in_err-ranks_clear
unfolding replied
returns-in_err-ranks_clear c =
    let p = err_from_is_err_and c.from_residual-in_err-ranks_clear.result c.from_residual-in_err-ranks_clear.ensures.1 in
    refused_by _ (p.1 ∙ ap Err p.2)
    (not_cleared _ _ _ _ _ (read_given (read_from_lem c.in_ok-places.ensures.settled)) (sym c.in_err-ranks_clear.ensures))

pub run_cleared-requires : goal.run_cleared-requires
unfolding replied
run_cleared-requires c = record { no_new = cleared_no_new _ _ (sym c.in_ok-ranks_clear.ensures) }

pub returns : goal.returns
unfolding replied
returns c =
    runs_as (cleared _ _ _ _ _ (read_given (read_from_lem c.in_ok-places.ensures.settled)) (sym c.in_ok-ranks_clear.ensures))
    c.run_cleared.ensures
