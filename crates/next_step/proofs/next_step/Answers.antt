-- The book is read, the ranks are checked, and then the next step of the record is looked for. Assumes nothing.
use mathlib.Core.Path.{sym, ap, ◌∙◌}
use Rattle.std.proofs.Common.{Err}
use Rattle.std.proofs.lemmas.Result.{err_from_is_err_and}
use Rattle.reply.specs.Replied.{replied, replied_as}
use Rattle.book.proofs.WasRead.{read_from_lem, read_given, read_refused}
use Rattle.steps.proofs.NextAsked.{not_read, not_cleared, cleared}
use Rattle.next_step.specs.NextMeaning.{next_meaning}
use Rattle.next_step.proofs.next_step.Goals as goal

pub returns-in_err-places : goal.returns-in_err-places
unfolding next_meaning replied_as
returns-in_err-places c =
    let p = err_from_is_err_and c.from_residual.result c.from_residual.ensures.1 in
    ap next_meaning (p.1 ∙ ap Err p.2) ∙ sym (not_read _ _ _ (read_refused _ c.in_err-places.ensures.settled))

pub returns-in_err-ranks_clear : goal.returns-in_err-ranks_clear
unfolding replied next_meaning replied_as
returns-in_err-ranks_clear c =
    let p = err_from_is_err_and c.from_residual-in_err-ranks_clear.result c.from_residual-in_err-ranks_clear.ensures.1 in
    ap next_meaning (p.1 ∙ ap Err p.2)
    ∙ sym (not_cleared _ _ _ (read_given (read_from_lem c.in_ok-places.ensures.settled)) (sym c.in_err-ranks_clear.ensures))

pub returns : goal.returns
unfolding replied
returns c =
    c.of_record.ensures ∙ sym (cleared _ _ _ (read_given (read_from_lem c.in_ok-places.ensures.settled)) (sym c.in_ok-ranks_clear.ensures))
