-- The argument question's answer means the reply: the book, the record and the argument are asked for in turn. Assumes nothing.
use mathlib.Core.Path.{sym, ap, ◌∙◌}
use Rattle.std.proofs.Common.{Err}
use Rattle.std.proofs.lemmas.Result.{err_from_is_err_and}
use Rattle.reply.specs.Replied.{replied_as}
use Rattle.record.proofs.Stands.{whole_stands}
use Rattle.book.proofs.WasRead.{read_from_lem, read_given, read_refused}
use Rattle.steps.proofs.ArgumentAsked.{not_read, malformed, asked}
use Rattle.steps.proofs.Questions.{record_faulty, record_whole}
use Rattle.asking.specs.Asked.{argument_meaning}
use Rattle.asking.proofs.argument_reply.Goals as goal

pub returns-in_err-book : goal.returns-in_err-book
unfolding argument_meaning replied_as
returns-in_err-book c =
    let p = err_from_is_err_and c.from_residual.result c.from_residual.ensures.1 in
    ap argument_meaning (p.1 ∙ ap Err p.2) ∙ sym (not_read _ _ _ (read_refused _ (sym c.in_err-book.was ∙ c.read_book.ensures.settled)))

pub returns-in_err-read_record : goal.returns-in_err-read_record
unfolding argument_meaning replied_as
returns-in_err-read_record c =
    let p = err_from_is_err_and c.from_residual-in_err-read_record.result c.from_residual-in_err-read_record.ensures.1 in
    let the_book = read_given (read_from_lem (sym c.in_ok-book.was ∙ c.read_book.ensures.settled)) in
    ap argument_meaning (p.1 ∙ ap Err p.2) ∙ sym (malformed _ _ _ the_book (record_faulty _ _ _ _ c.in_err-read_record.ensures.means))

pub argument_of-requires : goal.argument_of-requires
argument_of-requires c =
    let its = whole_stands _ _ _ _ c.in_ok-read_record.ensures.settled in
    record { term = its.term; behind = _; stands = its.stands }

pub returns : goal.returns
returns c =
    let the_book = read_given (read_from_lem (sym c.in_ok-book.was ∙ c.read_book.ensures.settled)) in
    let its = whole_stands _ _ _ _ c.in_ok-read_record.ensures.settled in
    c.argument_of.ensures its.term _ its.stands
    ∙ sym (asked _ _ _ the_book (record_whole _ _ _ its.term its.is))
