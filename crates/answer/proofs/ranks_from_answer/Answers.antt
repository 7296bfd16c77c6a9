-- `answer::ranks_from_answer` meets its contract: a book that cannot be read is refused as its reading is, and one that was read gives
-- the ranks that are asked of it.
use Rattle.std.proofs.lemmas.Result.{err_from_is_err_and}
use Rattle.book.proofs.WasRead.{read_from_lem, read_refused, read_given}
use Rattle.answer.proofs.Afterwards.{book_refused, of_read_book}
use Rattle.answer.proofs.ranks_from_answer.Goals as goal

pub returns-in_err-places : goal.returns-in_err-places
returns-in_err-places c =
    let why = err_from_is_err_and c.from_residual.result c.from_residual.ensures.1 in
    rw (why.1, why.2) (book_refused c.args.book.now c.args.text.now c.args.out.now _ (read_refused c.args.book.now c.in_err-places.ensures.settled))

pub returns : goal.returns
returns c =
    of_read_book c.args.book.now c.args.text.now c.args.out.now _
    (read_given (read_from_lem c.in_ok-places.ensures.settled)) _ _ c.answer_to.ensures
