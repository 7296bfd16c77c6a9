-- A book that cannot be read is refused for what the reading says, and one that was read has its block.
use mathlib.Core.Path.{sym, ap, ◌∙◌}
use Rattle.std.proofs.Common.{Err}
use Rattle.std.proofs.lemmas.Result.{err_from_is_err_and}
use Rattle.book.proofs.WasRead.{read_from_lem, read_given, read_refused}
use Rattle.blocks.proofs.BlockCall.{unreadable, of_read_book}
use Rattle.blocks.proofs.write_block.Goals as goal

pub returns-in_err-places : goal.returns-in_err-places
returns-in_err-places c =
    let p = err_from_is_err_and c.from_residual.result c.from_residual.ensures.1 in
    let so = unreadable c.args.book.now c.args.number c.args.out.now _ (read_refused _ (sym c.in_err-places.was ∙ c.read_book.ensures.settled)) in
    record { means = rw (p.1 ∙ ap Err p.2) so.means; leaves = so.leaves }

pub returns : goal.returns
returns c =
    let the_book = read_given (read_from_lem (sym c.in_ok-places.was ∙ c.read_book.ensures.settled)) in
    let so =
    of_read_book c.args.book.now c.args.number c.args.out.now _ the_book
    (record { means = c.write_read_block.ensures.means; leaves = c.write_read_block.ensures.leaves })
    in
    record { means = so.means; leaves = so.leaves }
