-- A book that was read is the book at its places; a refusal is told as it is. Assumes nothing.
use mathlib.Core.Path.{sym, ap}
use Rattle.text.proofs.Laying.{lays_as}
use Rattle.book.proofs.WasRead.{read_from_lem, read_given, read_refused}
use Rattle.book_lines.specs.Lines.{shown_lines}
use Rattle.book_lines.proofs.write_book.Goals as goal

pub returns-in-Ok : goal.returns-in-Ok
unfolding shown_lines
returns-in-Ok c = lays_as (sym (ap shown_lines (read_given (read_from_lem c.in-Ok.ensures.settled)))) c.write_found.ensures

pub returns-in-Err : goal.returns-in-Err
unfolding shown_lines
returns-in-Err c = lays_as (sym (ap shown_lines (read_refused c.args.bytes.now c.in-Err.ensures.settled))) c.write_refused.ensures
