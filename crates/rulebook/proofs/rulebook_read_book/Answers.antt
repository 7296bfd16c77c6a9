-- Of a book that was read the counts are those of the book that stands at its places. Assumes nothing.
use Rattle.rulebook.proofs.BookTold.{book_was_read}
use Rattle.rulebook.proofs.rulebook_read_book.Goals as goal

pub returns-in-Ok : goal.returns-in-Ok
returns-in-Ok c = book_was_read c.in-Ok.ensures.settled c.count_blocks.result (c.count_blocks.ensures c.args.book.now)
