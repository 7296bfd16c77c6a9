-- The blocks before `number` are printed, and a buffer that stays empty says that there are no more.
use Rattle.std.proofs.Common.{◌-◌, ◌≤◌, ◌≡◌, length}
use Rattle.book.specs.BookOf.{book_of}
use Rattle.clauses.specs.File.{file_blocks}
use Rattle.clause_file.proofs.print_file.Given as goal

abbrev pub invariant-loop-number : goal.invariant-loop-number
invariant-loop-number g l = record {
  within : l.number ≤ length (file_blocks (book_of l.book));
  room : length l.out ≡ length l.fn.out;
}

abbrev pub decreases-loop-number : goal.decreases-loop-number
decreases-loop-number g l = length (file_blocks (book_of l.book)) - l.number
