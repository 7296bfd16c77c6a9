-- The loop has laid the blocks up to `next`, and ends where the block call refuses.
use Rattle.std.proofs.Common.{◌-◌, ◌≤◌, ◌≡◌, length}
use Rattle.book.specs.BookOf.{book_of}
use Rattle.clauses.specs.File.{file_blocks}
use Rattle.clause_file.proofs.Fitting.{Reached}
use Rattle.clause_file.proofs.fill.Given as goal

abbrev pub invariant-loop-length : goal.invariant-loop-length
invariant-loop-length l = record {
  within : l.at ≤ length l.out;
  room : length l.out ≡ length l.fn.out;
  reached : Reached (file_blocks (book_of l.book)) l.first l.fn.out l.at l.next l.out;
}

abbrev pub decreases-loop-length : goal.decreases-loop-length
decreases-loop-length l = length (file_blocks (book_of l.book)) - l.next
