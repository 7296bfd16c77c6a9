-- The loop has laid the rules that it passed. Assumes nothing.
use Rattle.text.specs.Laying.{Lays}
use Rattle.book.specs.BookOf.{book_of}
use lib.ListN.{take}
use Rattle.book_lines.specs.Lines.{one_by_one, rule_line}
use Rattle.book_lines.proofs.write_rules.Given as goal

abbrev pub invariant-loop-i : goal.invariant-loop-i
invariant-loop-i l = Lays (one_by_one rule_line 0 (take l.i (book_of l.book).rules)) l.initial.out l.at l.out
