-- The loop has laid the symbols that it passed. Assumes nothing.
use Rattle.text.specs.Laying.{Lays}
use lib.ListN.{take}
use Rattle.book_lines.specs.Lines.{one_by_one, symbol_text}
use Rattle.book_lines.proofs.write_symbols.Given as goal

abbrev pub invariant-loop-f : goal.invariant-loop-f
invariant-loop-f l = Lays (one_by_one symbol_text 0 (take l.f l.arities)) l.initial.out l.at l.out
