-- What the loop has laid goes on by the symbol that it passes. Assumes nothing.
use native.Mathlib.Omega.{arith}
use Rattle.book_lines.specs.Lines.{symbol_text}
use Rattle.book_lines.proofs.Numbered.{none_laid, next_laid}
use Rattle.book_lines.proofs.write_symbols.Goals as goal

pub loop-f-init : goal.loop-f-init
loop-f-init c = none_laid symbol_text c.args.arities.now c.args.out.now

pub loop-f-preserved : goal.loop-f-preserved
loop-f-preserved c =
    next_laid symbol_text c.args.arities.now c.loop-f.f 0 (omega arith) c.loop-f.invariant c.write_symbol-at.ensures
