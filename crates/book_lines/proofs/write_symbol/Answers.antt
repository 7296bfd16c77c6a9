-- The two numbers behind their words, one laid behind the other. Assumes nothing.
use Rattle.number_text.specs.Numbers.{counted}
use mathlib.Core.Path.{ap}
use Rattle.text.specs.Text.{ascii}
use Rattle.text.proofs.Laying.{lays_as, lays_then}
use Rattle.book_lines.specs.Lines.{symbol_text}
use Rattle.book_lines.proofs.write_symbol.Goals as goal

pub returns : goal.returns
unfolding symbol_text ascii
returns c =
    lays_then c.write_counted-at.ensures (lays_as (ap (counted (ascii "/")) c.wide.ensures) c.write_counted.ensures)
