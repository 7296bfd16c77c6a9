-- The number behind its word and the two sides, one laid behind the other. Assumes nothing.
use Rattle.text.proofs.Laying.{lays_then}
use Rattle.text.specs.Text.{ascii}
use Rattle.book_lines.specs.Lines.{rule_line}
use Rattle.book_lines.proofs.write_rule.Goals as goal

pub returns : goal.returns
unfolding rule_line ascii
returns c =
    lays_then c.write_counted-at.ensures c.write_sides.ensures
