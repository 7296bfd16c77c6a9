-- A book that was read has few rules, and the sides of each stand at its places. Assumes nothing.
use Rattle.text.specs.Text.{ascii}
use Rattle.book_lines.proofs.Rules.{sides_laid}
use Rattle.book_lines.proofs.write_sides.Goals as goal

pub returns : goal.returns
unfolding ascii
returns c =
    sides_laid c.args.book.now.read c.args.i c.requires c.write_side-middle.ensures c.write_side.ensures c.write_byte.ensures
