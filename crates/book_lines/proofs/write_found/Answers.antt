-- The head and the rules, one laid behind the other. Assumes nothing.
use Rattle.book_lines.proofs.Rules.{book_laid}
use Rattle.book_lines.proofs.write_found.Goals as goal

pub returns : goal.returns
returns c = book_laid c.args.book.now.read c.write_head-at.ensures c.write_rules.ensures
