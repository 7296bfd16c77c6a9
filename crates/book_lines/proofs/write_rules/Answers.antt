-- What the loop has laid goes on by the rule that it passes, and ends where the rules do. Assumes nothing.
use mathlib.Core.Path.{ap}
use native.Mathlib.Omega.{arith}
use lib.Seq.{take_all}
use Rattle.text.proofs.Laying.{lays_as}
use Rattle.book.specs.BookOf.{book_of}
use Rattle.book_lines.specs.Lines.{one_by_one, rule_line, no_rule}
use Rattle.book_lines.proofs.Numbered.{none_laid, next_laid}
use Rattle.book_lines.proofs.Rules.{rule_count_lem}
use Rattle.book_lines.proofs.write_rules.Goals as goal

pub loop-i-init : goal.loop-i-init
loop-i-init c = none_laid rule_line (book_of c.args.book.now).rules c.args.out.now

pub loop-i-preserved : goal.loop-i-preserved
loop-i-preserved c =
    let book = c.args.book.now in
    next_laid rule_line (book_of book).rules c.loop-i.i no_rule (omega (arith, rule_count_lem book.read)) c.loop-i.invariant
    c.write_rule-at.ensures

pub returns : goal.returns
returns c =
    let book = c.args.book.now in
    lays_as (ap (one_by_one rule_line 0) (take_all c.loop-i.i (book_of book).rules (omega (arith, rule_count_lem book.read)))) c.loop-i.invariant
