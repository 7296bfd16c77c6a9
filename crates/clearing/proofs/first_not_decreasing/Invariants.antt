-- The rules from `rule` on reply what all rules reply.
use mathlib.Core.Path.{◌≡◌}
use Rattle.book.specs.BookOf.{book_of}
use Rattle.order.specs.Test.{exceeds}
use Rattle.order.specs.Clearing.{all_decrease}
use Rattle.clearing.proofs.Lowest.{from}
use Rattle.clearing.proofs.first_not_decreasing.Given as goal

abbrev pub invariant-loop-rule : goal.invariant-loop-rule
invariant-loop-rule l =
    let rules = (book_of l.fn.book).rules in
    from (exceeds l.fn.ranks) rules l.rule ≡ all_decrease (exceeds l.fn.ranks) 0 rules
