-- The sides of a book's rules are terms over its arities, so rules that decrease go down among those. Assumes nothing.
use mathlib.Core.List.{Memᴰ}
use Rattle.term.specs.Term.{Term}
use Rattle.book.specs.Book.{Book, Rule}
use Rattle.book.specs.Limits.{WithinLimits}
use Rattle.order.specs.Clearing.{Decreases, AllDecrease}
use Rattle.order.specs.ReductionOrder.{Among}

pub rules_go_down :
    {◌≻◌ : Term → Term → Type 0} {book : Book} → WithinLimits book → AllDecrease ◌≻◌ book.rules →
    (rule : Rule) → Memᴰ rule book.rules → Among book.arities ◌≻◌ rule.left rule.right
unfolding AllDecrease Decreases
rules_go_down limits clears rule m =
    record { left_over = (limits.left rule m).over_symbols; right_over = (limits.right rule m).over_symbols; above = clears rule m }
