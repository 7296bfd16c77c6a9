-- A book that the ranks clear has no rule that brings a new variable. Assumes nothing.
use mathlib.Core.List.{List}
use mathlib.Core.Path.{◌≡◌}
use Prim.Native.Nat.{ℕ}
use Rattle.reply.specs.Reply.{given}
use Rattle.book.specs.Book.{Book}
use Rattle.order.specs.Clearing.{Decreases, AllDecrease, ranks_clear}
use Rattle.order.proofs.Checked.{ranks_clear_exactly}
use Rattle.order.proofs.PathOrder.{ranks_order}
use Rattle.steps.specs.Step.{NoNewVariable}

pub cleared_no_new : (book : Book) (ranks : List ℕ) → ranks_clear book ranks ≡ given tt → NoNewVariable book.rules
unfolding NoNewVariable AllDecrease Decreases
cleared_no_new book ranks cleared rule m x o =
    (ranks_order book.arities ranks).no_new_variable rule.left rule.right (((ranks_clear_exactly book ranks).0 cleared).1 rule m) x o
