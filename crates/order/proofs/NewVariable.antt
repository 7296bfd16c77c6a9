-- A rule whose right side holds a variable that its left side lacks never decreases: what exceeds has every variable of what it exceeds.
-- Assumes nothing.
use Prim.Native.Nat.{ℕ}
use mathlib.Core.Bool.{false}
use mathlib.Core.List.{List}
use mathlib.Core.Path.{◌≡◌}
use Rattle.term.specs.Replacement.{Occurs}
use Rattle.book.specs.Book.{Rule}
use Rattle.reply.proofs.Tests.{equal_tests}
use Rattle.order.specs.Precedence.{Above}
use Rattle.order.specs.Exceeds.{Exceeds}
use Rattle.order.specs.Test.{exceeds}
use Rattle.order.specs.Clearing.{Decreases, decreases, NewVariableNeverDecreases}
use Rattle.order.proofs.Decides.{exceeds_decides}
use Rattle.order.proofs.Kept.{no_new_variable_lem}

module _ (rule : Rule) (x : ℕ) (new : Occurs x rule.right) (lacking : Occurs x rule.left → ⊥) where
  never_above : (above : ℕ → ℕ → Type 0) → Exceeds above rule.left rule.right → ⊥
  never_above above e = lacking (no_new_variable_lem rule.left rule.right e x new)

  under_no_relation_lem : (above : ℕ → ℕ → Type 0) → Decreases (Exceeds above) rule → ⊥
  unfolding Decreases
  under_no_relation_lem above e = never_above above e

  under_no_ranks_lem : (ranks : List ℕ) → decreases (exceeds ranks) rule ≡ false
  unfolding decreases
  under_no_ranks_lem ranks =
      equal_tests (exceeds ranks rule.left rule.right) false
      (λ h. absurd (never_above (Above ranks) ((exceeds_decides ranks rule.left rule.right).0 h)), λ h. absurd h)

pub new_variable_never_decreases : NewVariableNeverDecreases
unfolding NewVariableNeverDecreases
new_variable_never_decreases rule x new lacking =
    record { under_no_relation = under_no_relation_lem rule x new lacking; under_no_ranks = under_no_ranks_lem rule x new lacking }
