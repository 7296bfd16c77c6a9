-- The order looks at nothing but the rank of each symbol, so a table that gives the same ranks gives the same replies. Assumes nothing.
use Prim.Native.Nat.{ℕ, ◌+◌}
use mathlib.Core.Bool.{Bool}
use mathlib.Core.List.{List}
use mathlib.Core.Path.{◌≡◌, ap, ap₂, fun_ext}
use lib.Dec.{ltb}
use Rattle.term.specs.Term.{Term, size}
use Rattle.book.specs.Book.{Rule}
use Rattle.order.specs.Precedence.{above}
use Rattle.order.specs.Test.{exceeds_in, exceeds}
use Rattle.order.specs.Clearing.{all_decrease}
use Rattle.order.specs.SameRanks.{SameRanks}

module _ (table ranks : List ℕ) (same : SameRanks table ranks) where
  above_same : above table ≡ above ranks
  unfolding above
  above_same = fun_ext (λ f. fun_ext (λ g. ap₂ ltb (same g) (same f)))

  exceeds_same : exceeds table ≡ exceeds ranks
  unfolding exceeds
  exceeds_same = fun_ext (λ s. fun_ext (λ t. ap (λ (higher : ℕ → ℕ → Bool). exceeds_in (size s + size t) higher s t) above_same))

  pub all_decrease_same : (number : ℕ) (rules : List Rule) → all_decrease (exceeds table) number rules ≡ all_decrease (exceeds ranks) number rules
  all_decrease_same number rules = ap (λ (test : Term → Term → Bool). all_decrease test number rules) exceeds_same
