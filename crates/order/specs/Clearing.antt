-- Clearing a book: every rule decreases. The rank check, refusals 7 and 8.
use Rattle.std.specs.Prelude.{ℕ, suc, Bool, false, ◌≡◌, eqb, length}
use mathlib.Core.List.{List, [], ◌∷◌, Memᴰ}
use Rattle.reply.specs.Reply.{Reply, given, unless, ◌>>◌, ◌>>=◌, ◌at◌}
use Rattle.term.specs.Term.{Term}
use Rattle.term.specs.Replacement.{Occurs}
use Rattle.book.specs.Book.{Book, Rule, symbols}
use Rattle.book.specs.Reading.{read_book}
use Rattle.order.specs.Exceeds.{Exceeds}
use Rattle.order.specs.Test.{exceeds}

-- A rule decreases: its left side is above its right side, in whichever order.
unfoldable pub Decreases : (◌≻◌ : Term → Term → Type 0) → Rule → Type 0
Decreases ◌≻◌ rule = ◌≻◌ rule.left rule.right

unfoldable pub AllDecrease : (◌≻◌ : Term → Term → Type 0) → List Rule → Type 0
AllDecrease ◌≻◌ rules = (rule : Rule) → Memᴰ rule rules → Decreases ◌≻◌ rule

-- "makes every rule decrease": what a relation on the symbols does.
abbrev pub Clears : (above : ℕ → ℕ → Type 0) → List Rule → Type 0
Clears above rules = AllDecrease (Exceeds above) rules

unfoldable pub decreases : (exceeds : Term → Term → Bool) → Rule → Bool
decreases exceeds rule = exceeds rule.left rule.right

-- Under no relation on the symbols, whatever it is, and under no ranks.
pub record NeverDecreases (rule : Rule) : Type 1 where
  pub under_no_relation : (above : ℕ → ℕ → Type 0) → Decreases (Exceeds above) rule → ⊥
  pub under_no_ranks : (ranks : List ℕ) → decreases (exceeds ranks) rule ≡ false

-- "A right side may hold a variable that the left lacks; such a rule is readable and never decreases."
unfoldable pub NewVariableNeverDecreases : Type 1
NewVariableNeverDecreases = (rule : Rule) (x : ℕ) → Occurs x rule.right → (Occurs x rule.left → ⊥) → NeverDecreases rule

-- Refusal 8, "some rule does not decrease", at "the lowest such rule"; these rules are numbered from `number` on.
unfoldable pub all_decrease : (exceeds : Term → Term → Bool) (number : ℕ) → List Rule → Reply (Unit {0})
all_decrease exceeds number [] = given tt
all_decrease exceeds number (rule ∷ rules) = do
  unless (decreases exceeds rule) (8 at number)
  all_decrease exceeds (suc number) rules

-- "ranks 7, 8", of a book that was read.
unfoldable pub ranks_clear : Book → (ranks : List ℕ) → Reply (Unit {0})
ranks_clear book ranks = do
  unless (eqb (length ranks) (symbols book)) (7 at 0)
  all_decrease (exceeds ranks) 0 book.rules

-- ENTRY POINT: check ranks.
unfoldable pub check_ranks : (book ranks : List ℕ) → Reply (Unit {0})
check_ranks book ranks = do
  b ← read_book book
  ranks_clear b ranks
