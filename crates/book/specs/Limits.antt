-- What a book that was read keeps to.
use Rattle.std.specs.Prelude.{ℕ, ◌≤◌, T, length}
use mathlib.Core.List.{List, Memᴰ}
use Rattle.term.specs.Term.{Term, size, over}
use Rattle.term.specs.Replacement.{Occurs}
use Rattle.book.specs.Book.{Book, Rule, symbols}

-- A side: declared symbols with their arities, "variables 0 to 15", "at most 10 nodes on a side".
pub record SideWithinLimits (arities : List ℕ) (side : Term) : Type 0 where
  pub over_symbols : T (over arities side)
  pub variables : (x : ℕ) → Occurs x side → x ≤ 15
  pub nodes : size side ≤ 10

-- "Numbers: at most 16 symbols, arity 0 to 6, variables 0 to 15, at most 32 rules, at most 10 nodes on a side."
pub record WithinLimits (book : Book) : Type 0 where
  pub symbol_count : symbols book ≤ 16
  pub arity : (a : ℕ) → Memᴰ a book.arities → a ≤ 6
  pub rule_count : length book.rules ≤ 32
  pub left : (rule : Rule) → Memᴰ rule book.rules → SideWithinLimits book.arities rule.left
  pub right : (rule : Rule) → Memᴰ rule book.rules → SideWithinLimits book.arities rule.right
