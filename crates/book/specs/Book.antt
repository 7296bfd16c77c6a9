-- A book that was read: the arity of each symbol and the rules, both numbered from 0.
use Rattle.std.specs.Prelude.{ℕ, List, length}
use Rattle.term.specs.Term.{Term}

-- "A rule is kind 2, the left term, the right term."
pub record Rule : Type 0 where
  pub left : Term
  pub right : Term

-- "symbols and rules are numbered from 0": a number is a place in its list, so a symbol needs no more than its arity.
pub record Book : Type 0 where
  pub arities : List ℕ
  pub rules : List Rule

-- n, the number of symbols.
unfoldable pub symbols : Book → ℕ
symbols book = length book.arities
