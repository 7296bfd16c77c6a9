-- Which symbol is above which: any relation, a strict precedence, ranks.
use Rattle.std.specs.Prelude.{ℕ, ◌<◌, Bool, List, ltb, get_or}

-- "A strict precedence is any irreflexive, transitive relation on the symbols, and not only one that comes from ranks."
-- The symbols are the numbers below n.
pub record StrictPrecedence (n : ℕ) (above : ℕ → ℕ → Type 0) : Type 0 where
  pub irreflexive : (f : ℕ) → f < n → above f f → ⊥
  pub transitive : (f g h : ℕ) → f < n → g < n → h < n → above f g → above g h → above f h

-- "Ranks are one byte a symbol; f is above g exactly if its rank is larger. Symbols of equal rank are unrelated."
unfoldable pub Above : (ranks : List ℕ) → ℕ → ℕ → Type 0
Above ranks f g = get_or ranks g 0 < get_or ranks f 0

unfoldable pub above : (ranks : List ℕ) → ℕ → ℕ → Bool
above ranks f g = ltb (get_or ranks g 0) (get_or ranks f 0)
