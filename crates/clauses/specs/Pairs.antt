-- Pairs of different symbols.
use Rattle.std.specs.Prelude.{ℕ, ◌+◌, ◌≤◌, ◌<◌, true, false, ◌≢◌, ltb}

-- "each ordered pair f ≠ g", of at most 16 symbols.
pub record Pair (n f g : ℕ) : Type 0 where
  pub few : n ≤ 16
  pub one : f < 16
  pub other : g < 16
  pub different : f ≢ g

-- The symbol with number r among those besides f: "by p", where p has f(n−1) and then g or g − 1.
unfoldable pub other_symbol : (f r : ℕ) → ℕ
other_symbol f r = elim (ltb r f) [ true ↦ r | false ↦ r + 1 ]
