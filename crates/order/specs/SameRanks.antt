-- Ranks in a table of 16.
use Rattle.std.specs.Prelude.{ℕ, List, ◌≡◌, get_or}

-- The same rank for every symbol, 0 for one that has none.
abbrev pub SameRanks : (table ranks : List ℕ) → Type 0
SameRanks table ranks = (f : ℕ) → get_or table f 0 ≡ get_or ranks f 0
