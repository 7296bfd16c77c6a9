-- Ranks in an array of 16.
use Rattle.std.specs.Prelude.{ℕ, ◌-◌, List, ◌++◌, replicate}
use Rattle.clauses.specs.Cnf.{Assignment}
use Rattle.clauses.specs.Numbering.{ranks_of}

-- The ranks of n symbols, and 0 behind them.
unfoldable pub padded_ranks : (n k : ℕ) → Assignment → List ℕ
padded_ranks n k α = ranks_of n k α ++ replicate (16 - n) 0
