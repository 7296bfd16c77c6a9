-- How many clauses the pairs have where no pair has a bit. Assumes nothing.
use Prim.Native.Nat.{ℕ, ◌-◌, ◌*◌}
use mathlib.Core.List.{flatten}
use mathlib.Core.Path.{◌≡◌, sym, ap, ◌∙◌}
use native.Mathlib.Nat.{mul-zero}
use lib.ListN.{length}
use Rattle.clauses.proofs.PairCount.{pairs_clauses_count}
use Rattle.clauses.specs.Blocks.{pair_blocks}
use Rattle.term.specs.Tables.{rank_bits}

pub no_clauses : (n k : ℕ) → k ≡ rank_bits n → k ≡ 0 → 0 ≡ length (flatten (pair_blocks n (rank_bits n)))
no_clauses n k is none =
    sym
    (pairs_clauses_count n (rank_bits n)
    ∙ ap (λ (k : ℕ). n * (n - 1) * (6 * k - 3)) (sym is ∙ none)
    ∙ mul-zero (n * (n - 1)))
