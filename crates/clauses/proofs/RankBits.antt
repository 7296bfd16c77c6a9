-- The rank bits k of few symbols: two symbols need one, sixteen no more than four. Assumes nothing.
use Prim.Native.Nat.{ℕ, zero, suc, ◌^◌, ◌≤◌, ◌<◌}
use mathlib.Core.Path.{◌≡◌, refl, subst}
use native.Mathlib.Omega.{arith}
use Rattle.term.specs.Tables.{rank_bits}
use Rattle.term.proofs.Tables.{rank_bits_least}

pub some_bit : (n : ℕ) → n ≤ 16 → 1 < n → 0 < rank_bits n
some_bit n h more = go (rank_bits n) refl
  where
    go : (k : ℕ) → rank_bits n ≡ k → 0 < rank_bits n
    go zero e = absurd (omega (arith, subst (λ (k : ℕ). n ≤ 2 ^ k) e (rank_bits_least n h).0))
    go (suc k) e = omega arith

-- k is at most 4.
pub rank_bits_few : (n : ℕ) → n ≤ 16 → rank_bits n ≤ 4
rank_bits_few n h = (rank_bits_least n h).1 4 h
