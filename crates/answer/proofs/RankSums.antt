-- A rank as a sum over bits, bit by bit. Assumes nothing.
use Prim.Native.Nat.{ℕ, ◌+◌, ◌*◌, ◌%◌, ◌^◌, ◌≤◌, ◌<◌}
use mathlib.Core.Bool.{Bool, true, false}
use mathlib.Core.List.{List}
use mathlib.Core.Path.{◌≡◌, refl, ap}
use native.Mathlib.Numerals.{add-one}
use native.Mathlib.Nat.{mod-eq_of_lt}
use Rattle.std.proofs.Math.Nat.{pow-le-pow_right}
use native.Mathlib.Omega.{arith}
use lib.ListN.{get_or}
use Rattle.std.specs.Prelude.{Option, None}
use Rattle.std.specs.Option.{unwrap_or}
use Rattle.clauses.specs.Numbering.{bit, rank_below}
use Rattle.clauses.proofs.Larger.{rank_below_bound}
use Rattle.answer_lines.specs.Marks.{assigned}

module _ (k f : ℕ) (table : List (Option Bool)) (b : ℕ) where
  -- Over at most four bits everything is small, and no bit is lost where 1 is shifted.
  module _ (few : k ≤ 4) (more : b < k) where
    pub small : (rank_below k (assigned table) f b < 16) × (2 ^ b ≤ 16)
    small = (omega (arith, rank_below_bound k (assigned table) f b, least), least)
      where
        least : 2 ^ b ≤ 16
        least = pow-le-pow_right {n = 2} (omega arith) {i = b} {j = 4} (omega arith)

    pub shifted : 1 * 2 ^ b % 256 ≡ 2 ^ b
    shifted = let value : 1 * 2 ^ b ≡ 2 ^ b = omega arith in rw value (mod-eq_of_lt {n = 2 ^ b} {m = 256} (omega (arith, small.1)))

  bit_at : assigned table (bit k f b) ≡ unwrap_or (get_or table (f * k + b) None) false
  unfolding assigned bit
  bit_at = ap (λ (i : ℕ). unwrap_or (get_or table i None) false) (omega arith)

  -- One bit more.
  pub bit_set : {rank : ℕ} → rank ≡ rank_below k (assigned table) f b → unwrap_or (get_or table (f * k + b) None) false ≡ true → rank + 2 ^ b ≡ rank_below k (assigned table) f (b + 1)
  unfolding rank_below
  bit_set s e = rw (add-one, rank_below, bit_at, e, s) refl

  pub bit_clear : {rank : ℕ} → rank ≡ rank_below k (assigned table) f b → unwrap_or (get_or table (f * k + b) None) false ≡ false → rank ≡ rank_below k (assigned table) f (b + 1)
  unfolding rank_below
  bit_clear s e = rw (add-one, rank_below, bit_at, e, s) refl
