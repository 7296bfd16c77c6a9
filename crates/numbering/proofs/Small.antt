-- The numbers that the symbols settle are small. Assumes nothing.
use Prim.Native.Nat.{ℕ, ◌-◌, ◌*◌, ◌≤◌}
use mathlib.Core.Bool.{Bool, true, false}
use mathlib.Core.Path.{◌≡◌, refl}
use native.Mathlib.Nat.{mul-le-mul}
use native.Mathlib.Omega.{arith}
use lib.Dec.{ltb}
use Rattle.term.specs.Tables.{rank_bits}
use Rattle.clauses.specs.Numbering.{pair_number}
use Rattle.clauses.specs.Pairs.{Pair}
use Rattle.clauses.proofs.RankBits.{rank_bits_few}

-- A product of small numbers, by the numbers that bound it.
pub product : (a b top right : ℕ) → a ≤ top → b ≤ right → a * b ≤ top * right
product a b top right h k = mul-le-mul h k

pub pair_number_small : (n f g : ℕ) → Pair n f g → pair_number n f g ≤ 256
unfolding pair_number
pair_number_small n f g pair = go (ltb g f) refl
  where
    ahead : f * (n - 1) ≤ 15 * 15
    ahead = product f (n - 1) 15 15 (omega (arith, pair.one)) (omega (arith, pair.few))

    go : (b : Bool) → ltb g f ≡ b → pair_number n f g ≤ 256
    go true e = rw (e, pair_number) (omega (arith, pair.few, pair.other, ahead))
    go false e = rw (e, pair_number) (omega (arith, pair.few, pair.other, ahead))

-- The numbers of the bits, and those of a pair's G.
pub bits_small : (n k : ℕ) → n ≤ 16 → k ≤ 4 → n * k ≤ 16 * 4
bits_small n k few low = product n k 16 4 few low

pub larger_small : (n k f g p : ℕ) → Pair n f g → p ≡ pair_number n f g → k ≤ 4 → p * k ≤ 256 * 4
larger_small n k f g p pair is low = product p k 256 4 (omega (arith, pair_number_small n f g pair)) low

-- At most 256 pairs, and at most 21 clauses each.
pub clauses_small : (n k others each : ℕ) → n ≤ 16 → k ≡ rank_bits n → others ≡ n - 1 → each ≡ 6 * k - 3 → n * others * each ≤ 256 * 21
clauses_small n k others each few is less many = product (n * others) each 256 21 pairs (omega (arith, low))
  where
    low : k ≤ 4
    low = omega (arith, rank_bits_few n few)

    pairs : n * others ≤ 16 * 16
    pairs = product n others 16 16 few (omega arith)
