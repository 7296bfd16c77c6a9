-- The table of rank bits has at each n up to 16 the least k with 2^k at least n: a test computed over the whole table, and a law
-- that turns it into the rule at each entry. Assumes nothing.
use Prim.Native.Nat.{ℕ, zero, suc, ◌+◌, ◌^◌, ◌≤◌, ◌<◌}
use mathlib.Core.Bool.{Bool, true, ◌&&◌}
use mathlib.Core.List.{List, [], ◌∷◌}
use mathlib.Core.Path.{◌≡◌}
use native.Mathlib.Omega.{arith}
use native.Mathlib.Decide.{dec_lt}
use native.Mathlib.Nat.{add-zero, zero-add, suc-add, add-suc}
use lib.Dec.{T, leb, ltb, leb→le, ltb→lt}
use lib.ListN.{length, get_or, get_or-eq_default}
use lib.Pow.{pow_mono}
use Rattle.term.specs.Tables.{rank_bits_table, rank_bits}
use Rattle.term.specs.Computing.{computing}
use Rattle.reply.proofs.Tests.{and_left, and_right}

-- The test f passes at each entry of the list and its place, counted from i.
passes_at : (ℕ → ℕ → Bool) → ℕ → List ℕ → Bool
passes_at f i [] = true
passes_at f i (x ∷ xs) = f i x && passes_at f (suc i) xs

passes_from : (f : ℕ → ℕ → Bool) (xs : List ℕ) (i : ℕ) → T (passes_at f i xs) → (k : ℕ) → k < length xs → T (f (i + k) (get_or xs k 0))
unfolding passes_at
passes_from f [] i t k h = absurd (let z : k < 0 = h in omega arith)
passes_from f (x ∷ xs) i t zero h = rw add-zero (and_left (f i x) (passes_at f (suc i) xs) t)
passes_from f (x ∷ xs) i t (suc k) h =
    rw (add-suc, ← suc-add) (passes_from f xs (suc i) (and_right (f i x) (passes_at f (suc i) xs) t) k (omega arith))

-- b is the least number with 2^b at least n.
least : (n b : ℕ) → Bool
least n zero = leb n 1
least n (suc b) = leb n (2 ^ suc b) && ltb (2 ^ b) n

least_enough : (n b : ℕ) → T (least n b) → n ≤ 2 ^ b
unfolding least
least_enough n zero t = leb→le n 1 t
least_enough n (suc b) t = leb→le n (2 ^ suc b) (and_left (leb n (2 ^ suc b)) (ltb (2 ^ b) n) t)

least_none_below : (n b : ℕ) → T (least n b) → (j : ℕ) → n ≤ 2 ^ j → b ≤ j
unfolding least
least_none_below n zero t j h = omega arith
least_none_below n (suc b) t j h = go (dec_lt b j)
  where
    go : Dec (b < j) → suc b ≤ j
    go (yes l) = l
    go (no l) = absurd (omega (arith, pow_mono {i = j} {j = b} (omega arith), ltb→lt (2 ^ b) n (and_right (leb n (2 ^ suc b)) (ltb (2 ^ b) n) t)))

rank_bits_pass : (n : ℕ) → n ≤ 16 → T (least n (rank_bits n))
unfolding computing passes_at least
rank_bits_pass n h = rw zero-add at (passes_from least rank_bits_table 0 tt n (omega arith))

pub rank_bits_least : (n : ℕ) → n ≤ 16 → (n ≤ 2 ^ rank_bits n) × ((j : ℕ) → n ≤ 2 ^ j → rank_bits n ≤ j)
rank_bits_least n h = (least_enough n (rank_bits n) (rank_bits_pass n h), least_none_below n (rank_bits n) (rank_bits_pass n h))

-- Behind the table's end it is 0.
pub rank_bits_past : (n : ℕ) → 17 ≤ n → rank_bits n ≡ 0
unfolding rank_bits rank_bits_table
rank_bits_past n h = get_or-eq_default rank_bits_table 0 {n = n} (omega arith)
