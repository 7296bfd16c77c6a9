-- How many clauses the pairs' blocks have: three at the lowest bit and six at each other, for each of n(n−1) pairs. Assumes nothing.
use Prim.Native.Nat.{ℕ, zero, suc, ◌-◌, ◌*◌}
use mathlib.Core.Bool.{Bool, true, false}
use mathlib.Core.List.{List, [], ◌∷◌, flat_map, flatten}
use mathlib.Core.Path.{◌≡◌, refl, sym, ap, ◌∙◌}
use native.Mathlib.Nat.{suc-mul, zero-mul}
use native.Mathlib.Omega.{arith}
use lib.Dec.{eqb}
use lib.ListN.{length, length-append}
use Rattle.reply.proofs.Every.{Every, every_flat_map}
use Rattle.clauses.specs.Cnf.{Clause}
use Rattle.clauses.specs.Numbering.{numbers}
use Rattle.clauses.specs.Blocks.{pair_clauses, pair_block, pair_blocks_of, pair_blocks, lowest_bit, higher_bit}
use Rattle.clauses.proofs.BlockNumbers.{pairs_count}

-- One pair: three at the lowest bit, six at each other.
module _ (n k f g : ℕ) where
  higher_count : (first count : ℕ) → length (flat_map (pair_clauses n k f g) (numbers (suc first) count)) ≡ 6 * count
  unfolding flat_map numbers pair_clauses lowest_bit higher_bit
  higher_count first zero = refl
  higher_count first (suc count) = omega (arith, higher_count (suc first) count)

  bits_count : (count : ℕ) → length (flat_map (pair_clauses n k f g) (numbers 0 count)) ≡ 6 * count - 3
  unfolding flat_map numbers pair_clauses lowest_bit higher_bit
  bits_count zero = refl
  bits_count (suc count) = omega (arith, higher_count 0 count)

pair_block_count : (n k f g : ℕ) → length (pair_block n k f g) ≡ 6 * k - 3
unfolding pair_block
pair_block_count n k f g = bits_count n k f g k

each_pair : (n k f : ℕ) (others : List ℕ) → Every (λ (b : List Clause). length b ≡ 6 * k - 3) (pair_blocks_of n k f others)
unfolding pair_blocks_of
each_pair n k f [] = tt
each_pair n k f (g ∷ others) = go (eqb f g) refl (each_pair n k f others)
  where
    go :
        (t : Bool) → eqb f g ≡ t → Every (λ (b : List Clause). length b ≡ 6 * k - 3) (pair_blocks_of n k f others) →
        Every (λ (b : List Clause). length b ≡ 6 * k - 3) (pair_blocks_of n k f (g ∷ others))
    go true e later = rw (e, pair_blocks_of) later
    go false e later = rw (e, pair_blocks_of) (pair_block_count n k f g, later)

-- As many in each of several blocks, and so in all.
flat_count : {A : Type 0} (many : ℕ) (l : List (List A)) → Every (λ (x : List A). length x ≡ many) l → length (flatten l) ≡ length l * many
unfolding flatten
flat_count many [] h = sym (zero-mul many)
flat_count many (x ∷ l) h = length-append x (flatten l) ∙ omega (arith, h.0, flat_count many l h.1, suc-mul (length l) many)

every_one : {A : Type 0} (P : A → Type 0) → ((x : A) → P x) → (l : List A) → Every P l
every_one P all [] = tt
every_one P all (x ∷ l) = (all x, every_one P all l)

pub pairs_clauses_count : (n k : ℕ) → length (flatten (pair_blocks n k)) ≡ n * (n - 1) * (6 * k - 3)
pairs_clauses_count n k =
    flat_count (6 * k - 3) (pair_blocks n k) every ∙ ap (λ (m : ℕ). m * (6 * k - 3)) (pairs_count n k)
  where
    every : Every (λ (b : List Clause). length b ≡ 6 * k - 3) (pair_blocks n k)
    every =
        unfold pair_blocks in
        every_flat_map (λ (f : ℕ). Unit {0}) (λ (b : List Clause). length b ≡ 6 * k - 3) (λ f. pair_blocks_of n k f (numbers 0 n)) (λ f u. each_pair n k f (numbers 0 n)) (numbers 0 n)
        (every_one (λ (f : ℕ). Unit {0}) (λ f. tt) (numbers 0 n))
