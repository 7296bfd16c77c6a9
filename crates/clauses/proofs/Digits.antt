-- Binary digits of a rank: its low digits add up to its remainder, and of two ranks the low digits are compared from the highest down.
-- Assumes nothing.
use Prim.Native.Nat.{ℕ, zero, suc, ◌+◌, ◌-◌, ◌*◌, ◌/◌, ◌%◌, ◌^◌, ◌≤◌, ◌<◌}
use mathlib.Core.Bool.{Bool, true, false, not, ◌&&◌, ◌||◌, beq}
use mathlib.Core.Path.{◌≡◌, refl, sym, ap, ap₂, subst, ◌∙◌}
use native.Mathlib.Nat.{mod-lt, mod-eq_of_lt, one-mul, zero-mul}
use native.Mathlib.Numerals.{one-add}
use native.Mathlib.Omega.{arith}
use borrow.Author.Tests.{le-ltb}
use lib.Dec.{ltb}
use lib.Pow.{pow_pos, mod-pow-add}
use Rattle.clauses.specs.Cnf.{Assignment}
use Rattle.clauses.specs.Numbering.{bit, rank_below}
use Rattle.clauses.proofs.Larger.{topped, rank_below_topped, rank_below_bound, topped_smaller}

-- Binary digit b of r.
unfoldable pub digit : (r b : ℕ) → Bool
digit r b = ltb 0 (r / 2 ^ b % 2)

-- The low j digits of r are a larger number than those of s.
unfoldable pub low_larger : (r s j : ℕ) → Bool
low_larger r s j = ltb (s % 2 ^ j) (r % 2 ^ j)

digit_on_top : (d p rest : ℕ) → d < 2 → d * p + rest ≡ topped (ltb 0 d) p rest
unfolding topped
digit_on_top zero p rest h = omega (arith, zero-mul p)
digit_on_top (suc zero) p rest h = omega (arith, one-mul p)
digit_on_top (suc (suc d)) p rest h = absurd (omega arith)

low_digits : (r b : ℕ) → r % 2 ^ suc b ≡ topped (digit r b) (2 ^ b) (r % 2 ^ b)
unfolding digit
low_digits r b =
    ap (λ (j : ℕ). r % 2 ^ j) (sym (one-add b)) ∙ mod-pow-add r 1 b ∙ digit_on_top (r / 2 ^ b % 2) (2 ^ b) (r % 2 ^ b) (omega arith)

pub larger_none : (r s : ℕ) → low_larger r s 0 ≡ false
unfolding low_larger
larger_none r s = le-ltb (s % 1) (r % 1) (omega arith)

pub larger_suc :
    (r s b : ℕ) → low_larger r s (suc b) ≡ (digit r b && not (digit s b) || beq (digit r b) (digit s b) && low_larger r s b)
unfolding low_larger
larger_suc r s b =
    ap₂ ltb (low_digits s b) (low_digits r b)
    ∙ topped_smaller (digit r b) (digit s b) (2 ^ b) (r % 2 ^ b) (s % 2 ^ b) (mod-lt r (pow_pos b)) (mod-lt s (pow_pos b))

-- Bits that are a rank's digits add up to it.
pub digits_add_up :
    (k : ℕ) (α : Assignment) (f r : ℕ) → ((b : ℕ) → b < k → α (bit k f b) ≡ digit r b) → (j : ℕ) → j ≤ k → rank_below k α f j ≡ r % 2 ^ j
unfolding rank_below
digits_add_up k α f r digits zero h = omega arith
digits_add_up k α f r digits (suc b) h =
    rank_below_topped k α f b
    ∙ ap₂ (λ (set : Bool) (rest : ℕ). topped set (2 ^ b) rest) (digits b h) (digits_add_up k α f r digits b (omega arith))
    ∙ sym (low_digits r b)

-- And an assignment's bits are the digits of the rank that they add up to.
topped_apart : (a b : Bool) (p x y : ℕ) → x < p → y < p → topped a p x ≡ topped b p y → (a ≡ b) × (x ≡ y)
unfolding topped
topped_apart true true p x y h l e = (refl, omega arith)
topped_apart true false p x y h l e = absurd (omega arith)
topped_apart false true p x y h l e = absurd (omega arith)
topped_apart false false p x y h l e = (refl, e)

module _ (k : ℕ) (α : Assignment) (f : ℕ) where
  rank : ℕ
  rank = rank_below k α f k

  top_apart : (b : ℕ) → rank_below k α f (suc b) ≡ rank % 2 ^ suc b → (α (bit k f b) ≡ digit rank b) × (rank_below k α f b ≡ rank % 2 ^ b)
  top_apart b e =
      topped_apart (α (bit k f b)) (digit rank b) (2 ^ b) (rank_below k α f b) (rank % 2 ^ b) (rank_below_bound k α f b) (mod-lt rank (pow_pos b))
      (sym (rank_below_topped k α f b) ∙ e ∙ low_digits rank b)

  -- From the top down: `up` bits are above the low j.
  low_rank_below : (up j : ℕ) → j + up ≡ k → rank_below k α f j ≡ rank % 2 ^ j
  unfolding rank
  low_rank_below zero j e =
      let whole : k ≡ j = omega arith in
      subst (λ (i : ℕ). rank_below k α f i ≡ rank % 2 ^ i) whole (sym (mod-eq_of_lt (rank_below_bound k α f k)))
  low_rank_below (suc up) j e = (top_apart j (low_rank_below up (suc j) (omega arith))).1

  pub low_rank : (j : ℕ) → j ≤ k → rank_below k α f j ≡ rank_below k α f k % 2 ^ j
  unfolding rank
  low_rank j h = low_rank_below (k - j) j (omega arith)

  pub bit_is_digit : (b : ℕ) → b < k → α (bit k f b) ≡ digit (rank_below k α f k) b
  unfolding rank
  bit_is_digit b h = (top_apart b (low_rank (suc b) h)).0
