-- What is decided of each number below a bound is decided of all of them; and where only ⊥ is to be shown, finitely many decisions may be
-- taken as made. Assumes nothing.
use Prim.Native.Nat.{ℕ, zero, suc, ◌<◌}
use mathlib.Core.Path.{◌≡◌, subst}
use native.Mathlib.Decide.{dec_lt}
use native.Mathlib.Omega.{arith}

-- Finitely many decisions may be taken as made where only ⊥ is to be shown.
pub undecided_absurd : (A : Type 0) → (Dec A → ⊥) → ⊥
undecided_absurd A k = k (no (λ a. k (yes a)))

pub up_to : (n : ℕ) (D : ℕ → Type 0) → ((f : ℕ) → f < n → D f) → D n → (f : ℕ) → f < suc n → D f
up_to n D below at_n f h = go (dec_lt f n)
  where
    go : Dec (f < n) → D f
    go (yes p) = below f p
    go (no q) = let e : n ≡ f = omega arith in subst D e at_n

pub all_below : (n : ℕ) (D : ℕ → Type 0) → ((f : ℕ) → (D f → ⊥) → ⊥) → (((f : ℕ) → f < n → D f) → ⊥) → ⊥
all_below zero D each k = k (λ f (h : f < 0). absurd (omega arith))
all_below (suc n) D each k = all_below n D each (λ below. each n (λ at_n. k (up_to n D below at_n)))
