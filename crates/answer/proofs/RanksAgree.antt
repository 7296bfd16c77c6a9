-- The ranks of an assignment depend on the rank variables 1 to n·k alone. Assumes nothing.
use Prim.Native.Nat.{ℕ, zero, suc, ◌+◌, ◌*◌, ◌^◌, ◌≤◌, ◌<◌}
use mathlib.Core.Bool.{Bool, true, false}
use mathlib.Core.List.{List, ◌∷◌, map}
use mathlib.Core.Path.{◌≡◌, refl, ap, ap₂}
use native.Mathlib.Omega.{arith}
use Rattle.clauses.specs.Cnf.{Assignment}
use Rattle.clauses.specs.Numbering.{bit, numbers, rank_below, ranks_of}
use Rattle.clauses.proofs.Numbered.{bit_within}

bit_from_one : (k f b : ℕ) → 1 ≤ bit k f b
unfolding bit
bit_from_one k f b = omega arith

module _ (n k : ℕ) (α β : Assignment) (same : (v : ℕ) → 1 ≤ v → v ≤ n * k → α v ≡ β v) where
  rank_agrees : (f : ℕ) → f < n → (bits : ℕ) → bits ≤ k → rank_below k α f bits ≡ rank_below k β f bits
  unfolding rank_below
  rank_agrees f h zero room = refl
  rank_agrees f h (suc b) room = go (α (bit k f b)) (β (bit k f b)) refl refl equal (rank_agrees f h b (omega arith))
    where
      equal : α (bit k f b) ≡ β (bit k f b)
      equal = same (bit k f b) (bit_from_one k f b) (bit_within k f b room n h)

      go :
          (x y : Bool) → α (bit k f b) ≡ x → β (bit k f b) ≡ y → x ≡ y → rank_below k α f b ≡ rank_below k β f b →
          rank_below k α f (suc b) ≡ rank_below k β f (suc b)
      go true true p q e r = rw (rank_below, p, q) (ap (λ (m : ℕ). m + 2 ^ b) r)
      go true false p q e r = cc
      go false true p q e r = cc
      go false false p q e r = rw (rank_below, p, q) r

  each_agrees :
      (first count : ℕ) → first + count ≤ n → map (λ f. rank_below k α f k) (numbers first count) ≡ map (λ f. rank_below k β f k) (numbers first count)
  unfolding numbers
  each_agrees first zero h = refl
  each_agrees first (suc count) h =
      ap₂ (λ (r : ℕ) (rs : List ℕ). r ∷ rs) (rank_agrees first (omega arith) k (omega arith)) (each_agrees (suc first) count (omega arith))

  pub ranks_agree : ranks_of n k α ≡ ranks_of n k β
  unfolding ranks_of
  ranks_agree = each_agrees 0 n (omega arith)
