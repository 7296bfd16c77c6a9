-- A text for each of several things, laid one behind the other. Assumes nothing.
use Prim.Native.Nat.{ℕ, suc, ◌+◌, ◌-◌, ◌<◌}
use mathlib.Core.List.{List, [], ◌∷◌, ◌++◌, append_assoc, append-nil}
use mathlib.Core.Path.{◌≡◌, sym, ap, ◌∙◌}
use native.Mathlib.Numerals.{add-one}
use native.Mathlib.Omega.{arith}
use lib.ListN.{length, get_or, take}
use lib.Seq.{take-suc, length-take-le}
use borrow.Rule.Slice.PartMut.{mid_of, put_mid}
use Rattle.text.specs.Laying.{Lays}
use Rattle.text.proofs.Laying.{lays_nothing, lays_as, lays_then}
use Rattle.book_lines.specs.Lines.{one_by_one}

module _ {A : Type 0} (each : ℕ → A → List ℕ) where
  one_behind : (n : ℕ) (xs : List A) (x : A) → one_by_one each n (xs ++ (x ∷ [])) ≡ one_by_one each n xs ++ each (n + length xs) x
  unfolding one_by_one
  one_behind n [] x = append-nil (each n x) ∙ ap (λ (i : ℕ). each i x) (omega arith)
  one_behind n (y ∷ xs) x =
      ap (λ (l : List ℕ). each n y ++ l)
      (one_behind (suc n) xs x ∙ ap (λ (i : ℕ). one_by_one each (suc n) xs ++ each i x) (omega arith))
      ∙ sym (append_assoc (each n y) (one_by_one each (suc n) xs) (each (n + length (y ∷ xs)) x))

  -- One thing more.
  one_more :
      (xs : List A) (i : ℕ) (d : A) → i < length xs → one_by_one each 0 (take (i + 1) xs) ≡ one_by_one each 0 (take i xs) ++ each i (get_or xs i d)
  one_more xs i d h =
      ap (λ (j : ℕ). one_by_one each 0 (take j xs)) (add-one i)
      ∙ ap (one_by_one each 0) (take-suc xs i d h)
      ∙ one_behind 0 (take i xs) (get_or xs i d)
      ∙ ap (λ (j : ℕ). one_by_one each 0 (take i xs) ++ each j (get_or xs i d)) (omega (arith, length-take-le i xs (omega arith)))

  pub none_laid : (xs : List A) (buffer : List ℕ) → Lays (one_by_one each 0 (take 0 xs)) buffer 0 buffer
  unfolding one_by_one
  none_laid xs buffer = lays_nothing buffer

  pub next_laid :
      (xs : List A) {before between after : List ℕ} (i : ℕ) (d : A) {k m : ℕ} → i < length xs →
      Lays (one_by_one each 0 (take i xs)) before k between → Lays (each i (get_or xs i d)) (mid_of k (length between - k) between) m after →
      Lays (one_by_one each 0 (take (i + 1) xs)) before (k + m) (put_mid k (length between - k) between after)
  next_laid xs i d h first second = lays_as (sym (one_more xs i d h)) (lays_then first second)
