-- Two texts are the same exactly if `==` says so; texts compared from a place on. By one byte at a time. Assumes nothing.
use Prim.Native.Nat.{ℕ, suc, ◌+◌, ◌≤◌, ◌<◌}
use mathlib.Core.Bool.{Bool, true, false, ◌&&◌}
use mathlib.Core.List.{List, [], ◌∷◌}
use mathlib.Core.Path.{◌≡◌, refl, ap}
use native.Mathlib.Numerals.{add-one}
use native.Mathlib.Omega.{arith}
use lib.Dec.{eqb}
use lib.ListN.{length, get_or, drop, drop_of_length-le}
use lib.Pointwise.{pointwise}
use lib.Seq.{drop-cons}
use borrow.Author.Tests.{eq-eqb, ne_eqb}
use Rattle.text.specs.Text.{same_text}

pub equal_is_same : (l m : List ℕ) → pointwise eqb l m ≡ same_text l m
unfolding same_text
equal_is_same [] [] = refl
equal_is_same [] (b ∷ m) = refl
equal_is_same (a ∷ l) [] = refl
equal_is_same (a ∷ l) (b ∷ m) = ap (λ (t : Bool). eqb a b && t) (equal_is_same l m)

-- Texts of different lengths differ.
pub longer_or_shorter : (l m : List ℕ) → (length l ≡ length m → ⊥) → same_text l m ≡ false
unfolding same_text
longer_or_shorter [] [] d = absurd (d refl)
longer_or_shorter [] (b ∷ m) d = refl
longer_or_shorter (a ∷ l) [] d = refl
longer_or_shorter (a ∷ l) (b ∷ m) d = go (eqb a b) (longer_or_shorter l m (λ e. d (ap suc e)))
  where
    go : (t : Bool) → same_text l m ≡ false → (t && same_text l m) ≡ false
    go true e = e
    go false e = refl

-- Texts of one length, from a place i on.
module _ (l m : List ℕ) (i : ℕ) (lengths : length l ≡ length m) where
  pub both_ended : length l ≤ i → same_text (drop i l) (drop i m) ≡ true
  unfolding same_text
  both_ended h = let k : length m ≤ i = omega arith in rw (drop_of_length-le l h, drop_of_length-le m k)

  pub same_further : i < length l → get_or l i 0 ≡ get_or m i 0 → same_text (drop i l) (drop i m) ≡ same_text (drop (i + 1) l) (drop (i + 1) m)
  unfolding same_text
  same_further h e =
      let k : i < length m = omega arith in
      rw (drop-cons l i 0 h, drop-cons m i 0 k, add-one i, same_text, eq-eqb _ _ e)

  pub differ_here : i < length l → (get_or l i 0 ≡ get_or m i 0 → ⊥) → same_text (drop i l) (drop i m) ≡ false
  unfolding same_text
  differ_here h d = let k : i < length m = omega arith in rw (drop-cons l i 0 h, drop-cons m i 0 k, same_text, ne_eqb _ _ d)
