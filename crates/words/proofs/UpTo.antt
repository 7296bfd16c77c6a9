-- The next end in a text, looked for from place i on, is at j: nothing is left, or it stands here, or it is the next end from i + 1 on. Assumes nothing.
use Prim.Native.Nat.{ℕ, suc, ◌+◌, ◌≤◌, ◌<◌}
use mathlib.Core.Bool.{Bool, true, false}
use mathlib.Core.List.{List, ◌∷◌}
use mathlib.Core.Path.{◌≡◌, ap}
use native.Mathlib.Numerals.{add-one}
use native.Mathlib.Omega.{arith}
use lib.ListN.{length, get_or, drop, drop_of_length-le}
use lib.Seq.{drop-cons}
use Rattle.text.specs.Text.{up_to}

module _ (ends : ℕ → Bool) where
  up_to_here : (b : ℕ) (bs : List ℕ) → ends b ≡ true → up_to ends (b ∷ bs) ≡ 0
  unfolding up_to
  up_to_here b bs e = rw (e, up_to)

  up_to_further : (b : ℕ) (bs : List ℕ) → ends b ≡ false → up_to ends (b ∷ bs) ≡ suc (up_to ends bs)
  unfolding up_to
  up_to_further b bs e = rw (e, up_to)

  pub at_the_end : (text : List ℕ) (i : ℕ) {j : ℕ} → length text ≤ i → i + up_to ends (drop i text) ≡ j → i ≡ j
  unfolding up_to
  at_the_end text i h e = omega (arith, ap (up_to ends) (drop_of_length-le text h))

  pub found_here : (text : List ℕ) (i : ℕ) {j : ℕ} → i < length text → ends (get_or text i 0) ≡ true → i + up_to ends (drop i text) ≡ j → i ≡ j
  found_here text i h t e = omega (arith, ap (up_to ends) (drop-cons text i 0 h), up_to_here (get_or text i 0) (drop (suc i) text) t)

  pub found_further :
      (text : List ℕ) (i : ℕ) {j : ℕ} → i < length text → ends (get_or text i 0) ≡ false → i + up_to ends (drop i text) ≡ j →
      i + 1 + up_to ends (drop (i + 1) text) ≡ j
  found_further text i h t e =
      rw add-one (omega (arith, ap (up_to ends) (drop-cons text i 0 h), up_to_further (get_or text i 0) (drop (suc i) text) t))
