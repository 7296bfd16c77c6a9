-- A number in decimal by its last digit: what stands before it is the number divided by ten. Assumes nothing.
use Prim.Native.Nat.{ℕ, zero, suc, ◌+◌, ◌/◌, ◌%◌, ◌≤◌, ◌<◌}
use mathlib.Core.Bool.{Bool, true, false}
use mathlib.Core.List.{List, [], ◌∷◌, ◌++◌}
use mathlib.Core.Path.{◌≡◌, refl, sym, ap, ◌∙◌}
use native.Mathlib.Nat.{mod-eq_of_lt}
use native.Mathlib.Omega.{arith}
use lib.Dec.{ltb}
use borrow.Author.Tests.{lt-ltb, le-ltb, ltb-true, ltb-false}
use Rattle.text.specs.Decimal.{digits, decimal}

-- Below ten there is one digit.
digits_small : (fuel n : ℕ) → n < 10 → digits fuel n ≡ (48 + n) ∷ []
unfolding digits
digits_small zero n h = ap (λ d. (48 + d) ∷ []) (mod-eq_of_lt {n = n} {m = 10} h)
digits_small (suc fuel) n h = rw (lt-ltb n 10 h, digits)

digits_large : (fuel n : ℕ) → 10 ≤ n → digits (suc fuel) n ≡ digits fuel (n / 10) ++ ((48 + n % 10) ∷ [])
unfolding digits
digits_large fuel n h = rw (le-ltb n 10 h, digits)

-- Fuel that is enough does not show.
digits_fuel : (fuel more n : ℕ) → n ≤ fuel → n ≤ more → digits fuel n ≡ digits more n
digits_fuel zero more n h k = digits_small zero n (omega arith) ∙ sym (digits_small more n (omega arith))
digits_fuel (suc fuel) zero n h k = digits_small (suc fuel) n (omega arith) ∙ sym (digits_small zero n (omega arith))
digits_fuel (suc fuel) (suc more) n h k = go (ltb n 10) refl (digits_fuel fuel more (n / 10))
  where
    go :
        (b : Bool) → ltb n 10 ≡ b → (n / 10 ≤ fuel → n / 10 ≤ more → digits fuel (n / 10) ≡ digits more (n / 10)) →
        digits (suc fuel) n ≡ digits (suc more) n
    go true e same = digits_small (suc fuel) n (ltb-true n 10 e) ∙ sym (digits_small (suc more) n (ltb-true n 10 e))
    go false e same =
        let large : 10 ≤ n = ltb-false n 10 e in
        digits_large fuel n large
        ∙ ap (λ (ds : List ℕ). ds ++ ((48 + n % 10) ∷ [])) (same (omega arith) (omega arith))
        ∙ sym (digits_large more n large)

pub decimal_digit : (n : ℕ) → n < 10 → decimal n ≡ (48 + n) ∷ []
unfolding decimal
decimal_digit n h = digits_small n n h

pub decimal_last : (n : ℕ) → 10 ≤ n → decimal n ≡ decimal (n / 10) ++ ((48 + n % 10) ∷ [])
unfolding decimal
decimal_last zero h = absurd (omega arith)
decimal_last (suc m) h =
    digits_large m (suc m) h
    ∙ ap (λ (ds : List ℕ). ds ++ ((48 + suc m % 10) ∷ [])) (digits_fuel m (suc m / 10) (suc m / 10) (omega arith) (omega arith))
