-- A number that is written in decimal is read back, by one digit at a time from the right: what stands before the last digit
-- is the number divided by ten. Its bytes are digits, the first is no 0 unless the number is, and d digits do below 10^d.
-- Assumes nothing.
use Prim.Native.Nat.{ℕ, zero, suc, ◌+◌, ◌-◌, ◌*◌, ◌/◌, ◌%◌, ◌^◌, ◌≤◌, ◌<◌}
use mathlib.Core.Bool.{Bool, true, false, ◌&&◌}
use mathlib.Core.List.{List, [], ◌∷◌, ◌++◌}
use mathlib.Core.Logic.{◌≢◌}
use mathlib.Core.Option.{none, some, some-injective, none-ne-some, some-ne-none}
use mathlib.Core.Path.{◌≡◌, refl, sym, ap, subst, ◌∙◌}
use native.Mathlib.Nat.{pow-suc, pow-zero, mod-eq_of_lt, mod-lt}
use native.Mathlib.Omega.{arith}
use lib.Dec.{T, leb, ltb, eqb, le→leb, ltb→lt, nltb→le, eqb→eq}
use lib.ListN.{length, length-append}
use Rattle.text.specs.Decimal.{digits, decimal, value_of, number}
use Rattle.text.specs.Text.{ascii}
use Rattle.text.specs.Computing.{computing}
use Rattle.reply.proofs.Tests.{passed, failed, is_true, is_false}
use Rattle.reply.proofs.Every.{Every, every_append}

-- A byte from "0" to "9".
pub record Digit (b : ℕ) : Type 0 where
  pub low : 48 ≤ b
  pub high : b ≤ 57

-- The digits of n by their last one: n is below ten, or n / 10 stands before n % 10.
module _ (P : ℕ → List ℕ → Type 0) where
  by_last_digit :
      ((n : ℕ) → n < 10 → P n ((48 + n) ∷ [])) →
      ((n : ℕ) (ds : List ℕ) → 10 ≤ n → P (n / 10) ds → P n (ds ++ ((48 + n % 10) ∷ []))) →
      (fuel n : ℕ) → n ≤ fuel → P n (digits fuel n)
  unfolding digits
  by_last_digit one more zero n h = rw (mod-eq_of_lt {n = n} {m = 10} (omega arith)) (one n (omega arith))
  by_last_digit one more (suc fuel) n h = go (ltb n 10) refl (by_last_digit one more fuel (n / 10))
    where
      go : (b : Bool) → ltb n 10 ≡ b → (n / 10 ≤ fuel → P (n / 10) (digits fuel (n / 10))) → P n (digits (suc fuel) n)
      go true e below = rw (e, digits) (one n (ltb→lt n 10 (passed e)))
      go false e below =
          let large : 10 ≤ n = nltb→le n 10 (failed e) in
          rw (e, digits) (more n (digits fuel (n / 10)) large (below (omega arith)))

-- One more digit at the end of digits that have a value.
value_digit : (v d : ℕ) (ds : List ℕ) → (leb 48 d && leb d 57) ≡ true → value_of v (d ∷ ds) ≡ value_of (v * 10 + (d - 48)) ds
unfolding value_of
value_digit v d ds e = rw (e, value_of)

value_no_digit : (v d : ℕ) (ds : List ℕ) → (leb 48 d && leb d 57) ≡ false → value_of v (d ∷ ds) ≡ none
unfolding value_of
value_no_digit v d ds e = rw (e, value_of)

digit_test : (r : ℕ) → r < 10 → (leb 48 (48 + r) && leb (48 + r) 57) ≡ true
digit_test r h =
    rw (is_true (leb 48 (48 + r)) (le→leb 48 (48 + r) (omega arith)), is_true (leb (48 + r) 57) (le→leb (48 + r) 57 (omega arith)))

value_snoc : (v m r : ℕ) (ds : List ℕ) → r < 10 → value_of v ds ≡ some m → value_of v (ds ++ ((48 + r) ∷ [])) ≡ some (m * 10 + r)
unfolding value_of
value_snoc v m r [] h e =
    let same : v ≡ m = some-injective v m e in
    value_digit v (48 + r) [] (digit_test r h) ∙ ap (λ (x : ℕ). some x) (omega arith)
value_snoc v m r (d ∷ ds) h e = go (leb 48 d && leb d 57) refl (value_snoc (v * 10 + (d - 48)) m r ds h)
  where
    go :
        (b : Bool) → (leb 48 d && leb d 57) ≡ b →
        (value_of (v * 10 + (d - 48)) ds ≡ some m → value_of (v * 10 + (d - 48)) (ds ++ ((48 + r) ∷ [])) ≡ some (m * 10 + r)) →
        value_of v (d ∷ ds ++ ((48 + r) ∷ [])) ≡ some (m * 10 + r)
    go true t behind = value_digit v d (ds ++ ((48 + r) ∷ [])) t ∙ behind (sym (value_digit v d ds t) ∙ e)
    go false t behind = absurd (none-ne-some m (sym (value_no_digit v d ds t) ∙ e))

digits_value : (fuel n : ℕ) → n ≤ fuel → value_of 0 (digits fuel n) ≡ some n
digits_value =
    by_last_digit (λ n ds. value_of 0 ds ≡ some n)
    (λ n (h : n < 10). value_digit 0 (48 + n) [] (digit_test n h) ∙ unfold value_of in ap (λ (x : ℕ). some x) (omega arith))
    (λ n ds (h : 10 ≤ n) e. value_snoc 0 (n / 10) (n % 10) ds (mod-lt n (omega arith)) e ∙ ap (λ (x : ℕ). some x) (omega arith))

-- A text that starts with no 0.
abbrev Leads : List ℕ → Type 0
Leads [] = ⊥
Leads (d ∷ ds) = 48 < d

leads_append : (l m : List ℕ) → Leads l → Leads (l ++ m)
leads_append [] m h = absurd h
leads_append (d ∷ ds) m h = h

digits_lead : (fuel n : ℕ) → n ≤ fuel → 0 < n → Leads (digits fuel n)
digits_lead =
    by_last_digit (λ n ds. 0 < n → Leads ds)
    (λ n (h : n < 10) (pos : 0 < n). omega arith)
    (λ n ds (h : 10 ≤ n) k (pos : 0 < n). leads_append ds ((48 + n % 10) ∷ []) (k (omega arith)))

number_leading : (l : List ℕ) → Leads l → number l ≡ value_of 0 l
unfolding number
number_leading [] h = absurd h
number_leading (d ∷ []) h = refl
number_leading (d ∷ e ∷ ds) h = rw (no_zero, number)
  where
    no_zero : eqb d 48 ≡ false
    no_zero = is_false (eqb d 48) (λ (t : T (eqb d 48)). omega (arith, eqb→eq d 48 t))

-- What is written is read.
pub number_decimal : (n : ℕ) → number (decimal n) ≡ some n
unfolding decimal
number_decimal zero = unfold computing in refl
number_decimal (suc n) =
    number_leading (digits (suc n) (suc n)) (digits_lead (suc n) (suc n) (omega arith) (omega arith))
    ∙ digits_value (suc n) (suc n) (omega arith)

pub decimal_digits : (n : ℕ) → Every Digit (decimal n)
unfolding decimal
decimal_digits n =
    by_last_digit (λ m ds. Every Digit ds)
    (λ m (h : m < 10). (record { low = omega arith; high = omega arith }, tt))
    (λ m ds (h : 10 ≤ m) k. every_append Digit ds ((48 + m % 10) ∷ []) k (record { low = omega arith; high = omega arith }, tt))
    n n (omega arith)

pub decimal_nonempty : (n : ℕ) → decimal n ≢ []
decimal_nonempty n e = some-ne-none n (sym (number_decimal n) ∙ ap number e ∙ unfold number in refl)

pub decimal_no_minus : (n : ℕ) (behind : List ℕ) → decimal n ≢ 45 ∷ behind
decimal_no_minus n behind e = omega (arith, (subst (Every Digit) e (decimal_digits n)).0.low)

-- Only 0 is written as the text "0".
pub decimal_zero : (n : ℕ) → decimal n ≡ ascii "0" → n ≡ 0
decimal_zero n e = some-injective n 0 (sym (number_decimal n) ∙ ap number e ∙ unfold computing in refl)

-- A number below 10^d has at most d digits.
pub decimal_length : (n d : ℕ) → 0 < d → n < 10 ^ d → length (decimal n) ≤ d
unfolding decimal
decimal_length n d pos small =
    by_last_digit (λ m ds. (e : ℕ) → 0 < e → m < 10 ^ e → length ds ≤ e)
    (λ m (h : m < 10) e (p : 0 < e) k. omega arith)
    (λ m ds (h : 10 ≤ m) shorter e p k. fewer m ds h shorter e k)
    n n (omega arith) d pos small
  where
    fewer :
        (m : ℕ) (ds : List ℕ) → 10 ≤ m → ((e : ℕ) → 0 < e → m / 10 < 10 ^ e → length ds ≤ e) → (e : ℕ) → m < 10 ^ e →
        length (ds ++ ((48 + m % 10) ∷ [])) ≤ e
    fewer m ds h shorter zero k = omega (arith, pow-zero 10)
    fewer m ds h shorter (suc zero) k = omega (arith, pow-suc 10 0, pow-zero 10)
    fewer m ds h shorter (suc (suc e)) k =
        rw length-append (let known = shorter (suc e) (omega arith) (omega (arith, pow-suc 10 (suc e))) in omega arith)
