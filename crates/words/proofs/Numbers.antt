-- A number from 1 to `top`, read digit by digit: it is 0 as soon as a byte is no digit, the number passes `top`, or it stays 0 behind
-- its first digit; otherwise one goes on behind the digit. Values only grow. Assumes nothing.
use Prim.Native.Nat.{ℕ, zero, suc, ◌+◌, ◌-◌, ◌*◌, ◌≤◌, ◌<◌}
use mathlib.Core.Bool.{Bool, true, false, not, ◌&&◌}
use mathlib.Core.List.{List, [], ◌∷◌}
use mathlib.Core.Option.{Option, none, some, some-injective, none-ne-some, some-ne-none}
use mathlib.Core.Path.{◌≡◌, refl, sym, ap, ◌∙◌}
use native.Mathlib.Decide.{dec_le, ℕ_discrete}
use native.Mathlib.Omega.{arith}
use native.Mathlib.Numerals.{add-one}
use lib.Dec.{leb, eqb}
use lib.ListN.{length, get_or, drop, drop_of_length-le}
use lib.Seq.{drop-cons}
use borrow.Author.Tests.{le-leb, lt-leb, ne_eqb}
use Rattle.std.specs.Bool.{then_some}
use Rattle.text.specs.Decimal.{value_of, number, not_above, within}
use Rattle.words.specs.Numbers.{from_one}

module _ (v d : ℕ) (ds : List ℕ) where
  pub no_digit_low : d < 48 → value_of v (d ∷ ds) ≡ none
  unfolding value_of
  no_digit_low h = rw (value_of, lt-leb 48 d h)

  pub no_digit_high : 57 < d → value_of v (d ∷ ds) ≡ none
  unfolding value_of
  no_digit_high h = rw (value_of, lt-leb d 57 h, le-leb 48 d (omega arith))

  pub digit_value : 48 ≤ d → d ≤ 57 → value_of v (d ∷ ds) ≡ value_of (v * 10 + (d - 48)) ds
  unfolding value_of
  digit_value h k = rw (value_of, le-leb 48 d h, le-leb d 57 k)

module _ (top : ℕ) where
  pub within_top : (v : ℕ) → v ≤ top → within top (some v) ≡ v
  unfolding within
  within_top v h = rw (within, le-leb v top h)

  pub above_top : (v : ℕ) → top < v → within top (some v) ≡ 0
  unfolding within
  above_top v h = rw (within, lt-leb v top h)

  passed_top : (v : ℕ) (ds : List ℕ) → top < v → within top (value_of v ds) ≡ 0
  unfolding value_of within
  passed_top v [] h = above_top v h
  passed_top v (d ∷ ds) h = go (leb 48 d && leb d 57) refl (passed_top (v * 10 + (d - 48)) ds)
    where
      go : (b : Bool) → (leb 48 d && leb d 57) ≡ b → (top < v * 10 + (d - 48) → within top (value_of (v * 10 + (d - 48)) ds) ≡ 0) → within top (value_of v (d ∷ ds)) ≡ 0
      go true e behind = rw (value_of, e) (behind (omega arith))
      go false e behind = rw (value_of, e)

  -- What one byte behind the value v comes to, by its digit d.
  pub no_digit_below : (v b : ℕ) → b < 48 → none ≡ not_above top (value_of v (b ∷ []))
  unfolding not_above
  no_digit_below v b h = sym (ap (not_above top) (no_digit_low v b [] h))

  pub no_digit_above : (v b : ℕ) → 57 < b → none ≡ not_above top (value_of v (b ∷ []))
  unfolding not_above
  no_digit_above v b h = sym (ap (not_above top) (no_digit_high v b [] h))

  module _ (v b d : ℕ) (low : 48 ≤ b) (high : b ≤ 57) (digit : d ≡ b - 48) where
    one_digit : value_of v (b ∷ []) ≡ some (v * 10 + d)
    unfolding value_of
    one_digit = rw digit (digit_value v b [] low high)

    pub comes_to_more : top < v * 10 + d → none ≡ not_above top (value_of v (b ∷ []))
    unfolding not_above
    comes_to_more h = rw (one_digit, not_above, lt-leb (v * 10 + d) top h)

    pub comes_to : v * 10 + d ≤ top → some (v * 10 + d) ≡ not_above top (value_of v (b ∷ []))
    unfolding not_above
    comes_to h = rw (one_digit, not_above, le-leb (v * 10 + d) top h)

  -- The same as a number from 1 to `top`, else 0.
  pub is_within : (o : Option ℕ) {g : ℕ} → some g ≡ not_above top o → g ≡ within top o
  unfolding not_above within
  is_within none {g} e = absurd (some-ne-none g e)
  is_within (some v) {g} e = go (leb v top) refl
    where
      go : (b : Bool) → leb v top ≡ b → g ≡ within top (some v)
      go true t = rw (within, t) (some-injective g v (e ∙ rw (not_above, t)))
      go false t = absurd (some-ne-none g (e ∙ rw (not_above, t)))

  pub none_within : (o : Option ℕ) → none ≡ not_above top o → 0 ≡ within top o
  unfolding not_above within
  none_within none e = refl
  none_within (some v) e = go (leb v top) refl
    where
      go : (b : Bool) → leb v top ≡ b → 0 ≡ within top (some v)
      go true t = absurd (none-ne-some v (e ∙ rw (not_above, t)))
      go false t = rw (within, t)

  -- The number that a text is behind the digits of `value`; behind none of them it starts with no 0.
  abbrev pub behind : (value : ℕ) → List ℕ → ℕ
  behind zero text = within top (number text)
  behind (suc value) text = within top (value_of (suc value) text)

  ended : (v : ℕ) → v ≤ top → v ≡ behind v []
  unfolding number value_of within
  ended zero h = refl
  ended (suc v) h = sym (within_top (suc v) h)

  -- One byte behind a value: nothing comes of it, whatever follows, or a value that goes on.
  data Grown (v b : ℕ) : Type 0 where
    stops : within top (value_of v (b ∷ [])) ≡ 0 → ((l : List ℕ) → within top (value_of v (b ∷ l)) ≡ 0) → Grown v b
    goes :
        48 ≤ b → within top (value_of v (b ∷ [])) ≡ v * 10 + (b - 48) → ((l : List ℕ) → value_of v (b ∷ l) ≡ value_of (v * 10 + (b - 48)) l) →
        Grown v b

  grown : (v b : ℕ) → Grown v b
  unfolding within value_of
  grown v b = go (dec_le 48 b) (dec_le b 57) (dec_le (v * 10 + (b - 48)) top)
    where
      go : Dec (48 ≤ b) → Dec (b ≤ 57) → Dec (v * 10 + (b - 48) ≤ top) → Grown v b
      go (yes low) (yes high) (yes small) =
          goes low (ap (within top) (digit_value v b [] low high) ∙ within_top _ small) (λ l. digit_value v b l low high)
      go (yes low) (yes high) (no large) =
          stops (ap (within top) (digit_value v b [] low high) ∙ passed_top _ [] (omega arith))
          (λ l. ap (within top) (digit_value v b l low high) ∙ passed_top _ l (omega arith))
      go (yes low) (no high) small = stops (ap (within top) (no_digit_high v b [] (omega arith))) (λ l. ap (within top) (no_digit_high v b l (omega arith)))
      go (no low) high small = stops (ap (within top) (no_digit_low v b [] (omega arith))) (λ l. ap (within top) (no_digit_low v b l (omega arith)))

  leading : (b : ℕ) (l : List ℕ) → (b ≡ 48 → ⊥) → number (b ∷ l) ≡ value_of 0 (b ∷ l)
  unfolding number
  leading b [] d = refl
  leading b (c ∷ l) d = rw (number, ne_eqb b 48 d)

  leading_zero : (l : List ℕ) → within top (number (48 ∷ l)) ≡ 0
  unfolding number value_of within
  leading_zero [] = within_top 0 (omega arith)
  leading_zero (c ∷ l) = refl

  stopped_first : (b : ℕ) (l : List ℕ) → within top (value_of 0 (b ∷ [])) ≡ 0 → within top (number (b ∷ l)) ≡ 0
  stopped_first b l e = go (ℕ_discrete b 48) (grown 0 b)
    where
      go : Dec (b ≡ 48) → Grown 0 b → within top (number (b ∷ l)) ≡ 0
      go (yes z) g = ap (λ (d : ℕ). within top (number (d ∷ l))) z ∙ leading_zero l
      go (no z) (stops _ nothing) = ap (within top) (leading b l z) ∙ nothing l
      go (no z) (goes low e' _) = absurd (z (omega arith))

  stopped : (v b : ℕ) (l : List ℕ) → within top (value_of v (b ∷ [])) ≡ 0 → behind v (b ∷ l) ≡ 0
  stopped zero b l e = stopped_first b l e
  stopped (suc v) b l e = go (grown (suc v) b)
    where
      go : Grown (suc v) b → within top (value_of (suc v) (b ∷ l)) ≡ 0
      go (stops _ nothing) = nothing l
      go (goes low e' _) = absurd (omega arith)

  gone_on : (v b g : ℕ) (l : List ℕ) → g ≡ within top (value_of v (b ∷ [])) → (g ≡ 0 → ⊥) → behind v (b ∷ l) ≡ behind g l
  gone_on v b zero l e d = absurd (d refl)
  gone_on v b (suc g) l e d = go v (grown v b) e
    where
      digit_first : (low : 48 ≤ b) → suc g ≡ 0 * 10 + (b - 48) → b ≡ 48 → ⊥
      digit_first low e z = omega arith

      go : (w : ℕ) → Grown w b → suc g ≡ within top (value_of w (b ∷ [])) → behind w (b ∷ l) ≡ within top (value_of (suc g) l)
      go w (stops nought _) e = absurd (omega arith)
      go zero (goes low e' on) e =
          ap (within top) (leading b l (digit_first low (e ∙ e')) ∙ on l ∙ ap (λ (n : ℕ). value_of n l) (sym (e ∙ e')))
      go (suc w) (goes low e' on) e = ap (within top) (on l ∙ ap (λ (n : ℕ). value_of n l) (sym (e ∙ e')))

  never_above : (v b : ℕ) → within top (value_of v (b ∷ [])) ≤ top
  unfolding within
  never_above v b = go (value_of v (b ∷ []))
    where
      go : (o : Option ℕ) → within top o ≤ top
      go none = omega arith
      go (some n) = under (dec_le n top)
        where
          under : Dec (n ≤ top) → within top (some n) ≤ top
          under (yes h) = rw (within_top n h) h
          under (no h) = rw (above_top n (omega arith)) (omega arith)

  -- The same from a place i of a text on; g is what the byte there comes to.
  module _ (text : List ℕ) (i v : ℕ) where
    pub ended_at : length text ≤ i → v ≤ top → v ≡ behind v (drop i text)
    ended_at over h = rw (drop_of_length-le text over) (ended v h)

    module _ (g : ℕ) (here : i < length text) (e : g ≡ within top (value_of v (get_or text i 0 ∷ []))) where
      pub stopped_at : g ≡ 0 → 0 ≡ behind v (drop i text)
      stopped_at z = rw (drop-cons text i 0 here) (sym (stopped v _ _ (sym e ∙ z)))

      pub gone_on_at : (g ≡ 0 → ⊥) → {x : ℕ} → behind v (drop i text) ≡ x → (g ≤ top) × (behind g (drop (i + 1) text) ≡ x)
      gone_on_at d w = (rw e (never_above v (get_or text i 0)), rw (add-one i) (sym (gone_on v _ g _ e d) ∙ (rw (drop-cons text i 0 here) at w)))

-- A number other than 0, as the code tells it.
pub from_one_is : (v : ℕ) → then_some (not (eqb v 0)) v ≡ from_one v
unfolding from_one
from_one_is zero = refl
from_one_is (suc v) = rw (ne_eqb (suc v) 0 (λ e. omega arith))

-- What one digit more comes to.
pub ruleset one_more_digit = (no_digit_below, no_digit_above, comes_to_more, comes_to)
