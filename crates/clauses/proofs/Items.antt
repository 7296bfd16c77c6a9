-- A literal's word, as the clause file writes it, is read as that literal. Assumes nothing.
use Prim.Native.Nat.{ℕ, ◌≤◌}
use mathlib.Core.Bool.{false}
use mathlib.Core.List.{List, [], ◌∷◌}
use mathlib.Core.Logic.{◌≢◌}
use mathlib.Core.Option.{some, none-ne-some}
use mathlib.Core.Path.{◌≡◌, refl, ap}
use native.Mathlib.Omega.{arith}
use lib.Dec.{T, leb, eqb, le→leb, eqb→eq}
use lib.ListN.{get_or}
use Rattle.text.specs.Decimal.{decimal, number}
use Rattle.text.specs.Text.{ascii, same_text, space, newline}
use Rattle.text.proofs.Decimal.{Digit, number_decimal, decimal_digits, decimal_nonempty, decimal_zero}
use Rattle.reply.proofs.Every.{Every, every_implied}
use Rattle.reply.proofs.Tests.{is_true, is_false}
use Rattle.text.proofs.Words.{same_text_lem}
use Rattle.clauses.specs.Cnf.{Literal, is, is_not, Clause, variable_of}
use Rattle.clauses.specs.Item.{literal, signed, literal_of, item}
use Rattle.clauses.specs.Dimacs.{blank}
use Rattle.clauses.specs.Computing.{computing}

-- A variable from 1 to `top`.
pub record Within (top v : ℕ) : Type 0 where
  pub first : 1 ≤ v
  pub last : v ≤ top

-- A clause over the variables 1 to `top`.
abbrev pub Over : (top : ℕ) → Clause → Type 0
Over top clause = Every (λ l. Within top (variable_of l)) clause

abbrev pub literal_word : Literal → List ℕ
literal_word (is v) = decimal v
literal_word (is_not v) = 45 ∷ decimal v

signed_within :
    (top v : ℕ) (sign : ℕ → Literal) (word : List ℕ) → Within top v → number word ≡ some v →
    signed top sign (number word) ≡ literal (sign v)
unfolding signed
signed_within top v sign word w e = rw (e, signed, is_true (leb 1 v) (le→leb 1 v w.first), is_true (leb v top) (le→leb v top w.last))

digit_no_minus : (b : ℕ) → Digit b → b ∷ [] ≡ ascii "-" → ⊥
digit_no_minus b d e = let minus : b ≡ 45 = unfold computing in ap (λ (l : List ℕ). get_or l 0 0) e in omega arith

plain_literal : (top v : ℕ) (word : List ℕ) → Every Digit word → number word ≡ some v → Within top v → literal_of top word ≡ literal (is v)
unfolding literal_of number
plain_literal top v [] ds e w = absurd (none-ne-some v e)
plain_literal top v (b ∷ bs) ds e w = rw (no_minus, literal_of) (signed_within top v is (b ∷ bs) w e)
  where
    no_minus : same_text (b ∷ []) (ascii "-") ≡ false
    no_minus = is_false (same_text (b ∷ []) (ascii "-")) (λ t. digit_no_minus b ds.0 (same_text_lem (b ∷ []) (ascii "-") t))

pub item_literal : (top : ℕ) (l : Literal) → Within top (variable_of l) → item top (literal_word l) ≡ literal l
unfolding item
item_literal top (is v) w =
    rw (is_false (same_text (decimal v) (ascii "0")) (λ t. omega (arith, decimal_zero v (same_text_lem (decimal v) (ascii "0") t), w.first)), item)
    (plain_literal top v (decimal v) (decimal_digits v) (number_decimal v) w)
item_literal top (is_not v) w = unfold computing in signed_within top v is_not (decimal v) w (number_decimal v)

pub word_nonempty : (l : Literal) → literal_word l ≢ []
word_nonempty (is v) e = decimal_nonempty v e
word_nonempty (is_not v) e = let z : ◌≡◌ {A = ℕ} 0 1 = cc in omega arith

digit_not_blank : (b : ℕ) → Digit b → blank b ≡ false
unfolding blank space newline
digit_not_blank b d =
    rw (is_false (eqb b 32) (λ (t : T (eqb b 32)). omega (arith, eqb→eq b 32 t)), is_false (eqb b 10) (λ (t : T (eqb b 10)). omega (arith, eqb→eq b 10 t)))

pub decimal_no_blank : (v : ℕ) → Every (λ b. blank b ≡ false) (decimal v)
decimal_no_blank v = every_implied Digit (λ b. blank b ≡ false) digit_not_blank (decimal v) (decimal_digits v)

pub word_no_blank : (l : Literal) → Every (λ b. blank b ≡ false) (literal_word l)
word_no_blank (is v) = decimal_no_blank v
word_no_blank (is_not v) = (unfold computing in refl, decimal_no_blank v)
