-- A text that is read as a number is that number in decimal, and so an item that is taken is the text of a literal or the closing 0. Digit by
-- digit: each adds itself behind the decimal of what was read. Assumes nothing.
use Prim.Native.Nat.{ℕ, ◌+◌, ◌-◌, ◌*◌, ◌/◌, ◌%◌, ◌≤◌}
use mathlib.Core.Bool.{Bool, true, false, ◌&&◌}
use mathlib.Core.List.{List, [], ◌∷◌, ◌++◌, append_assoc, append-nil}
use mathlib.Core.Option.{Option, none, some, none-ne-some, some-injective}
use mathlib.Core.Path.{◌≡◌, refl, sym, ap, subst, ◌∙◌}
use native.Mathlib.Omega.{arith}
use lib.Dec.{leb, eqb, leb→le}
use Rattle.reply.proofs.Tests.{passed, differ, and_left, and_right}
use Rattle.text.specs.Decimal.{decimal, value_of, number}
use Rattle.text.specs.Text.{ascii, same_text}
use Rattle.text.proofs.LastDigit.{decimal_digit, decimal_last}
use Rattle.text.proofs.Words.{same_text_lem}
use Rattle.clauses.specs.Cnf.{Literal, is, is_not, variable_of}
use Rattle.clauses.specs.Item.{Item, closing, literal, faulty, signed, literal_of, item}
use Rattle.printed_answer.specs.WellFormed.{literal_text}

-- One more digit behind a number above 0.
one_more : (a d : ℕ) → 1 ≤ a → 48 ≤ d → d ≤ 57 → decimal a ++ (d ∷ []) ≡ decimal (a * 10 + (d - 48))
one_more a d positive low high =
    let n : ℕ = a * 10 + (d - 48) in
    let tens : (a * 10 + (d - 48)) / 10 ≡ a = omega arith in
    let ones : 48 + (a * 10 + (d - 48)) % 10 ≡ d = omega arith in
    sym (decimal_last (a * 10 + (d - 48)) (omega arith) ∙ ap (λ (m : ℕ). decimal m ++ ((48 + (a * 10 + (d - 48)) % 10) ∷ [])) tens
    ∙ ap (λ (m : ℕ). decimal a ++ (m ∷ [])) ones)

-- What a digit is, of a value that was read.
digit_read :
    (a d : ℕ) (ds : List ℕ) (v : ℕ) → value_of a (d ∷ ds) ≡ some v → (48 ≤ d) × (d ≤ 57) × (value_of (a * 10 + (d - 48)) ds ≡ some v)
unfolding value_of
digit_read a d ds v e = go (leb 48 d && leb d 57) refl e
  where
    go :
        (b : Bool) → (leb 48 d && leb d 57) ≡ b →
        ◌≡◌ {A = Option ℕ} (elim b [ true ↦ value_of (a * 10 + (d - 48)) ds | false ↦ none ]) (some v) →
        (48 ≤ d) × (d ≤ 57) × (value_of (a * 10 + (d - 48)) ds ≡ some v)
    go true t h =
        (leb→le 48 d (and_left (leb 48 d) (leb d 57) (passed t)), leb→le d 57 (and_right (leb 48 d) (leb d 57) (passed t)), h)
    go false t h = absurd (none-ne-some v h)

value_back : (a : ℕ) (ds : List ℕ) (v : ℕ) → 1 ≤ a → value_of a ds ≡ some v → decimal a ++ ds ≡ decimal v
value_back a [] v positive e = append-nil (decimal a) ∙ ap decimal (unfold value_of in some-injective a v e)
value_back a (d ∷ ds) v positive e =
    let (low, high, behind) = digit_read a d ds v e in
    sym (append_assoc (decimal a) (d ∷ []) ds) ∙ ap (λ (l : List ℕ). l ++ ds) (one_more a d positive low high)
    ∙ value_back (a * 10 + (d - 48)) ds v (omega arith) behind

first_digit : (d : ℕ) → 48 ≤ d → d ≤ 57 → d ∷ [] ≡ decimal (0 * 10 + (d - 48))
first_digit d low high =
    let same : 48 + (0 * 10 + (d - 48)) ≡ d = omega arith in
    sym (decimal_digit (0 * 10 + (d - 48)) (omega arith) ∙ ap (λ (m : ℕ). m ∷ []) same)

pub number_back : (word : List ℕ) (v : ℕ) → number word ≡ some v → word ≡ decimal v
unfolding number
number_back [] v e = absurd (none-ne-some v e)
number_back (d ∷ []) v e =
    let (low, high, behind) = digit_read 0 d [] v e in
    first_digit d low high ∙ ap decimal (unfold value_of in some-injective (0 * 10 + (d - 48)) v behind)
number_back (d ∷ c ∷ ds) v e = go (eqb d 48) refl e
  where
    go :
        (b : Bool) → eqb d 48 ≡ b → ◌≡◌ {A = Option ℕ} (elim b [ true ↦ none | false ↦ value_of 0 (d ∷ c ∷ ds) ]) (some v) → d ∷ c ∷ ds ≡ decimal v
    go true t h = absurd (none-ne-some v h)
    go false t h =
        let (low, high, behind) = digit_read 0 d (c ∷ ds) v h in
        let positive : d ≡ 48 → ⊥ = differ d 48 t in
        ap (λ (l : List ℕ). l ++ (c ∷ ds)) (first_digit d low high)
        ∙ value_back (0 * 10 + (d - 48)) (c ∷ ds) v (omega (arith, positive)) behind

-- What an item is, by what it was read as.
abbrev IsRead : (variables : ℕ) (word : List ℕ) → Item → Type 0
IsRead variables word closing = word ≡ ascii "0"
IsRead variables word (literal l) = (word ≡ literal_text l) × (1 ≤ variable_of l) × (variable_of l ≤ variables)
IsRead variables word faulty = Unit {0}

signed_back :
    (variables : ℕ) (sign : ℕ → Literal) (word bs : List ℕ) → ((v : ℕ) → variable_of (sign v) ≡ v) → ((v : ℕ) → bs ≡ decimal v → word ≡ literal_text (sign v)) →
    (o : Option ℕ) → number bs ≡ o → IsRead variables word (signed variables sign o)
unfolding signed
signed_back variables sign word bs own text none e = tt
signed_back variables sign word bs own text (some v) e = go (leb 1 v && leb v variables) refl
  where
    go : (b : Bool) → (leb 1 v && leb v variables) ≡ b → IsRead variables word (elim b [ true ↦ literal (sign v) | false ↦ faulty ])
    go true t = (
      text v (number_back bs v e),
      rw (own v) (leb→le 1 v (and_left (leb 1 v) (leb v variables) (passed t))),
      rw (own v) (leb→le v variables (and_right (leb 1 v) (leb v variables) (passed t))),
    )
    go false t = tt

literal_back : (variables : ℕ) (word : List ℕ) → IsRead variables word (literal_of variables word)
unfolding literal_of
literal_back variables [] = tt
literal_back variables (b ∷ bs) = go (same_text (b ∷ []) (ascii "-")) refl
  where
    own_is : (v : ℕ) → variable_of (is v) ≡ v
    own_is v = refl

    own_is_not : (v : ℕ) → variable_of (is_not v) ≡ v
    own_is_not v = refl

    go :
        (t : Bool) → same_text (b ∷ []) (ascii "-") ≡ t →
        IsRead variables (b ∷ bs) (elim t [ true ↦ signed variables is_not (number bs) | false ↦ signed variables is (number (b ∷ bs)) ])
    go true e =
        signed_back variables is_not (b ∷ bs) bs own_is_not
        (λ v d. unfold literal_text in
        ap (λ (l : List ℕ). l ++ bs) (same_text_lem (b ∷ []) (ascii "-") (passed e)) ∙ ap (λ (l : List ℕ). ascii "-" ++ l) d)
        (number bs) refl
    go false e =
        signed_back variables is (b ∷ bs) (b ∷ bs) own_is (λ v d. unfold literal_text in d) (number (b ∷ bs)) refl

item_is_read : (variables : ℕ) (word : List ℕ) → IsRead variables word (item variables word)
unfolding item
item_is_read variables word = go (same_text word (ascii "0")) refl
  where
    go : (t : Bool) → same_text word (ascii "0") ≡ t → IsRead variables word (elim t [ true ↦ closing | false ↦ literal_of variables word ])
    go true e = same_text_lem word (ascii "0") (passed e)
    go false e = literal_back variables word

pub closing_back : (variables : ℕ) (word : List ℕ) → item variables word ≡ closing → word ≡ ascii "0"
closing_back variables word e = subst (IsRead variables word) e (item_is_read variables word)

pub literal_text_back :
    (variables : ℕ) (word : List ℕ) (l : Literal) → item variables word ≡ literal l →
    (word ≡ literal_text l) × (1 ≤ variable_of l) × (variable_of l ≤ variables)
literal_text_back variables word l e = subst (IsRead variables word) e (item_is_read variables word)
