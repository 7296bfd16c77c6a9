-- A word of a v line as an item, by its first byte and by the number from 1 to V behind the sign. Assumes nothing.
use Prim.Native.Nat.{ℕ, zero, suc, ◌-◌, ◌≤◌, ◌<◌}
use mathlib.Core.Bool.{Bool, true, false, ◌&&◌}
use mathlib.Core.List.{List, [], ◌∷◌}
use mathlib.Core.Option.{Option, none, some}
use mathlib.Core.Path.{◌≡◌, refl, sym, ap, subst, ◌∙◌}
use native.Mathlib.Decide.{dec_le}
use native.Mathlib.Omega.{arith}
use lib.Dec.{leb}
use lib.ListN.{length, get_or, take, drop}
use lib.Seq.{take_all}
use borrow.Author.Tests.{le-leb, lt-leb, ne_eqb, leb-true}
use Rattle.text.specs.Decimal.{number, within}
use Rattle.text.specs.Text.{ascii, same_text}
use Rattle.clauses.specs.Cnf.{Literal, is, is_not}
use Rattle.clauses.specs.Item.{Item, closing, literal, faulty, signed, literal_of, item}
use Rattle.words.specs.Numbers.{from_one}
use Rattle.items.specs.Meaning.{item_meaning}
use Rattle.items.specs.declared.Item.{Item as Read}
use Rattle.std.specs.Prelude.{Option as Maybe, Some, None, MatchOption, IsSomeAnd}
use Rattle.std.specs.Option.{option_map}
use Rattle.words.proofs.Numbers.{within_top, above_top}

module _ (variables : ℕ) (sign : ℕ → Literal) where
  accepted : (w : ℕ) → 1 ≤ w → w ≤ variables → signed variables sign (some w) ≡ literal (sign w)
  unfolding signed
  accepted w low high = rw (signed, le-leb 1 w low, le-leb w variables high)

  too_large : (w : ℕ) → variables < w → signed variables sign (some w) ≡ faulty
  unfolding signed
  too_large w h = rw (signed, lt-leb w variables h, le-leb 1 w (omega arith))

  nought : signed variables sign (some 0) ≡ faulty
  unfolding signed
  nought = refl

  -- By the number from 1 to V that stands behind the sign, 0 for none.
  signed_nought : (o : Option ℕ) → within variables o ≡ 0 → signed variables sign o ≡ faulty
  unfolding within signed
  signed_nought none e = refl
  signed_nought (some w) e = go (dec_le w variables)
    where
      go : Dec (w ≤ variables) → signed variables sign (some w) ≡ faulty
      go (yes h) = ap (λ (n : ℕ). signed variables sign (some n)) (sym (within_top variables w h) ∙ e)
      go (no h) = too_large w (omega arith)

  signed_number : (o : Option ℕ) → (within variables o ≡ 0 → ⊥) → signed variables sign o ≡ literal (sign (within variables o))
  unfolding within
  signed_number none d = absurd (d refl)
  signed_number (some w) d = go (dec_le w variables)
    where
      go : Dec (w ≤ variables) → signed variables sign (some w) ≡ literal (sign (within variables (some w)))
      go (yes h) =
          let same : within variables (some w) ≡ w = within_top variables w h in
          let low : 1 ≤ w = one_up w (λ z. d (same ∙ z)) in
          rw same (accepted w low h)
        where
          one_up : (n : ℕ) → (n ≡ 0 → ⊥) → 1 ≤ n
          one_up n f = omega arith
      go (no h) = absurd (d (above_top variables w (omega arith)))

  -- What is read as a sign and the number v.
  module _ {x : Item} (o : Option ℕ) {v : ℕ} (read : x ≡ signed variables sign o) (e : v ≡ within variables o) where
    pub nothing_read : v ≡ 0 → faulty ≡ x
    nothing_read z = sym (read ∙ signed_nought o (sym e ∙ z))

    pub literal_read : (v ≡ 0 → ⊥) → literal (sign v) ≡ x
    literal_read d = ap (λ (n : ℕ). literal (sign n)) e ∙ sym (read ∙ signed_number o (λ z. d (e ∙ z)))

  -- By the number from 1 to V that stands behind the sign, if there is one: what is read as a sign and a number.
  signed_from : (make : ℕ → Read) → ((v : ℕ) → item_meaning (Some (make v)) ≡ literal (sign v)) → (o : Option ℕ) →
      item_meaning (option_map make (from_one (within variables o))) ≡ signed variables sign o
  unfolding within signed from_one
  signed_from make means none = refl
  signed_from make means (some zero) = go (leb 0 variables)
    where
      go : (b : Bool) → item_meaning (option_map make (from_one (elim b [ true ↦ 0 | false ↦ 0 ]))) ≡ faulty
      go true = refl
      go false = refl
  signed_from make means (some (suc v)) = go (dec_le (suc v) variables)
    where
      go : Dec (suc v ≤ variables) → item_meaning (option_map make (from_one (within variables (some (suc v))))) ≡ signed variables sign (some (suc v))
      go (yes h) = rw within_top (means (suc v) ∙ sym (accepted (suc v) (omega arith) h))
      go (no h) = let large : variables < suc v = omega arith in rw above_top (sym (too_large (suc v) large))

  pub read_signed :
      (make : ℕ → Read) → ((v : ℕ) → item_meaning (Some (make v)) ≡ literal (sign v)) → (o : Option ℕ) (n : Maybe ℕ) (r : Maybe Read) →
      n ≡ from_one (within variables o) → MatchOption n (r ≡ None) (λ v. IsSomeAnd r (λ i. i ≡ make v)) → item_meaning r ≡ signed variables sign o
  read_signed make means o None r e read = rw read (rw (← e) at (signed_from make means o))
  read_signed make means o (Some v) None e read = absurd read
  read_signed make means o (Some v) (Some i) e read = rw read (rw (← e) at (signed_from make means o))

module _ (variables : ℕ) where
  pub closing_word : (word : List ℕ) → same_text word (48 ∷ []) ≡ true → closing ≡ item variables word
  unfolding item ascii
  closing_word word e = rw (item, e)

  pub empty_word : (word : List ℕ) → length word ≡ 0 → faulty ≡ item variables word
  unfolding item ascii same_text literal_of
  empty_word [] e = refl
  empty_word (b ∷ bs) e = absurd (omega arith)

  -- A word with a minus, and one without.
  pub minus : (word : List ℕ) → 0 < length word → get_or word 0 0 ≡ 45 → item variables word ≡ signed variables is_not (number (take (length word - 1) (drop 1 word)))
  unfolding item ascii same_text literal_of
  minus [] full e = absurd (omega arith)
  minus (b ∷ bs) full e =
      ap (λ (d : ℕ). item variables (d ∷ bs)) e ∙ ap (λ (l : List ℕ). signed variables is_not (number l)) (sym (take_all (suc (length bs) - 1) bs (omega arith)))

  pub plain : (word : List ℕ) → same_text word (48 ∷ []) ≡ false → (0 < length word → get_or word 0 0 ≡ 45 → ⊥) → item variables word ≡ signed variables is (number word)
  unfolding item ascii same_text literal_of number signed
  plain [] e d = refl
  plain (b ∷ bs) e d = rw (item, e, literal_of, ne_eqb b 45 (d (omega arith)))

-- A literal's variable is at least 1.
abbrev FromOne : Item → Type 0
FromOne closing = Unit {0}
FromOne (literal (is v)) = 1 ≤ v
FromOne (literal (is_not v)) = 1 ≤ v
FromOne faulty = Unit {0}

signed_from_one : (variables : ℕ) (sign : ℕ → Literal) → ((v : ℕ) → 1 ≤ v → FromOne (literal (sign v))) → (o : Option ℕ) → FromOne (signed variables sign o)
unfolding signed
signed_from_one variables sign own none = tt
signed_from_one variables sign own (some v) = go (leb 1 v) (leb v variables) refl
  where
    go : (a b : Bool) → leb 1 v ≡ a → FromOne (elim (a && b) [ true ↦ literal (sign v) | false ↦ faulty ])
    go true true e = own v (leb-true 1 v e)
    go true false e = tt
    go false b e = tt

word_from_one : (variables : ℕ) (word : List ℕ) → FromOne (literal_of variables word)
unfolding literal_of
word_from_one variables [] = tt
word_from_one variables (b ∷ bs) = go (same_text (b ∷ []) (ascii "-"))
  where
    go : (t : Bool) → FromOne (elim t [ true ↦ signed variables is_not (number bs) | false ↦ signed variables is (number (b ∷ bs)) ])
    go true = signed_from_one variables is_not (λ v h. h) (number bs)
    go false = signed_from_one variables is (λ v h. h) (number (b ∷ bs))

item_from_one : (variables : ℕ) (word : List ℕ) → FromOne (item variables word)
unfolding item
item_from_one variables word = go (same_text word (ascii "0"))
  where
    go : (t : Bool) → FromOne (elim t [ true ↦ closing | false ↦ literal_of variables word ])
    go true = tt
    go false = word_from_one variables word

pub is_from_one : (variables : ℕ) (word : List ℕ) (v : ℕ) → literal (is v) ≡ item variables word → 1 ≤ v
is_from_one variables word v e = subst FromOne (sym e) (item_from_one variables word)

pub is_not_from_one : (variables : ℕ) (word : List ℕ) (v : ℕ) → literal (is_not v) ≡ item variables word → 1 ≤ v
is_not_from_one variables word v e = subst FromOne (sym e) (item_from_one variables word)
