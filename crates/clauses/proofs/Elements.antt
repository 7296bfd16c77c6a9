-- What stands at a number in a list that is put together: behind another list, under a map, in rows of one width. Assumes nothing.
use Prim.Native.Nat.{ℕ, zero, suc, ◌+◌, ◌*◌, ◌≤◌, ◌<◌}
use mathlib.Core.List.{List, [], ◌∷◌, ◌++◌, map, flat_map, Memᴰ}
use mathlib.Core.Option.{none, some}
use mathlib.Core.Path.{◌≡◌, refl, sym, ap, ◌∙◌}
use native.Mathlib.Nat.{suc-mul, zero-mul, zero-add, suc-add}
use native.Mathlib.Omega.{arith}
use lib.ListN.{length, get_or, get_elem?, length-append}
use Rattle.reply.proofs.Every.{Every}

module _ {A : Type 0} where
  pub element_left : (l m : List A) (i : ℕ) → i < length l → get_elem? (l ++ m) i ≡ get_elem? l i
  element_left [] m i h = absurd (omega arith)
  element_left (x ∷ l) m zero h = refl
  element_left (x ∷ l) m (suc i) h = element_left l m i (omega arith)

  pub element_right : (l m : List A) (i : ℕ) → get_elem? (l ++ m) (length l + i) ≡ get_elem? m i
  element_right [] m i = ap (get_elem? m) (zero-add i)
  element_right (x ∷ l) m i = ap (get_elem? (x ∷ l ++ m)) (suc-add (length l) i) ∙ element_right l m i

  pub element_none : (l : List A) (i : ℕ) → length l ≤ i → get_elem? l i ≡ none
  element_none [] i h = refl
  element_none (x ∷ l) zero h = absurd (omega arith)
  element_none (x ∷ l) (suc i) h = element_none l i (omega arith)

  pub element_there : (l : List A) (i : ℕ) (d : A) → i < length l → get_elem? l i ≡ some (get_or l i d)
  element_there [] i d h = absurd (omega arith)
  element_there (x ∷ l) zero d h = refl
  element_there (x ∷ l) (suc i) d h = element_there l i d (omega arith)

  pub element_within : (l : List A) (i : ℕ) {x : A} → get_elem? l i ≡ some x → i < length l
  element_within [] i e = let z : ◌≡◌ {A = ℕ} 0 1 = cc in absurd (omega arith)
  element_within (y ∷ l) zero e = omega arith
  element_within (y ∷ l) (suc i) e = let h = element_within l i e in omega arith

module _ {A B : Type 0} where
  pub element_map : (f : A → B) (l : List A) (i : ℕ) {x : A} → get_elem? l i ≡ some x → get_elem? (map f l) i ≡ some (f x)
  element_map f [] i e = let z : ◌≡◌ {A = ℕ} 0 1 = cc in absurd (omega arith)
  element_map f (y ∷ l) zero {x} e = let same : y ≡ x = cc in ap (λ (z : A). some (f z)) same
  element_map f (y ∷ l) (suc i) e = element_map f l i e

  -- Rows of one width: number j of row i.
  module _ (row : A → List B) (width : ℕ) where
    pub element_row :
        (l : List A) → Every (λ (x : A). length (row x) ≡ width) l → (i j : ℕ) {x : A} → get_elem? l i ≡ some x → j < width →
        get_elem? (flat_map row l) (i * width + j) ≡ get_elem? (row x) j
    unfolding flat_map
    element_row [] wide i j e h = let z : ◌≡◌ {A = ℕ} 0 1 = cc in absurd (omega arith)
    element_row (y ∷ l) wide zero j {x} e h =
        let same : y ≡ x = cc in
        ap (get_elem? (row y ++ flat_map row l)) (omega (arith, zero-mul width))
        ∙ element_left (row y) (flat_map row l) j (omega (arith, wide.0))
        ∙ ap (λ (z : A). get_elem? (row z) j) same
    element_row (y ∷ l) wide (suc i) j {x} e h =
        ap (get_elem? (row y ++ flat_map row l)) (omega (arith, suc-mul i width, wide.0))
        ∙ element_right (row y) (flat_map row l) (i * width + j)
        ∙ element_row l wide.1 i j e h

    pub rows_length : (l : List A) → Every (λ (x : A). length (row x) ≡ width) l → length (flat_map row l) ≡ length l * width
    unfolding flat_map
    rows_length [] wide = sym (zero-mul width)
    rows_length (y ∷ l) wide = length-append (row y) (flat_map row l) ∙ omega (arith, rows_length l wide.1, wide.0, suc-mul (length l) width)

module _ {A : Type 0} where
  pub element_member : (l : List A) (i : ℕ) {x : A} → get_elem? l i ≡ some x → Memᴰ x l
  element_member [] i e = let z : ◌≡◌ {A = ℕ} 0 1 = cc in absurd (omega arith)
  element_member (y ∷ l) zero {x} e = let same : x ≡ y = cc in Memᴰ.head same
  element_member (y ∷ l) (suc i) e = Memᴰ.tail (element_member l i e)

  pub element_is : (l : List A) (i : ℕ) (d : A) {x : A} → get_elem? l i ≡ some x → x ≡ get_or l i d
  element_is [] i d e = let z : ◌≡◌ {A = ℕ} 0 1 = cc in absurd (omega arith)
  element_is (y ∷ l) zero d e = cc
  element_is (y ∷ l) (suc i) d e = element_is l i d e

pub element_map_none : {A B : Type 0} (f : A → B) (l : List A) (i : ℕ) → get_elem? l i ≡ none → get_elem? (map f l) i ≡ none
element_map_none f [] i e = refl
element_map_none f (y ∷ l) zero e = let z : ◌≡◌ {A = ℕ} 0 1 = cc in absurd (omega arith)
element_map_none f (y ∷ l) (suc i) e = element_map_none f l i e
