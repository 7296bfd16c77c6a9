-- Every element of a list has a property: as a product that computes, along the list operations, and against membership.
-- Assumes nothing.
use Prim.Native.Nat.{ℕ, zero, suc, ◌<◌}
use mathlib.Core.List.{List, [], ◌∷◌, ◌++◌, map, flat_map, flatten, Memᴰ}
use mathlib.Core.Path.{refl, sym, subst}
use native.Mathlib.Nat.{not-suc-le-zero, le_of_suc-le-suc}
use lib.ListN.{length, get_or}

module _ {A : Type 0} where
  -- The product: it computes along the list, so that a fact of every element of a given list is a tuple of facts.
  abbrev pub Every : (A → Type 0) → List A → Type 0
  Every P [] = Unit {0}
  Every P (x ∷ xs) = P x × Every P xs

  -- Along append; under what one property implies, and of two at once.
  pub every_append : (P : A → Type 0) (l m : List A) → Every P l → Every P m → Every P (l ++ m)
  every_append P [] m h k = k
  every_append P (x ∷ xs) m h k = (h.0, every_append P xs m h.1 k)

  pub every_implied : (P Q : A → Type 0) → ((x : A) → P x → Q x) → (l : List A) → Every P l → Every Q l
  every_implied P Q f [] h = tt
  every_implied P Q f (x ∷ xs) h = (f x h.0, every_implied P Q f xs h.1)

  pub every_both : (P Q : A → Type 0) (l : List A) → Every P l → Every Q l → Every (λ x. P x × Q x) l
  every_both P Q [] h k = tt
  every_both P Q (x ∷ xs) h k = ((h.0, k.0), every_both P Q xs h.1 k.1)

  -- Of one element, by its number or as a member; and from all members.
  pub every_at : (P : A → Type 0) (l : List A) (i : ℕ) (d : A) → i < length l → Every P l → P (get_or l i d)
  every_at P [] i d b h = absurd (not-suc-le-zero b)
  every_at P (x ∷ xs) zero d b h = h.0
  every_at P (x ∷ xs) (suc i) d b h = every_at P xs i d (le_of_suc-le-suc b) h.1

  pub every_member : (P : A → Type 0) {x : A} {l : List A} → Memᴰ x l → Every P l → P x
  every_member P (Memᴰ.head e) h = subst P (sym e) h.0
  every_member P (Memᴰ.tail m) h = every_member P m h.1

  pub every_of_members : (P : A → Type 0) (l : List A) → ((x : A) → Memᴰ x l → P x) → Every P l
  every_of_members P [] f = tt
  every_of_members P (x ∷ xs) f = (f x (Memᴰ.head refl), every_of_members P xs (λ y m. f y (Memᴰ.tail m)))

-- Along map, flat_map and flatten.
module _ {A B : Type 0} where
  pub every_map :
      (P : A → Type 0) (Q : B → Type 0) (f : A → B) → ((x : A) → P x → Q (f x)) → (l : List A) → Every P l → Every Q (map f l)
  every_map P Q f k [] h = tt
  every_map P Q f k (x ∷ xs) h = (k x h.0, every_map P Q f k xs h.1)

  pub every_flat_map :
      (P : A → Type 0) (Q : B → Type 0) (f : A → List B) → ((x : A) → P x → Every Q (f x)) → (l : List A) → Every P l →
      Every Q (flat_map f l)
  unfolding flat_map
  every_flat_map P Q f k [] h = tt
  every_flat_map P Q f k (x ∷ xs) h = every_append Q (f x) (flat_map f xs) (k x h.0) (every_flat_map P Q f k xs h.1)

pub every_flatten : {A : Type 0} (P : A → Type 0) (ls : List (List A)) → Every (Every P) ls → Every P (flatten ls)
unfolding flatten
every_flatten P [] h = tt
every_flatten P (l ∷ ls) h = every_append P l (flatten ls) h.0 (every_flatten P ls h.1)
