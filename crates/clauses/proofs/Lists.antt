-- Laws of lists that the clause file's blocks are parted and numbered by. Assumes nothing.
use Prim.Native.Nat.{ℕ, zero, suc, ◌+◌, ◌<◌}
use mathlib.Core.List.{List, [], ◌∷◌, ◌++◌, map, flat_map, flatten, append_assoc}
use mathlib.Core.Path.{◌≡◌, refl, sym, ap, ◌∙◌}
use native.Mathlib.Numerals.{add-one}
use native.Mathlib.Omega.{arith}
use lib.ListN.{length, take, get_or, length-append}
use Rattle.text.proofs.Each.{flat_map_append}
use Rattle.clauses.specs.Numbering.{numbers}

pub flat_map_map : {A B C : Type 0} (f : B → List C) (g : A → B) (l : List A) → flat_map f (map g l) ≡ flat_map (λ x. f (g x)) l
unfolding flat_map
flat_map_map f g [] = refl
flat_map_map {C = C} f g (x ∷ l) = ap (λ (r : List C). f (g x) ++ r) (flat_map_map f g l)

pub flat_map_flat_map :
    {A B C : Type 0} (f : B → List C) (g : A → List B) (l : List A) → flat_map f (flat_map g l) ≡ flat_map (λ x. flat_map f (g x)) l
unfolding flat_map
flat_map_flat_map f g [] = refl
flat_map_flat_map {C = C} f g (x ∷ l) =
    flat_map_append f (g x) (flat_map g l) ∙ ap (λ (r : List C). flat_map f (g x) ++ r) (flat_map_flat_map f g l)

-- The numbers from one on.
pub numbers_length : (first count : ℕ) → length (numbers first count) ≡ count
unfolding numbers
numbers_length first zero = refl
numbers_length first (suc count) = ap suc (numbers_length (suc first) count)

pub numbers_at : (first count i d : ℕ) → i < count → get_or (numbers first count) i d ≡ first + i
unfolding numbers
numbers_at first zero i d h = absurd (omega arith)
numbers_at first (suc count) zero d h = omega arith
numbers_at first (suc count) (suc i) d h = numbers_at (suc first) count i d (omega arith) ∙ omega arith

-- One list more.
flatten_suc :
    {A : Type 0} (l : List (List A)) (i : ℕ) → i < length l → length (flatten (take (suc i) l)) ≡ length (flatten (take i l)) + length (get_or l i [])
unfolding flatten
flatten_suc [] i h = absurd (omega arith)
flatten_suc (x ∷ l) zero h = length-append x [] ∙ omega arith
flatten_suc (x ∷ l) (suc i) h =
    length-append x (flatten (take (suc i) l)) ∙ omega (arith, flatten_suc l i (omega arith), length-append x (flatten (take i l)))

pub flatten_next :
    {A : Type 0} (l : List (List A)) (i : ℕ) → i < length l → length (flatten (take (i + 1) l)) ≡ length (flatten (take i l)) + length (get_or l i [])
flatten_next l i h = ap (λ (j : ℕ). length (flatten (take j l))) (add-one i) ∙ flatten_suc l i h

pub flatten_append : {A : Type 0} (l m : List (List A)) → flatten (l ++ m) ≡ flatten l ++ flatten m
unfolding flatten
flatten_append [] m = refl
flatten_append {A} (x ∷ l) m = ap (λ (r : List A). x ++ r) (flatten_append l m) ∙ sym (append_assoc x (flatten l) (flatten m))
