-- What holds of lists of clauses holds of their members: laws to take the blocks of a book apart. Assumes nothing.
use Prim.Native.Nat.{ℕ, zero, suc, ◌+◌, ◌≤◌, ◌<◌}
use mathlib.Core.Bool.{Bool, true, false, ◌&&◌, beq, and_assoc, true≢false, false≢true}
use mathlib.Core.List.Memᴰ
use mathlib.Core.List.{List, [], ◌∷◌, ◌++◌, flatten, append_assoc, Memᴰ}
use mathlib.Core.Logic.{◌↔◌}
use mathlib.Core.Path.{◌≡◌, refl, sym, ◌∙◌, ap, subst}
use native.Mathlib.Decide.{ℕ_discrete}
use native.Mathlib.Omega.{arith}
use lib.Dec.{T}
use Rattle.reply.proofs.Tests.{and_left, and_right, and_both}
use Rattle.clauses.specs.Cnf.{Clause, Assignment, some_holds, all_hold}
use Rattle.clauses.specs.Numbering.{numbers}

same_truth : (a b : Bool) → T (beq a b) ↔ (a ≡ b)
same_truth true true = (λ h. refl, λ e. tt)
same_truth true false = (λ h. absurd h, λ e. absurd (true≢false e))
same_truth false true = (λ h. absurd h, λ e. absurd (false≢true e))
same_truth false false = (λ h. refl, λ e. tt)

pub tests_whether : {test a b : Bool} → test ≡ beq a b → T test ↔ (a ≡ b)
tests_whether {test} {a} {b} e = (λ h. (same_truth a b).0 (rw e at h), λ p. rw e ((same_truth a b).1 p))

both_exactly : (a b : Bool) {A B : Type 0} → T a ↔ A → T b ↔ B → T (a && b) ↔ (A × B)
both_exactly a b f g = (λ h. (f.0 (and_left a b h), g.0 (and_right a b h)), λ h. and_both a b (f.1 h.0) (g.1 h.1))

-- A test of a list that goes member by member.
module _ {A : Type 0} (one : A → Bool) (all : List A → Bool) (none : all [] ≡ true) (first : (x : A) (xs : List A) → all (x ∷ xs) ≡ (one x && all xs)) where
  each : (xs : List A) → T (all xs) → (x : A) → Memᴰ x xs → T (one x)
  each [] h x m = absurd (Memᴰ.not-nil m)
  each (y ∷ ys) h x (Memᴰ.head e) = subst (λ (z : A). T (one z)) (sym e) (and_left (one y) (all ys) (rw (first y ys) at h))
  each (y ∷ ys) h x (Memᴰ.tail m) = each ys (and_right (one y) (all ys) (rw (first y ys) at h)) x m

  from_each : (xs : List A) → ((x : A) → Memᴰ x xs → T (one x)) → T (all xs)
  from_each [] h = rw none tt
  from_each (y ∷ ys) h =
      rw (first y ys) (and_both (one y) (all ys) (h y (Memᴰ.head refl)) (from_each ys (λ x m. h x (Memᴰ.tail m))))

  pub by_members : (xs : List A) → T (all xs) ↔ ((x : A) → Memᴰ x xs → T (one x))
  by_members xs = (each xs, from_each xs)

pub all_hold_append : (α : Assignment) (cs ds : List Clause) → all_hold α (cs ++ ds) ≡ (all_hold α cs && all_hold α ds)
unfolding all_hold
all_hold_append α [] ds = refl
all_hold_append α (c ∷ cs) ds =
    ap (λ (b : Bool). some_holds α c && b) (all_hold_append α cs ds) ∙ sym (and_assoc (some_holds α c) (all_hold α cs) (all_hold α ds))

pub clauses_both :
    (α : Assignment) (cs ds : List Clause) {A B : Type 0} → T (all_hold α cs) ↔ A → T (all_hold α ds) ↔ B → T (all_hold α (cs ++ ds)) ↔ (A × B)
clauses_both α cs ds f g = rw all_hold_append (both_exactly (all_hold α cs) (all_hold α ds) f g)

flatten_append : (bs ds : List (List Clause)) → flatten (bs ++ ds) ≡ flatten bs ++ flatten ds
unfolding flatten
flatten_append [] ds = refl
flatten_append (b ∷ bs) ds = rw (flatten_append bs ds, append_assoc)

pub blocks_hold_append :
    (α : Assignment) (bs ds : List (List Clause)) → all_hold α (flatten (bs ++ ds)) ≡ (all_hold α (flatten bs) && all_hold α (flatten ds))
blocks_hold_append α bs ds = rw flatten_append (all_hold_append α (flatten bs) (flatten ds))

pub blocks_both :
    (α : Assignment) (bs ds : List (List Clause)) {A B : Type 0} →
    T (all_hold α (flatten bs)) ↔ A → T (all_hold α (flatten ds)) ↔ B → T (all_hold α (flatten (bs ++ ds))) ↔ (A × B)
blocks_both α bs ds f g = rw flatten_append (clauses_both α (flatten bs) (flatten ds) f g)

-- The numbers from `first` on.
in_range : (first count x : ℕ) → Memᴰ x (numbers first count) → (first ≤ x) × (x < first + count)
unfolding numbers
in_range first zero x m = absurd (Memᴰ.not-nil m)
in_range first (suc count) x (Memᴰ.head e) = omega arith
in_range first (suc count) x (Memᴰ.tail m) = let h = in_range (suc first) count x m in omega arith

range_in : (first count x : ℕ) → first ≤ x → x < first + count → Memᴰ x (numbers first count)
unfolding numbers
range_in first zero x h l = absurd (omega arith)
range_in first (suc count) x h l =
    elim (ℕ_discrete x first) [
      | yes e ↦ Memᴰ.head e
      | no ne ↦ Memᴰ.tail (range_in (suc first) count x (omega arith) (omega arith))
    ]

pub numbers_below : (n x : ℕ) → Memᴰ x (numbers 0 n) ↔ (x < n)
numbers_below n x = (λ m. let h = in_range 0 n x m in omega arith, λ l. range_in 0 n x (omega arith) (omega arith))
