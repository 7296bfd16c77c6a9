-- Tests that compute: the answer and the fact that it passed or failed, each from the other; tests joined by && and ||. Assumes nothing.
use Prim.Native.Nat.{ℕ}
use mathlib.Core.Bool.{Bool, true, false, not, ◌&&◌, ◌||◌}
use mathlib.Core.Logic.{◌≢◌, ◌↔◌}
use mathlib.Core.Path.{◌≡◌, refl, sym, subst}
use lib.Dec.{T, T_not, eqb, eqb_refl}

pub passed : {b : Bool} → b ≡ true → T b
passed e = subst T (sym e) tt

pub failed : {b : Bool} → b ≡ false → T (not b)
failed e = subst (λ (b : Bool). T (not b)) (sym e) tt

pub is_true : (b : Bool) → T b → b ≡ true
is_true true h = refl
is_true false h = absurd h

pub is_false : (b : Bool) → (T b → ⊥) → b ≡ false
is_false true h = absurd (h tt)
is_false false h = refl

pub differ : (m n : ℕ) → eqb m n ≡ false → m ≢ n
differ m n e p = T_not (eqb m n) (failed e) (subst (λ (k : ℕ). T (eqb m k)) p (eqb_refl m))

-- A conjunction of tests, taken apart and put together.
pub and_left : (a b : Bool) → T (a && b) → T a
and_left true b h = tt
and_left false b h = h

pub and_right : (a b : Bool) → T (a && b) → T b
and_right true b h = h
and_right false b h = absurd h

pub and_both : (a b : Bool) → T a → T b → T (a && b)
and_both true b ha hb = hb
and_both false b ha hb = ha

-- A disjunction of tests, taken apart and put together.
pub or_cases : {C : Type 0} (a b : Bool) → T (a || b) → (T a → C) → (T b → C) → C
or_cases true b h left right = left h
or_cases false b h left right = right h

pub or_left : (a b : Bool) → T a → T (a || b)
or_left true b h = tt
or_left false b h = absurd h

pub or_right : (a b : Bool) → T b → T (a || b)
or_right true b h = tt
or_right false b h = h

-- Two tests that hold together are the same Boolean.
pub equal_tests : (a b : Bool) → T a ↔ T b → a ≡ b
equal_tests true true h = refl
equal_tests true false h = absurd (h.0 tt)
equal_tests false true h = absurd (h.1 tt)
equal_tests false false h = refl
