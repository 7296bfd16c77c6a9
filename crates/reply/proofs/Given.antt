-- What is known once something was given: every question before it was answered. By the cases of the first attempt. Assumes
-- nothing.
use Prim.Native.Nat.{ℕ}
use mathlib.Core.Bool.{Bool, true, false, not}
use mathlib.Core.Logic.{◌↔◌, ◌⊎◌, inl, inr, ⊎_elim}
use mathlib.Core.Path.{◌≡◌, refl, sym, ap}
use native.Mathlib.Omega.{arith}
use lib.Dec.{T}
use Rattle.reply.specs.Reply.{Attempt, given, refused, unless, told_as, ◌>>◌, ◌>>=◌}

module _ {R A : Type 0} where
  pub refused_not_given : (r : R) (a : A) → ◌≡◌ {A = Attempt R A} (refused r) (given a) → ⊥
  refused_not_given r a e = let z : ◌≡◌ {A = ℕ} 0 1 = cc in omega arith

  -- One of two attempts, as a test says.
  pub either_given :
      {P : Type 0} (test : Bool) (x y : Attempt R A) (a : A) → (T test → x ≡ given a → P) → (T (not test) → y ≡ given a → P) →
      ◌≡◌ {A = Attempt R A} (elim test [ true ↦ x | false ↦ y ]) (given a) → P
  either_given true x y a when_true when_false e = when_true tt e
  either_given false x y a when_true when_false e = when_false tt e

module _ {R A B : Type 0} where
  pub bind_given : (first : Attempt R A) (next : A → Attempt R B) (b : B) → ◌>>=◌ first next ≡ given b → (a : A) × (first ≡ given a) × (next a ≡ given b)
  unfolding ◌>>=◌
  bind_given (given a) next b e = (a, refl, e)
  bind_given (refused r) next b e = absurd (refused_not_given r b e)

  -- The other way round: once something was given, the next question is what is left.
  pub given_bind : (first : Attempt R A) (next : A → Attempt R B) (a : A) → first ≡ given a → ◌>>=◌ first next ≡ next a
  unfolding ◌>>=◌
  given_bind first next a e = ap (λ (x : Attempt R A). ◌>>=◌ x next) e

  pub then_given : (first : Attempt R A) (next : Attempt R B) (b : B) → ◌>>◌ first next ≡ given b → ((a : A) × (first ≡ given a)) × (next ≡ given b)
  unfolding ◌>>◌
  then_given (given a) next b e = ((a, refl), e)
  then_given (refused r) next b e = absurd (refused_not_given r b e)

pub unless_given_alone : {R : Type 0} (test : Bool) (r : R) → unless test r ≡ given tt → T test
unfolding unless
unless_given_alone true r e = tt
unless_given_alone false r e = absurd (refused_not_given r tt e)

module _ {R B : Type 0} where
  pub unless_given : (test : Bool) (r : R) (next : Attempt R B) (b : B) → ◌>>◌ (unless test r) next ≡ given b → T test × (next ≡ given b)
  unfolding ◌>>◌ unless
  unless_given true r next b e = (tt, e)
  unless_given false r next b e = absurd (refused_not_given r b e)

  pub given_unless : (test : Bool) (r : R) (next : Attempt R B) → T test → ◌>>◌ (unless test r) next ≡ next
  unfolding ◌>>◌ unless
  given_unless true r next h = refl
  given_unless false r next h = absurd h

pub given_not_refused : {R B : Type 0} (b : B) (r : R) → ◌≡◌ {A = Attempt R B} (given b) (refused r) → ⊥
given_not_refused b r e = let z : ◌≡◌ {A = ℕ} 0 1 = cc in omega arith

-- A line `unless test r` and the lines behind it give something exactly if the test holds and those lines give it ..
pub unless_given_exactly :
    {R B : Type 0} (test : Bool) (r : R) (next : Attempt R B) (b : B) → (◌>>◌ (unless test r) next ≡ given b) ↔ (T test × (next ≡ given b))
unfolding unless ◌>>◌
unless_given_exactly true r next b = (λ e. (tt, e), λ h. h.1)
unless_given_exactly false r next b = (λ e. absurd (given_not_refused b r (sym e)), λ h. absurd h.0)

-- .. and refuse with q exactly if the test fails and q is r, or it holds and those lines refuse with q.
pub unless_refused_exactly :
    {R B : Type 0} (test : Bool) (r q : R) (next : Attempt R B) →
    (◌>>◌ (unless test r) next ≡ refused q) ↔ (((T test → ⊥) × (r ≡ q)) ⊎ (T test × (next ≡ refused q)))
unfolding unless ◌>>◌
unless_refused_exactly true r q next = (λ e. inr (tt, e), ⊎_elim (λ h. absurd (h.0 tt)) (λ h. h.1))
unless_refused_exactly false r q next = (λ e. inl (λ h. h, cc), ⊎_elim (λ h. let p : r ≡ q = h.1 in cc) (λ h. absurd h.0))

pub told_given : {R S A : Type 0} (f : R → S) (x : Attempt R A) (a : A) → told_as f x ≡ given a → x ≡ given a
unfolding told_as
told_given f (given b) a e = cc
told_given f (refused r) a e = absurd (refused_not_given (f r) a e)
