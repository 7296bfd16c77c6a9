-- What an answer means on paper: something given, or a refusal with its number and its place.
use Rattle.std.specs.Prelude.{ℕ, Bool, true, false}

-- "Refusals by number": a refusal has a number and a place. `8 at 2` reads as the programs print it.
pub record Refusal : Type 0 where
  pub number : ℕ
  pub place : ℕ

infix 30 ◌at◌
abbrev pub ◌at◌ : ℕ → ℕ → Refusal
n at p = record { number = n; place = p }

-- Something is given, or it is refused for a reason R.
pub data Attempt (R A : Type 0) : Type 0 where
  given : A → Attempt R A
  refused : R → Attempt R A

-- The reply of an entry point: a result, or a numbered refusal.
abbrev pub Reply : Type 0 → Type 0
Reply A = Attempt Refusal A

-- A reply that says something beside its result or its refusal, as a count of what was tried.
pub record Beside (S A : Type 0) : Type 0 where
  pub said : S
  pub reply : Reply A

module _ {R A B : Type 0} where
  -- "Afterwards": the next question is asked only of what was given. So the lines of a `do` block stand in the order of
  -- the table's refusals.
  unfoldable pub ◌>>=◌ : Attempt R A → (A → Attempt R B) → Attempt R B
  ◌>>=◌ (given a) next = next a
  ◌>>=◌ (refused r) next = refused r

  unfoldable pub ◌>>◌ : Attempt R A → Attempt R B → Attempt R B
  ◌>>◌ (given a) next = next
  ◌>>◌ (refused r) next = refused r

-- "Given exactly when": refused for r unless the test holds.
unfoldable pub unless : {R : Type 0} → Bool → R → Attempt R (Unit {0})
unless true r = given tt
unless false r = refused r

-- The same attempt, its reason told in other words.
unfoldable pub told_as : {R S A : Type 0} → (R → S) → Attempt R A → Attempt S A
told_as f (given a) = given a
told_as f (refused r) = refused (f r)
