-- How many numbers below a bound are in a decided set: a larger set has more of them. Assumes nothing.
use Prim.Native.Nat.{ℕ, zero, suc, ◌+◌, ◌≤◌, ◌<◌}
use mathlib.Core.Path.{◌≡◌, refl, sym, subst}
use native.Mathlib.Decide.{dec_lt}
use native.Mathlib.Omega.{arith}

-- How many numbers below a bound are decided to be in P.
weight : {A : Type 0} → Dec A → ℕ
weight (yes a) = 1
weight (no h) = 0

pub how_many : {P : ℕ → Type 0} → ((g : ℕ) → Dec (P g)) → (bound : ℕ) → ℕ
how_many dec zero = 0
how_many dec (suc g) = weight (dec g) + how_many dec g

weight_yes : {A : Type 0} (a : Dec A) → A → weight a ≡ 1
unfolding weight
weight_yes (yes a) h = refl
weight_yes (no k) h = absurd (k h)

weight_no : {A : Type 0} (a : Dec A) → (A → ⊥) → weight a ≡ 0
unfolding weight
weight_no (yes a) h = absurd (h a)
weight_no (no k) h = refl

weight_grows : {A B : Type 0} (a : Dec A) (b : Dec B) → (A → B) → weight a ≤ weight b
unfolding weight
weight_grows (yes a) b f = omega (arith, weight_yes b (f a))
weight_grows (no k) b f = omega arith

pub how_many_all : (bound : ℕ) → how_many {P = λ (g : ℕ). Unit {0}} (λ g. yes tt) bound ≡ bound
unfolding how_many weight
how_many_all zero = refl
how_many_all (suc g) = let all : how_many {P = λ (g : ℕ). Unit {0}} (λ g. yes tt) g ≡ g = how_many_all g in omega arith

module _ {P Q : ℕ → Type 0} (p : (g : ℕ) → Dec (P g)) (q : (g : ℕ) → Dec (Q g)) (within : (g : ℕ) → P g → Q g) where
  pub how_many_grows : (bound : ℕ) → how_many p bound ≤ how_many q bound
  unfolding how_many
  how_many_grows zero = omega arith
  how_many_grows (suc g) = omega (arith, weight_grows (p g) (q g) (within g), how_many_grows g)

  -- A number that is in Q and not in P makes a difference.
  pub more : (g : ℕ) → Q g → (P g → ⊥) → (bound : ℕ) → g < bound → how_many p bound < how_many q bound
  unfolding how_many
  more g in-q out-p zero h = absurd (omega arith)
  more g in-q out-p (suc top) h = go (more g in-q out-p top) (dec_lt g top)
    where
      go : (g < top → how_many p top < how_many q top) → Dec (g < top) → weight (p top) + how_many p top < weight (q top) + how_many q top
      go below (yes k) = omega (arith, weight_grows (p top) (q top) (within top), below k)
      go below (no k) =
          let e : g ≡ top = omega arith in
          omega (arith, weight_yes (q top) (subst Q e in-q), weight_no (p top) (λ in_p. out-p (subst P (sym e) in_p)), how_many_grows top)
