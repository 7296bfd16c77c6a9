-- Finitely many things, said by what a bound needs of them: where a number does for each of them, one number does for all. None, one,
-- those of two kinds and the images of finitely many are finitely many. Assumes nothing.
use Prim.Native.Nat.{ℕ, ◌+◌, ◌≤◌}
use mathlib.Core.Logic.{◌⊎◌, inl, inr}
use mathlib.Core.Path.{◌≡◌, refl, subst}
use native.Mathlib.Omega.{arith}

-- A number that does leaves every larger one doing too.
abbrev pub Grows : {A : Type 0} → (A → ℕ → Type 0) → Type 0
Grows {A} B = (a : A) (n m : ℕ) → n ≤ m → B a n → B a m

abbrev pub Finitely : {A : Type 0} → (A → Type 0) → Type 1
Finitely {A} P = (B : A → ℕ → Type 0) → Grows B → ((a : A) → P a → (n : ℕ) × B a n) → (N : ℕ) × ((a : A) → P a → B a N)

module _ {A : Type 0} where
  pub finitely_none : (P : A → Type 0) → ((a : A) → P a → ⊥) → Finitely P
  finitely_none P never B grows each = (0, λ a p. absurd (never a p))

  pub finitely_one : (P : A → Type 0) (it : A) → P it → ((a : A) → P a → it ≡ a) → Finitely P
  finitely_one P it p only B grows each = let (N, h) = each it p in (N, λ a q. subst (λ (c : A). B c N) (only a q) h)

  -- Those that are of one kind or of the other.
  pub finitely_either :
      (P Q R : A → Type 0) → ((a : A) → P a → R a) → ((a : A) → Q a → R a) → ((a : A) → R a → P a ⊎ Q a) → Finitely P → Finitely Q → Finitely R
  finitely_either P Q R p→r q→r split many-p many-q B grows each =
      let (n, h) = many-p B grows (λ a p. each a (p→r a p)) in
      let (m, k) = many-q B grows (λ a q. each a (q→r a q)) in
      (n + m, λ a r. go n m a (h a) (k a) (split a r))
    where
      go : (n m : ℕ) (a : A) → (P a → B a n) → (Q a → B a m) → P a ⊎ Q a → B a (n + m)
      go n m a h k (inl p) = grows a n (n + m) (omega arith) (h p)
      go n m a h k (inr q) = grows a m (n + m) (omega arith) (k q)

-- What f makes of them.
abbrev pub Image : {A C : Type 0} → (A → C) → (A → Type 0) → C → Type 0
Image {A} f P c = (a : A) × P a × (f a ≡ c)

pub finitely_image : {A C : Type 0} (f : A → C) (P : A → Type 0) → Finitely P → Finitely (Image f P)
finitely_image {C} f P many B grows each =
    let (N, h) = many (λ a n. B (f a) n) (λ a n m. grows (f a) n m) (λ a p. each (f a) (a, p, refl)) in
    (N, λ c i. subst (λ (d : C). B d N) i.2 (h i.0 i.1))
