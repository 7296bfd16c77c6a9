-- What holds of each entry of a list. Assumes nothing.
use mathlib.Core.List.{List, [], ◌∷◌, Memᴰ}

module _ {ℓ κ} {A : Type ℓ} (P : A → Type κ) where
  pub data Each : List A → Type (ℓ ⊔ κ) where
    no_more : Each []
    also : {a : A} {as' : List A} → P a → Each as' → Each (a ∷ as')

  pub each→ : {a : A} {as' : List A} → Each as' → Memᴰ a as' → P a
  each→ no_more m = elim m [ ]
  each→ (also p each) (Memᴰ.head e) = rw e p
  each→ (also p each) (Memᴰ.tail m) = each→ each m
