-- The words of a text, as an iterator splits it: its parts between blanks that are not empty. By one byte at a time. Assumes nothing.
use Prim.Native.Nat.{ℕ, suc}
use mathlib.Core.Bool.{Bool, true, false, not, ◌&&◌}
use mathlib.Core.List.{List, [], ◌∷◌, ◌++◌, append-nil}
use mathlib.Core.Logic.{◌⊎◌, inl, inr}
use mathlib.Core.Path.{◌≡◌, refl, ap, ◌∙◌}
use native.Mathlib.Omega.{arith}
use lib.Dec.{eqb}
use lib.ListN.{length}
use borrow.Author.Tests.{ne_eqb}
use Rattle.std.specs.List.{filter, slice_split, list_all}
use Rattle.std.specs.List.{onto_first as onto_first_part}
use Rattle.std.proofs.lemmas.List.Elements.{filter-append}
use Rattle.text.specs.Text.{pieces, onto_first, nonempty, words}

-- Whether a part has a byte.
abbrev pub full : List ℕ → Bool
full part = not (eqb (length part) 0)

full_part : (b : ℕ) (bs : List ℕ) → full (b ∷ bs) ≡ true
full_part b bs = ap not (ne_eqb (suc (length bs)) 0 (λ e. omega arith))

nonempty_is : (parts : List (List ℕ)) → filter full parts ≡ nonempty parts
unfolding nonempty
nonempty_is [] = refl
nonempty_is ([] ∷ parts) = nonempty_is parts
nonempty_is ((b ∷ bs) ∷ parts) = rw (full_part b bs) (ap (λ (l : List (List ℕ)). (b ∷ bs) ∷ l) (nonempty_is parts))

module _ (blank : ℕ → Bool) where
  -- Behind the last blank an iterator finds one more part, which is empty.
  LastPart : List (List ℕ) → List (List ℕ) → Type 0
  LastPart pieces parts = (parts ≡ pieces) ⊎ (parts ≡ pieces ++ [] ∷ [])

  parts_on : (b : ℕ) (pieces parts : List (List ℕ)) → LastPart pieces parts → LastPart (onto_first b pieces) (onto_first_part b parts)
  unfolding LastPart onto_first
  parts_on b [] parts (inl e) = inl (ap (onto_first_part b) e)
  parts_on b [] parts (inr e) = inl (ap (onto_first_part b) e)
  parts_on b (piece ∷ pieces) parts (inl e) = inl (ap (onto_first_part b) e)
  parts_on b (piece ∷ pieces) parts (inr e) = inr (ap (onto_first_part b) e)

  parts_are : (text : List ℕ) → LastPart (pieces blank text) (slice_split blank text)
  unfolding LastPart pieces
  parts_are [] = inr refl
  parts_are (b ∷ bs) = go (blank b) refl (parts_are bs)
    where
      go : (t : Bool) → blank b ≡ t → LastPart (pieces blank bs) (slice_split blank bs) → LastPart (pieces blank (b ∷ bs)) (slice_split blank (b ∷ bs))
      go true e (inl h) = inl (rw (e, pieces, h))
      go true e (inr h) = inr (rw (e, pieces, h))
      go false e h = rw (e, pieces) (parts_on b (pieces blank bs) (slice_split blank bs) h)

  pub parts_words : (text : List ℕ) → filter full (slice_split blank text) ≡ words blank text
  unfolding words LastPart
  parts_words text = go (parts_are text) ∙ nonempty_is (pieces blank text)
    where
      go : LastPart (pieces blank text) (slice_split blank text) → filter full (slice_split blank text) ≡ filter full (pieces blank text)
      go (inl e) = ap (filter full) e
      go (inr e) = ap (filter full) e ∙ filter-append full (pieces blank text) ([] ∷ []) ∙ append-nil (filter full (pieces blank text))

  -- A text has no word exactly if all its bytes are blank.
  pub no_words : (text : List ℕ) → list_all blank text ≡ true → words blank text ≡ []
  unfolding words pieces nonempty
  no_words [] e = refl
  no_words (b ∷ bs) e = go (blank b) refl e (no_words bs)
    where
      go : (t : Bool) → blank b ≡ t → (t && list_all blank bs) ≡ true → (list_all blank bs ≡ true → words blank bs ≡ []) → words blank (b ∷ bs) ≡ []
      go true q h behind = rw (q, pieces) (behind h)
      go false q h behind = cc

  pub some_word : (text : List ℕ) → list_all blank text ≡ false → (w : List ℕ) × (ws : List (List ℕ)) × (words blank text ≡ w ∷ ws)
  unfolding words pieces nonempty onto_first
  some_word [] e = cc
  some_word (b ∷ bs) e = go (blank b) refl e (some_word bs)
    where
      first : (ps : List (List ℕ)) → (w : List ℕ) × (ws : List (List ℕ)) × (nonempty (onto_first b ps) ≡ w ∷ ws)
      first [] = (b ∷ [], [], refl)
      first (p ∷ ps) = (b ∷ p, nonempty ps, refl)

      go :
          (t : Bool) → blank b ≡ t → (t && list_all blank bs) ≡ false →
          (list_all blank bs ≡ false → (w : List ℕ) × (ws : List (List ℕ)) × (words blank bs ≡ w ∷ ws)) →
          (w : List ℕ) × (ws : List (List ℕ)) × (words blank (b ∷ bs) ≡ w ∷ ws)
      go true q h behind = rw (q, pieces) (behind h)
      go false q h behind = rw (q, pieces) (first (pieces blank bs))
