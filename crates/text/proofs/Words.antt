-- The words of a text: a run of bytes that are not blank, and a blank behind it, is the first word.
-- Also, texts that pass the test `same_text` are the same. Assumes nothing.
use Prim.Native.Nat.{ℕ}
use mathlib.Core.Bool.{Bool, true, false, ◌&&◌}
use mathlib.Core.List.{List, [], ◌∷◌, ◌++◌}
use mathlib.Core.Logic.{◌≢◌}
use mathlib.Core.Path.{◌≡◌, refl, ap, ap₂}
use lib.Dec.{T, eqb, eqb→eq}
use Rattle.text.specs.Text.{same_text, onto_first, pieces, nonempty, words}
use Rattle.reply.proofs.Tests.{passed}
use Rattle.reply.proofs.Every.{Every}

pub same_text_lem : (l m : List ℕ) → T (same_text l m) → l ≡ m
unfolding same_text
same_text_lem [] [] h = refl
same_text_lem [] (b ∷ m) h = absurd h
same_text_lem (a ∷ l) [] h = absurd h
same_text_lem (a ∷ l) (b ∷ m) h = go (eqb a b) refl h (same_text_lem l m)
  where
    go : (t : Bool) → eqb a b ≡ t → T (t && same_text l m) → (T (same_text l m) → l ≡ m) → ◌≡◌ {A = List ℕ} (a ∷ l) (b ∷ m)
    go true e k behind = ap₂ (λ (c : ℕ) (n : List ℕ). c ∷ n) (eqb→eq a b (passed e)) (behind k)
    go false e k behind = absurd k

module _ (blank : ℕ → Bool) where
  piece_ends : (b : ℕ) (rest : List ℕ) → blank b ≡ true → pieces blank (b ∷ rest) ≡ [] ∷ pieces blank rest
  unfolding pieces
  piece_ends b rest e = rw (e, pieces)

  pub piece_first :
      (w : List ℕ) → Every (λ c. blank c ≡ false) w → (b : ℕ) (rest : List ℕ) → blank b ≡ true →
      pieces blank (w ++ b ∷ rest) ≡ w ∷ pieces blank rest
  unfolding pieces onto_first
  piece_first [] none b rest e = piece_ends b rest e
  piece_first (c ∷ w) none b rest e = rw (none.0, pieces) (ap (onto_first c) (piece_first w none.1 b rest e))

  pub words_first :
      (w : List ℕ) → w ≢ [] → Every (λ c. blank c ≡ false) w → (b : ℕ) (rest : List ℕ) → blank b ≡ true →
      words blank (w ++ b ∷ rest) ≡ w ∷ words blank rest
  unfolding words nonempty
  words_first [] full none b rest e = absurd (full refl)
  words_first (c ∷ w) full none b rest e = ap nonempty (piece_first (c ∷ w) none b rest e)
