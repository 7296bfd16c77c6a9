-- The pieces of a text from a place on: what stands up to the next end is the first of them, the others stand behind it.
-- By one byte at a time. Assumes nothing.
use Prim.Native.Nat.{ℕ, suc, ◌+◌, ◌-◌, ◌≤◌, ◌<◌}
use mathlib.Core.Bool.{Bool, true, false, not}
use mathlib.Core.List.{List, [], ◌∷◌}
use mathlib.Core.Path.{◌≡◌, refl, ap, ◌∙◌}
use native.Mathlib.Omega.{arith}
use lib.ListN.{length, get_or, take, drop, length-drop}
use lib.Seq.{drop-cons, drop-drop}
use Rattle.std.specs.List.{prefix_len}
use Rattle.std.proofs.lemmas.List.Sums.{prefix_len-le-length}
use Rattle.text.specs.Text.{pieces, onto_first, up_to, nonempty, words}

-- The bytes before the first end are those at the front that are none, as an iterator counts them.
pub up_to_counted : (ends : ℕ → Bool) (text : List ℕ) → up_to ends text ≡ prefix_len (λ b. not (ends b)) text
unfolding up_to
up_to_counted ends [] = refl
up_to_counted ends (b ∷ bs) = go (ends b) refl (up_to_counted ends bs)
  where
    go : (t : Bool) → ends b ≡ t → up_to ends bs ≡ prefix_len (λ b. not (ends b)) bs → up_to ends (b ∷ bs) ≡ prefix_len (λ b. not (ends b)) (b ∷ bs)
    go true e h = rw (e, up_to)
    go false e h = rw (e, up_to, h) (omega arith)

module _ (ends : ℕ → Bool) where
  pub up_to_length : (text : List ℕ) → up_to ends text ≤ length text
  up_to_length text = rw up_to_counted (prefix_len-le-length _ text)

  first_piece : (b : ℕ) (bs : List ℕ) → pieces ends (b ∷ bs) ≡ take (up_to ends (b ∷ bs)) (b ∷ bs) ∷ pieces ends (drop (up_to ends (b ∷ bs)) bs)
  unfolding pieces up_to onto_first
  first_piece b [] = go (ends b) refl
    where
      go : (t : Bool) → ends b ≡ t → pieces ends (b ∷ []) ≡ take (up_to ends (b ∷ [])) (b ∷ []) ∷ pieces ends (drop (up_to ends (b ∷ [])) [])
      go true e = rw (e, pieces, up_to)
      go false e = rw (e, pieces, up_to)
  first_piece b (c ∷ bs) = go (ends b) refl (first_piece c bs)
    where
      go :
          (t : Bool) → ends b ≡ t →
          pieces ends (c ∷ bs) ≡ take (up_to ends (c ∷ bs)) (c ∷ bs) ∷ pieces ends (drop (up_to ends (c ∷ bs)) bs) →
          pieces ends (b ∷ c ∷ bs) ≡ take (up_to ends (b ∷ c ∷ bs)) (b ∷ c ∷ bs) ∷ pieces ends (drop (up_to ends (b ∷ c ∷ bs)) (c ∷ bs))
      go true e h = rw (e, pieces, up_to)
      go false e h = rw (e, pieces, up_to) (ap (onto_first b) h)

  -- From a place on: the bytes up to the next end, and the pieces behind it.
  module _ (text : List ℕ) (at end : ℕ) (h : at < length text) (next : end ≡ at + up_to ends (drop at text)) where
    pub next_within : end ≤ length text
    next_within = omega (arith, up_to_length (drop at text), length-drop at text)

    pub piece_at : pieces ends (drop at text) ≡ take (end - at) (drop at text) ∷ pieces ends (drop (end + 1) text)
    piece_at =
        rw (length_first, drop-cons text at 0 h)
        (first_piece (get_or text at 0) (drop (suc at) text) ∙ ap (λ (l : List ℕ). take e₀ (get_or text at 0 ∷ drop (suc at) text) ∷ pieces ends l) behind)
      where
        length_first : end - at ≡ up_to ends (drop at text)
        length_first = omega arith

        e₀ : ℕ
        e₀ = up_to ends (get_or text at 0 ∷ drop (suc at) text)

        place : suc at + e₀ ≡ end + 1
        place = omega (arith, ap (up_to ends) (drop-cons text at 0 h))

        behind : drop e₀ (drop (suc at) text) ≡ drop (end + 1) text
        behind = drop-drop e₀ (suc at) text ∙ ap (λ (k : ℕ). drop k text) place

    -- Between two ends that stand side by side there is no word.
    pub no_word_at : end ≡ at → words ends (drop at text) ≡ words ends (drop (end + 1) text)
    unfolding words nonempty
    no_word_at e = ap nonempty piece_at ∙ ap (λ (k : ℕ). nonempty (take k (drop at text) ∷ pieces ends (drop (end + 1) text))) none
      where
        none : end - at ≡ 0
        none = omega arith

    pub word_at : at < end → words ends (drop at text) ≡ take (end - at) (drop at text) ∷ words ends (drop (end + 1) text)
    unfolding words nonempty
    word_at longer = ap nonempty piece_at ∙ rw (drop-cons text at 0 h, some) refl
      where
        some : end - at ≡ suc (end - at - 1)
        some = omega arith
