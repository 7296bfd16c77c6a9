-- A text for each element of a slice, laid one behind the other: a loop over the slice lays one more, and has laid all at its end.
-- Assumes nothing.
use Prim.Native.Nat.{ℕ, ◌+◌, ◌-◌, ◌≤◌, ◌<◌}
use mathlib.Core.List.{List, [], ◌∷◌, ◌++◌, append-nil, flat_map}
use mathlib.Core.Path.{◌≡◌, ap, ◌∙◌}
use native.Mathlib.Numerals.{add-one}
use lib.ListN.{length, get_or, take}
use lib.Seq.{take_all, take-suc}
use borrow.Rule.Slice.PartMut.{mid_of, put_mid}
use Rattle.text.specs.Laying.{Lays}
use Rattle.text.proofs.Laying.{lays_nothing, lays_as, lays_then}
use Rattle.text.proofs.Each.{flat_map_append}

module _ {A : Type 0} (each : A → List ℕ) where
  pub none_laid : (buffer : List ℕ) → Lays (flat_map each []) buffer 0 buffer
  unfolding flat_map
  none_laid buffer = lays_nothing buffer

  next_text : (items : List A) (i : ℕ) (d : A) → i < length items → flat_map each (take (i + 1) items) ≡ flat_map each (take i items) ++ each (get_or items i d)
  unfolding flat_map
  next_text items i d h =
      ap (λ (j : ℕ). flat_map each (take j items)) (add-one i)
      ∙ ap (flat_map each) (take-suc items i d h)
      ∙ flat_map_append each (take i items) (get_or items i d ∷ [])
      ∙ ap (λ (r : List ℕ). flat_map each (take i items) ++ r) (append-nil (each (get_or items i d)))

  pub one_more_laid :
      (items : List A) (d : A) (i : ℕ) {before between after : List ℕ} {k m : ℕ} → i < length items → Lays (flat_map each (take i items)) before k between →
      Lays (each (get_or items i d)) (mid_of k (length between - k) between) m after →
      Lays (flat_map each (take (i + 1) items)) before (k + m) (put_mid k (length between - k) between after)
  one_more_laid items d i h first second = rw (next_text items i d h) (lays_then first second)

  pub all_laid :
      (items : List A) (i : ℕ) {before after : List ℕ} {k : ℕ} → length items ≤ i → Lays (flat_map each (take i items)) before k after →
      Lays (flat_map each items) before k after
  all_laid items i h laid = lays_as (ap (flat_map each) (take_all i items h)) laid
