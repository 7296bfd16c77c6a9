-- A text for each of several numbers, laid one behind the other: by what a flat_map does with one element more. Assumes nothing.
use Prim.Native.Nat.{ℕ, ◌+◌, ◌-◌, ◌≤◌, ◌<◌}
use mathlib.Core.List.{List, [], ◌∷◌, ◌++◌, append_assoc, append-nil, flat_map}
use mathlib.Core.Path.{◌≡◌, refl, sym, ap, ◌∙◌}
use native.Mathlib.Numerals.{add-one}
use native.Mathlib.Omega.{arith}
use lib.ListN.{length, get_or, take}
use lib.Seq.{take_all, take-suc}
use borrow.Rule.Slice.PartMut.{mid_of, put_mid}
use Rattle.text.specs.Laying.{Lays}
use Rattle.text.proofs.Laying.{lays_nothing, lays_as, lays_then}

module _ {A B : Type 0} (f : A → List B) where
  pub flat_map_append : (l m : List A) → flat_map f (l ++ m) ≡ flat_map f l ++ flat_map f m
  unfolding flat_map
  flat_map_append [] m = refl
  flat_map_append (x ∷ l) m = ap (λ (r : List B). f x ++ r) (flat_map_append l m) ∙ sym (append_assoc (f x) (flat_map f l) (flat_map f m))

  -- One element more.
  flat_map_next : (l : List A) (i : ℕ) (d : A) → i < length l → flat_map f (take (i + 1) l) ≡ flat_map f (take i l) ++ f (get_or l i d)
  unfolding flat_map
  flat_map_next l i d h =
      ap (λ (j : ℕ). flat_map f (take j l)) (add-one i)
      ∙ ap (flat_map f) (take-suc l i d h)
      ∙ flat_map_append (take i l) (get_or l i d ∷ [])
      ∙ ap (λ (r : List B). flat_map f (take i l) ++ r) (append-nil (f (get_or l i d)))

module _ (each : ℕ → List ℕ) (numbers : List ℕ) where
  pub lays_none : (buffer : List ℕ) → Lays (flat_map each (take 0 numbers)) buffer 0 buffer
  unfolding flat_map
  lays_none buffer = lays_nothing buffer

  pub lays_next :
      {before between after : List ℕ} (i : ℕ) {k m : ℕ} → i < length numbers → Lays (flat_map each (take i numbers)) before k between →
      Lays (each (get_or numbers i 0)) (mid_of k (length between - k) between) m after →
      Lays (flat_map each (take (i + 1) numbers)) before (k + m) (put_mid k (length between - k) between after)
  lays_next i h first second = rw (flat_map_next each numbers i 0 h) (lays_then first second)

  -- There are no more of them.
  pub lays_ended :
      {before after : List ℕ} (i many : ℕ) {k : ℕ} → length numbers ≤ i → i ≤ many → Lays (flat_map each (take i numbers)) before k after →
      Lays (flat_map each (take many numbers)) before k after
  lays_ended i many h g laid = lays_as (ap (flat_map each) (take_all i numbers h ∙ sym (take_all many numbers (omega arith)))) laid
