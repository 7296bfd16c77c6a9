-- A count of the bytes that a reader gave settles which they are, and what it has left, where what it had is known.
use Rattle.std.proofs.Common.{◌≡◌, ℕ, List, ◌++◌, length, take, drop, sym, ap, subst, ◌∙◌}
use Rattle.std.specs.Prelude.{Option, Some, None}
use Rattle.std.specs.Io.KnownBytes.{Consumes}
use lib.Seq.{take-append_seam, drop-append_seam}

pub consumed : (had left : Option (List ℕ)) (known : List ℕ) (n : ℕ) (bs : List ℕ) → had ≡ Some known → n ≡ length bs → Consumes had left bs →
    (bs ≡ take n known) × (left ≡ Some (drop n known))
consumed had left known n bs is e p = go left (subst (λ had'. Consumes had' left bs) is p)
  where
    go : (left' : Option (List ℕ)) → Consumes (Some known) left' bs → (bs ≡ take n known) × (left' ≡ Some (drop n known))
    go None q = absurd q
    go (Some rest) q = (
      sym (ap (take n) q ∙ ap (λ m. take m (bs ++ rest)) e ∙ take-append_seam bs rest),
      ap (λ (l : List ℕ). Some l) (sym (ap (drop n) q ∙ ap (λ m. drop m (bs ++ rest)) e ∙ drop-append_seam bs rest)),
    )
