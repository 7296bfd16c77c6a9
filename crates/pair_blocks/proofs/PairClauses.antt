-- The clauses of a pair at a bit are those that the code lays. Assumes nothing.
use Prim.Native.Nat.{ℕ, zero, suc, ◌+◌}
use mathlib.Core.List.{◌++◌, flat_map}
use mathlib.Core.Path.{◌≡◌, refl, sym, ap}
use native.Mathlib.Numerals.{add-one}
use Rattle.clauses.specs.Numbering.{bit, G}
use Rattle.clauses.specs.Cnf.{is, is_not}
use Rattle.clauses.specs.Blocks.{lowest_bit, higher_bit, pair_clauses}
use Rattle.clauses.specs.File.{clause_bytes}
use Rattle.text.proofs.Each.{flat_map_append}
use Rattle.pair_blocks.specs.EachTwo.{each_two}

-- The six clauses of a higher bit, by the sign of G.
pub each_two_twice :
    (g a b q : ℕ) →
    flat_map clause_bytes (each_two (is g) (is_not a) (is b) (is_not q)) ++ flat_map clause_bytes (each_two (is_not g) (is a) (is_not b) (is q))
    ≡ flat_map clause_bytes (higher_bit g a b q)
unfolding higher_bit each_two
each_two_twice g a b q =
    sym (flat_map_append clause_bytes (each_two (is g) (is_not a) (is b) (is_not q)) (each_two (is_not g) (is a) (is_not b) (is q)))

-- The clauses at a bit, laid for the variables' numbers.
module _ (n k f g b larger a c : ℕ) (one : larger ≡ G n k f g (b + 1)) (two : a ≡ bit k f b) (three : c ≡ bit k g b) where
  pub lowest_clauses : b ≡ 0 → flat_map clause_bytes (lowest_bit larger a c) ≡ flat_map clause_bytes (pair_clauses n k f g b)
  unfolding pair_clauses
  lowest_clauses e = rw (one, two, three, e)

  pub higher_clauses :
      (q : ℕ) → q ≡ G n k f g b → (b ≡ 0 → ⊥) → flat_map clause_bytes (higher_bit larger a c q) ≡ flat_map clause_bytes (pair_clauses n k f g b)
  higher_clauses q four ne = rw (one, two, three, four) (ap (flat_map clause_bytes) (at b ne))
    where
      at : (b : ℕ) → (b ≡ 0 → ⊥) → higher_bit (G n k f g (b + 1)) (bit k f b) (bit k g b) (G n k f g b) ≡ pair_clauses n k f g b
      at zero h = absurd (h refl)
      at (suc b) h = unfold pair_clauses in rw add-one
