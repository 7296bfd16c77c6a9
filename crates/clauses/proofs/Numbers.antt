-- Where the numbers of variables lie: rank bits up to n·k, G up to n²·k, C and D of a rule up to the base after it. Assumes nothing.
use Prim.Native.Nat.{ℕ, ◌≤◌, ◌<◌}
use mathlib.Core.List.{List, [], ◌∷◌}
use mathlib.Core.Logic.{◌≢◌}
use native.Mathlib.Nat.{le_trans}
use native.Mathlib.Omega.{arith}
use lib.Arith.{digits_lt}
use Rattle.term.specs.Term.{size}
use Rattle.book.specs.Book.{Rule}
use Rattle.clauses.specs.Numbering.{bit, G, first_base, base_after, C, D}
use Rattle.clauses.specs.Blocks.{base_behind}
use Rattle.clauses.proofs.Items.{Within}
use Rattle.clauses.proofs.Numbered as Numbered
use Rattle.clauses.proofs.Numbered.{bits_before_rules, G_behind_bits}

pub bit_within : (n k f b : ℕ) → f < n → b < k → Within (first_base n k) (bit k f b)
unfolding bit
bit_within n k f b hf hb = record { first = omega arith; last = le_trans (Numbered.bit_within k f b hb n hf) (bits_before_rules n k) }

pub G_within : (n k f g j : ℕ) → f < n → g < n → f ≢ g → 0 < j → j ≤ k → Within (first_base n k) (G n k f g j)
G_within n k f g j hf hg ne pos h =
    record { first = omega (arith, G_behind_bits n k f g j pos h); last = Numbered.G_within n k f g j pos h hf hg ne }

module _ (base : ℕ) (rule : Rule) where
  pub C_within : (u v : ℕ) → u < size rule.left → v < size rule.right → Within (base_after base rule) (C base (size rule.right) u v)
  unfolding C base_after
  C_within u v hu hv = record { first = omega arith; last = omega (arith, digits_lt hu hv) }

  pub D_within : (u v : ℕ) → u < size rule.left → v < size rule.right → Within (base_after base rule) (D base (size rule.right) u v)
  unfolding D C base_after
  D_within u v hu hv = record { first = omega arith; last = omega (arith, digits_lt hu hv) }

pub base_grows : (base : ℕ) (rules : List Rule) → base ≤ base_behind base rules
unfolding base_behind base_after
base_grows base [] = omega arith
base_grows base (rule ∷ rules) = omega (arith, base_grows (base_after base rule) rules)
