-- The numbering of variables can be read back: a number tells whether it is a rank bit, a comparison or a node pair's, and of which.
-- Every number is a digit behind a multiple, q·m + r with r < m, so division undoes it. Assumes nothing.
use Prim.Native.Nat.{ℕ, zero, suc, ◌+◌, ◌-◌, ◌*◌, ◌/◌, ◌%◌, ◌≤◌, ◌<◌, zero-le}
use mathlib.Core.Bool.{Bool, true, false}
use mathlib.Core.Logic.{◌≢◌}
use mathlib.Core.Path.{◌≡◌, refl, sym, ap, ◌∙◌}
use native.Mathlib.Nat.{add-mul, add_comm, mul-suc, zero-mul}
use native.Mathlib.Omega.{arith}
use borrow.Author.Tests.{ltb-true, ltb-false, le-ltb}
use lib.Arith.{digits_lt, digits_div, digits_mod, lt_of_le-ne}
use lib.Dec.{ltb}
use Rattle.clauses.specs.Numbering.{bit, pair_number, G, first_base, C, D}

-- A rank bit's symbol and its place.
unfoldable pub bit_symbol : (k v : ℕ) → ℕ
bit_symbol k v = (v - 1) / k

unfoldable pub bit_place : (k v : ℕ) → ℕ
bit_place k v = (v - 1) % k

-- A comparison's pair of symbols, as its number p, and how many low bits it compares.
unfoldable pub pair_of : (n k v : ℕ) → ℕ
pair_of n k v = (v - (n * k + 1)) / k

unfoldable pub bits_of : (n k v : ℕ) → ℕ
bits_of n k v = suc ((v - (n * k + 1)) % k)

-- The symbols of pair p: the second is counted without the first.
unfoldable pub first_of : (n p : ℕ) → ℕ
first_of n p = p / (n - 1)

unfoldable pub counted_without : (f r : ℕ) → ℕ
counted_without f r = elim (ltb r f) [ true ↦ r | false ↦ suc r ]

unfoldable pub second_of : (n p : ℕ) → ℕ
second_of n p = counted_without (first_of n p) (p % (n - 1))

-- The nodes of a rule's variable, and whether it is a D.
unfoldable pub left_node : (base width v : ℕ) → ℕ
left_node base width v = (v - (base + 1)) / 2 / width

unfoldable pub right_node : (base width v : ℕ) → ℕ
right_node base width v = (v - (base + 1)) / 2 % width

unfoldable pub is_d : (base v : ℕ) → Bool
is_d base v = ltb 0 ((v - (base + 1)) % 2)

module _ (k f b : ℕ) (place : b < k) where
  pub bit_within : (n : ℕ) → f < n → bit k f b ≤ n * k
  unfolding bit
  bit_within n h = omega (arith, digits_lt h place)

  pub bit_symbol_lem : bit_symbol k (bit k f b) ≡ f
  unfolding bit bit_symbol
  bit_symbol_lem = let e : f * k + b + 1 - 1 ≡ f * k + b = omega arith in rw e (digits_div f place)

  pub bit_place_lem : bit_place k (bit k f b) ≡ b
  unfolding bit bit_place
  bit_place_lem = let e : f * k + b + 1 - 1 ≡ f * k + b = omega arith in rw e (digits_mod f place)

-- The number of g, counted without f.
leaving_out : (f g : ℕ) → ℕ
leaving_out f g = elim (ltb g f) [ true ↦ g | false ↦ g - 1 ]

module _ (n f g : ℕ) (first : f < n) (second : g < n) (differ : f ≢ g) where
  behind : ltb g f ≡ false → f < g
  behind e = lt_of_le-ne (ltb-false g f e) differ

  pair_digits : (b : Bool) → ltb g f ≡ b → pair_number n f g ≡ f * (n - 1) + leaving_out f g
  unfolding pair_number leaving_out
  pair_digits true e = rw (e, pair_number, leaving_out)
  pair_digits false e = let h : f < g = behind e in rw (e, pair_number, leaving_out) (omega arith)

  leaving_out_within : (b : Bool) → ltb g f ≡ b → leaving_out f g < n - 1
  unfolding leaving_out
  leaving_out_within true e = let h : g < f = ltb-true g f e in rw (e, leaving_out) (omega arith)
  leaving_out_within false e = let h : f < g = behind e in rw (e, leaving_out) (omega arith)

  counted_back : (b : Bool) → ltb g f ≡ b → counted_without f (leaving_out f g) ≡ g
  unfolding leaving_out counted_without
  counted_back true e =
      let out : leaving_out f g ≡ g = rw (e, leaving_out) in
      rw (out, e, counted_without) out
  counted_back false e =
      let h : f < g = behind e in
      let out : leaving_out f g ≡ g - 1 = rw (e, leaving_out) in
      let low : f ≤ g - 1 = omega arith in
      rw (out, le-ltb (g - 1) f low, counted_without) (omega arith)

  pub pair_within : pair_number n f g < n * (n - 1)
  pair_within = rw (pair_digits (ltb g f) refl) (digits_lt first (leaving_out_within (ltb g f) refl))

  pub pair_first : first_of n (pair_number n f g) ≡ f
  unfolding first_of
  pair_first = rw (pair_digits (ltb g f) refl) (digits_div f (leaving_out_within (ltb g f) refl))

  pub pair_second : second_of n (pair_number n f g) ≡ g
  unfolding second_of
  pair_second =
      rw (pair_first, pair_digits (ltb g f) refl, digits_mod f (leaving_out_within (ltb g f) refl)) (counted_back (ltb g f) refl)

-- All pairs' comparisons stand behind the rank bits and end where the rules' variables begin.
pub pairs_room : (n k : ℕ) → 0 < n → n * k + n * (n - 1) * k ≡ first_base n k
unfolding first_base
pairs_room (suc m) k h =
    let e : suc m - 1 ≡ m = omega arith in
    rw (e, ← add-mul) (ap (λ (x : ℕ). x * k) (add_comm (suc m) (suc m * m) ∙ sym (mul-suc (suc m) m)))
pairs_room zero k h = elim h [ ]

pub bits_before_rules : (n k : ℕ) → n * k ≤ first_base n k
bits_before_rules zero k = rw zero-mul zero-le
bits_before_rules (suc m) k = omega (arith, pairs_room (suc m) k (omega arith))

module _ (n k f g j : ℕ) (low : 0 < j) (high : j ≤ k) where
  below : j - 1 < k
  below = omega arith

  G_digits : G n k f g j - (n * k + 1) ≡ pair_number n f g * k + (j - 1)
  unfolding G
  G_digits = omega arith

  pub G_behind_bits : n * k < G n k f g j
  unfolding G
  G_behind_bits = omega arith

  pub G_within : f < n → g < n → f ≢ g → G n k f g j ≤ first_base n k
  unfolding G
  G_within first second differ =
      rw (← pairs_room n k (omega arith)) (omega (arith, digits_lt (pair_within n f g first second differ) below))

  pub G_pair : pair_of n k (G n k f g j) ≡ pair_number n f g
  unfolding pair_of
  G_pair = rw G_digits (digits_div (pair_number n f g) below)

  pub G_bits : bits_of n k (G n k f g j) ≡ j
  unfolding bits_of
  G_bits = rw (G_digits, digits_mod (pair_number n f g) below) (omega arith)

-- The numbers of a pair of nodes: C with d = 0, D with d = 1.
unfoldable pub nodes_number : (base width u v d : ℕ) → ℕ
nodes_number base width u v d = base + (2 * (u * width + v) + d + 1)

pub C_number : (base width u v : ℕ) → C base width u v ≡ nodes_number base width u v 0
unfolding C nodes_number
C_number base width u v = omega arith

pub D_number : (base width u v : ℕ) → D base width u v ≡ nodes_number base width u v 1
unfolding C D nodes_number
D_number base width u v = omega arith

module _ (base width u v d : ℕ) (in_right : v < width) (one : d < 2) where
  nodes_half : (nodes_number base width u v d - (base + 1)) / 2 ≡ u * width + v
  unfolding nodes_number
  nodes_half = omega arith

  pub nodes_behind : base < nodes_number base width u v d
  unfolding nodes_number
  nodes_behind = omega arith

  pub nodes_within : (l : ℕ) → u < l → nodes_number base width u v d ≤ base + 2 * (l * width)
  unfolding nodes_number
  nodes_within l h = omega (arith, digits_lt h in_right)

  pub nodes_left : left_node base width (nodes_number base width u v d) ≡ u
  unfolding left_node
  nodes_left = rw nodes_half (digits_div u in_right)

  pub nodes_right : right_node base width (nodes_number base width u v d) ≡ v
  unfolding right_node
  nodes_right = rw nodes_half (digits_mod u in_right)

  pub nodes_which : is_d base (nodes_number base width u v d) ≡ ltb 0 d
  unfolding is_d nodes_number
  nodes_which = let e : (base + (2 * (u * width + v) + d + 1) - (base + 1)) % 2 ≡ d = omega arith in ap (ltb 0) e
