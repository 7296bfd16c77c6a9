-- Every variable's number is of one kind: numbering what was read back from it gives it again. Assumes nothing.
use Prim.Native.Nat.{ℕ, zero, suc, ◌+◌, ◌-◌, ◌*◌, ◌/◌, ◌%◌, ◌≤◌, ◌<◌}
use mathlib.Core.Bool.{Bool, true, false, cond}
use mathlib.Core.Logic.{◌≢◌}
use mathlib.Core.Path.{◌≡◌, refl, ◌∙◌}
use native.Mathlib.Nat.{mul-zero, zero-mul, div-add-mod', div-lt_iff_lt-mul, mod-lt}
use native.Mathlib.Omega.{arith}
use borrow.Author.Tests.{ltb-true, ltb-false, le-ltb}
use lib.Dec.{ltb}
use Rattle.clauses.specs.Numbering.{bit, pair_number, G, first_base}
use Rattle.clauses.proofs.Numbered.{
  bit_symbol,
  bit_place,
  pair_of,
  bits_of,
  first_of,
  counted_without,
  second_of,
  left_node,
  right_node,
  is_d,
  pairs_room,
  nodes_number,
}

-- A number below a product has a quotient and a remainder.
positive_factor : (q m x : ℕ) → x < q * m → 0 < m
positive_factor q zero x h = absurd (omega (arith, mul-zero q))
positive_factor q (suc m) x h = omega arith

quotient_within : (q m x : ℕ) → x < q * m → x / m < q
quotient_within q m x h = (div-lt_iff_lt-mul (positive_factor q m x h)).1 h

remainder_within : (q m x : ℕ) → x < q * m → x % m < m
remainder_within q m x h = mod-lt x (positive_factor q m x h)

module _ (n k v : ℕ) (counted : 0 < v) (within : v ≤ n * k) where
  below : v - 1 < n * k
  below = omega arith

  pub symbol_within : bit_symbol k v < n
  unfolding bit_symbol
  symbol_within = quotient_within n k (v - 1) below

  pub place_within : bit_place k v < k
  unfolding bit_place
  place_within = remainder_within n k (v - 1) below

  pub bit_back : bit k (bit_symbol k v) (bit_place k v) ≡ v
  unfolding bit bit_symbol bit_place
  bit_back = omega (arith, div-add-mod' (v - 1) k)

-- The second symbol of a pair, counted without the first.
module _ (f r : ℕ) where
  counted_within : (n : ℕ) (b : Bool) → ltb r f ≡ b → f < n → r < n - 1 → counted_without f r < n
  unfolding counted_without
  counted_within n true e first h = rw (e, counted_without) (omega arith)
  counted_within n false e first h = rw (e, counted_without) (omega arith)

  counted_differs : (b : Bool) → ltb r f ≡ b → f ≢ counted_without f r
  unfolding counted_without
  counted_differs true e = let h = ltb-true r f e in rw (e, counted_without) (omega arith)
  counted_differs false e = let h = ltb-false r f e in rw (e, counted_without) (omega arith)

  pair_back : (n : ℕ) (b : Bool) → ltb r f ≡ b → pair_number n f (counted_without f r) ≡ f * (n - 1) + r
  unfolding counted_without pair_number
  pair_back n true e =
      let g : counted_without f r ≡ r = rw (e, counted_without) in
      rw (g, e, pair_number) (omega arith)
  pair_back n false e =
      let h = ltb-false r f e in
      let g : counted_without f r ≡ suc r = rw (e, counted_without) in
      rw (g, le-ltb (suc r) f (omega arith), pair_number) (omega arith)

some_symbol : (n k v : ℕ) → n * k < v → v ≤ first_base n k → 0 < n
unfolding first_base
some_symbol zero k v behind within = absurd (omega (arith, zero-mul k))
some_symbol (suc n) k v behind within = omega arith

module _ (n k v : ℕ) (behind : n * k < v) (within : v ≤ first_base n k) where
  place : ℕ
  place = v - (n * k + 1)

  place_below : place < n * (n - 1) * k
  unfolding place
  place_below = omega (arith, pairs_room n k (some_symbol n k v behind within))

  pair_below : pair_of n k v < n * (n - 1)
  unfolding pair_of place
  pair_below = quotient_within (n * (n - 1)) k place place_below

  rest_below : pair_of n k v % (n - 1) < n - 1
  rest_below = remainder_within n (n - 1) (pair_of n k v) pair_below

  pub first_within : first_of n (pair_of n k v) < n
  unfolding first_of
  first_within = quotient_within n (n - 1) (pair_of n k v) pair_below

  pub second_within : second_of n (pair_of n k v) < n
  unfolding second_of
  second_within = counted_within (first_of n (pair_of n k v)) (pair_of n k v % (n - 1)) n _ refl first_within rest_below

  pub pair_differs : first_of n (pair_of n k v) ≢ second_of n (pair_of n k v)
  unfolding second_of
  pair_differs = counted_differs (first_of n (pair_of n k v)) (pair_of n k v % (n - 1)) _ refl

  pub bits_some : 0 < bits_of n k v
  unfolding bits_of
  bits_some = omega arith

  pub bits_within : bits_of n k v ≤ k
  unfolding bits_of place
  bits_within = remainder_within (n * (n - 1)) k place place_below

  pair_number_back : pair_number n (first_of n (pair_of n k v)) (second_of n (pair_of n k v)) ≡ pair_of n k v
  unfolding first_of second_of
  pair_number_back = pair_back (first_of n (pair_of n k v)) (pair_of n k v % (n - 1)) n _ refl ∙ div-add-mod' (pair_of n k v) (n - 1)

  pub G_back : G n k (first_of n (pair_of n k v)) (second_of n (pair_of n k v)) (bits_of n k v) ≡ v
  unfolding G pair_of bits_of
  G_back = rw pair_number_back (omega (arith, div-add-mod' (v - (n * k + 1)) k))

module _ (base l width v : ℕ) (behind : base < v) (within : v ≤ base + 2 * (l * width)) where
  half_below : (v - (base + 1)) / 2 < l * width
  half_below = omega arith

  pub left_within : left_node base width v < l
  unfolding left_node
  left_within = quotient_within l width ((v - (base + 1)) / 2) half_below

  pub right_within : right_node base width v < width
  unfolding right_node
  right_within = remainder_within l width ((v - (base + 1)) / 2) half_below

  pub nodes_back : (d : Bool) → is_d base v ≡ d → nodes_number base width (left_node base width v) (right_node base width v) (cond d 1 0) ≡ v
  unfolding nodes_number left_node right_node is_d
  nodes_back true e = let h = ltb-true 0 ((v - (base + 1)) % 2) e in omega (arith, div-add-mod' ((v - (base + 1)) / 2) width)
  nodes_back false e = let h = ltb-false 0 ((v - (base + 1)) % 2) e in omega (arith, div-add-mod' ((v - (base + 1)) / 2) width)
