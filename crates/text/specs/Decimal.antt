-- Numbers in decimal, written and read.
use Rattle.std.specs.Prelude.{ℕ, zero, suc, ◌+◌, ◌-◌, ◌*◌, ◌/◌, ◌%◌, true, false, ◌&&◌, List, [], ◌∷◌, ◌++◌, leb, ltb, eqb}
use Rattle.std.proofs.Math.Option.{Option, none, some}

-- A number in decimal without leading zeros. It has at most as many digits as `fuel` and one more.
unfoldable pub digits : (fuel : ℕ) → ℕ → List ℕ
digits zero n = (48 + n % 10) ∷ []
digits (suc fuel) n = elim (ltb n 10) [ true ↦ (48 + n) ∷ [] | false ↦ digits fuel (n / 10) ++ ((48 + n % 10) ∷ []) ]

unfoldable pub decimal : ℕ → List ℕ
decimal n = digits n n

-- The value of digits, behind `value`; none where a byte is no digit.
unfoldable pub value_of : (value : ℕ) → List ℕ → Option ℕ
value_of value [] = some value
value_of value (d ∷ ds) = elim (leb 48 d && leb d 57) [ true ↦ value_of (value * 10 + (d - 48)) ds | false ↦ none ]

-- A number in decimal without leading zeros, read.
unfoldable pub number : List ℕ → Option ℕ
number [] = none
number (d ∷ []) = value_of 0 (d ∷ [])
number (d ∷ e ∷ ds) = elim (eqb d 48) [ true ↦ none | false ↦ value_of 0 (d ∷ e ∷ ds) ]

-- The number, if there is one and it does not pass `top`.
unfoldable pub not_above : (top : ℕ) → Option ℕ → Option ℕ
not_above top none = none
not_above top (some v) = elim (leb v top) [ true ↦ some v | false ↦ none ]

-- A number from 1 to `top`, else 0.
unfoldable pub within : (top : ℕ) → Option ℕ → ℕ
within top none = 0
within top (some v) = elim (leb v top) [ true ↦ v | false ↦ 0 ]
