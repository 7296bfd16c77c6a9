-- Bytes in hexadecimal.
use Rattle.std.specs.Prelude.{ℕ, ◌+◌, ◌/◌, ◌%◌, true, false, ltb}
use mathlib.Core.List.{List, [], ◌∷◌, flat_map}

-- Two digits for each byte.
unfoldable pub hex_digit : ℕ → ℕ
hex_digit d = elim (ltb d 10) [ true ↦ 48 + d | false ↦ 87 + d ]

unfoldable pub hex_of : ℕ → List ℕ
hex_of byte = hex_digit (byte / 16) ∷ hex_digit (byte % 16) ∷ []

unfoldable pub hex_text : List ℕ → List ℕ
hex_text bytes = flat_map hex_of bytes
