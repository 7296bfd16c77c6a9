-- The kinds of records and the two constant tables: body length by kind, rank bits by symbol count.
use Rattle.std.specs.Prelude.{ℕ, List, [], ◌∷◌, get_or}

-- "Bytes of a book": 1 symbol, 2 start of a rule, 3 symbol node, 4 variable node, 5 end.
pub data Kind : Type 0 where
  unknown symbol rule symbol_node variable_node end : Kind

unfoldable pub kind_of : ℕ → Kind
kind_of k = get_or (unknown ∷ symbol ∷ rule ∷ symbol_node ∷ variable_node ∷ end ∷ []) k unknown

-- "The body lengths stand in a constant table by kind": one byte for a symbol (its arity), a symbol node (the symbol
-- number) and a variable node (the variable number), none for the start of a rule and for the end.
unfoldable pub body_lengths : List ℕ
body_lengths = 0 ∷ 1 ∷ 0 ∷ 1 ∷ 1 ∷ 0 ∷ []

unfoldable pub body_length : ℕ → ℕ
body_length k = get_or body_lengths k 0

-- "The clause file": k is the least number with 2^k at least n, and 0 for n = 0 or 1; a table by n, 0 to 16.
unfoldable pub rank_bits_table : List ℕ
rank_bits_table = 0 ∷ 0 ∷ 1 ∷ 2 ∷ 2 ∷ 3 ∷ 3 ∷ 3 ∷ 3 ∷ 4 ∷ 4 ∷ 4 ∷ 4 ∷ 4 ∷ 4 ∷ 4 ∷ 4 ∷ []

unfoldable pub rank_bits : ℕ → ℕ
rank_bits n = get_or rank_bits_table n 0
