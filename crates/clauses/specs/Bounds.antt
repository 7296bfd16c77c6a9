-- The bounds that document 01 states of the clause file.
use Rattle.std.specs.Prelude.{ℕ, ◌^◌, ◌≤◌, ◌≡◌, length}
use mathlib.Core.List.{List, Memᴰ}
use Rattle.term.specs.Tables.{rank_bits}
use Rattle.book.specs.Book.{Book}
use Rattle.book.specs.Limits.{WithinLimits}
use Rattle.clauses.specs.Blocks.{«V»}
use Rattle.clauses.specs.File.{file_blocks}

-- "n is the number of symbols, k the least number with 2^k at least n, and 0 for n = 0 or 1", of the table of k.
pub record RankBitsLeast : Type 0 where
  pub enough : (n : ℕ) → n ≤ 16 → n ≤ 2 ^ rank_bits n
  pub none_fewer : (n : ℕ) → n ≤ 16 → (j : ℕ) → n ≤ 2 ^ j → rank_bits n ≤ j

-- "At the maximum there are 7,424 variables."
pub record VariablesAtMaximum : Type 0 where
  pub at_most : (book : Book) → WithinLimits book → «V» book ≤ 7424
  pub largest : Book
  pub within : WithinLimits largest
  pub reached : «V» largest ≡ 7424

-- "A block never needs more than 512 bytes."
unfoldable pub BlocksWithin512 : Type 0
BlocksWithin512 = (book : Book) → WithinLimits book → (block : List ℕ) → Memᴰ block (file_blocks book) → length block ≤ 512
