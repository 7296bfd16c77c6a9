-- The clause program prints of the first 1,346 bytes of its input what it would print of the whole: so a buffer of 1,346 bytes is enough.
-- Assumes nothing.
use Prim.Native.Nat.{ℕ}
use mathlib.Core.List.{List}
use mathlib.Core.Path.{◌≡◌, ap}
use lib.ListN.{take}
use Rattle.book.proofs.LongestBook.{first_bytes_decide}
use Rattle.clauses.specs.File.{printed, clause_program}

pub first_bytes_printed : (bytes : List ℕ) → clause_program (take 1346 bytes) ≡ clause_program bytes
unfolding clause_program
first_bytes_printed bytes = ap printed (first_bytes_decide bytes)
