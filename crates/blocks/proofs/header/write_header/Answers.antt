-- The header's first words, then V and M.
use Prim.Native.Nat.{ℕ}
use mathlib.Core.List.{◌++◌}
use mathlib.Core.Path.{ap₂}
use Rattle.text.specs.Text.{ascii}
use Rattle.clauses.specs.File.{header, counts_text}
use Rattle.text.proofs.Laying.{lays_then, lays_as}
use Rattle.blocks.proofs.header.write_header.Goals as goal

pub returns : goal.returns
unfolding header counts_text ascii
returns c =
    lays_as (ap₂ (λ (v m : ℕ). ascii "p cnf " ++ counts_text v m) (c.variables-v.ensures _ c.args.book.now.read) c.clause_count-m.ensures)
    (lays_then c.write_text-at.ensures c.write_counts.ensures)
