-- V, then M, each with the byte behind it.
use mathlib.Core.List.{append_assoc}
use Rattle.text.specs.Text.{ascii}
use Rattle.text.proofs.Laying.{lays_then, lays_as}
use Rattle.clauses.specs.File.{counts_text}
use Rattle.blocks.proofs.header.write_counts.Goals as goal

pub returns : goal.returns
unfolding counts_text ascii
returns c = lays_as (simp append_assoc) (lays_then c.write_number-at.ensures c.write_number.ensures)
