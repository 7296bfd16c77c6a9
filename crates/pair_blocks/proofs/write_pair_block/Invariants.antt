-- The loop has laid the clauses of the bits that it passed.
use Rattle.std.proofs.Common.{ℕ, List, take}
use mathlib.Core.List.{flat_map}
use Rattle.clauses.specs.Numbering.{numbers}
use Rattle.clauses.specs.Blocks.{pair_clauses}
use Rattle.clauses.specs.File.{clause_bytes}
use Rattle.text.specs.Laying.{Lays}
use Rattle.pair_blocks.proofs.write_pair_block.Given as goal

abbrev pub bit_text : (n k f g b : ℕ) → List ℕ
bit_text n k f g b = flat_map clause_bytes (pair_clauses n k f g b)

abbrev pub invariant-loop-b : goal.invariant-loop-b
invariant-loop-b l = Lays (flat_map (bit_text l.fn.n l.fn.k l.fn.f l.fn.g) (take l.b (numbers 0 l.fn.k))) l.initial.out l.at l.out
