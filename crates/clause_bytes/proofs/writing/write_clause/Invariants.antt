-- The loop has laid the literals that it passed.
use Rattle.std.proofs.Common.{take}
use mathlib.Core.List.{flat_map}
use Rattle.clauses.specs.File.{literal_bytes}
use Rattle.text.specs.Laying.{Lays}
use Rattle.clause_bytes.specs.Meaning.{meant}
use Rattle.clause_bytes.proofs.writing.write_clause.Given as goal

abbrev pub invariant-loop-literal : goal.invariant-loop-literal
invariant-loop-literal l = Lays (flat_map (λ x. literal_bytes (meant x)) (take l.literal-index l.literals)) l.initial.out l.at l.out
