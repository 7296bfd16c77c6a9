-- The loop has laid the clauses of the parts that it passed.
use Rattle.std.proofs.Common.{take, [], ◌∷◌}
use mathlib.Core.List.{flat_map}
use Rattle.clauses.specs.File.{clause_bytes}
use Rattle.text.specs.Laying.{Lays}
use Rattle.clause_bytes.specs.Meaning.{meant, against}
use Rattle.clause_bytes.proofs.parts.write_part_clauses.Given as goal

abbrev pub invariant-loop-part : goal.invariant-loop-part
invariant-loop-part l =
    Lays (flat_map (λ part. clause_bytes (meant l.fn.whole ∷ against (meant l.fn.whole) part ∷ [])) (take l.part-index l.parts)) l.initial.out l.at l.out
