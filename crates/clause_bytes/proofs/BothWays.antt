-- The clauses of a whole and its parts, as the code lays them: a clause for each part, then one clause of the whole and all parts.
-- Assumes nothing.
use Prim.Native.Nat.{ℕ, ◌≤◌, ◌<◌}
use mathlib.Core.List.{List, [], ◌∷◌, ◌++◌, map, flat_map, append_assoc, append-nil}
use mathlib.Core.Path.{◌≡◌, refl, ap, sym, ◌∙◌}
use native.Mathlib.Omega.{arith}
use lib.ListN.{length, length-take}
use Rattle.clauses.specs.Cnf.{Literal, is, is_not}
use Rattle.clauses.specs.Wholes.{all_parts, some_parts}
use Rattle.clauses.specs.File.{literal_bytes, clause_bytes}
use Rattle.clause_bytes.specs.Meaning.{parts_in, against, part_clauses, both_ways}
use Rattle.clause_bytes.specs.declared.gathering.Parts.{Parts}
use Rattle.clause_bytes.proofs.Laid.{clause_cons}
use Rattle.text.proofs.Each.{flat_map_append}

pub both_ways_text :
    (one other : Literal) (parts : List ℕ) →
    (flat_map clause_bytes (part_clauses one parts) ++ literal_bytes other) ++ clause_bytes (map (against other) parts)
    ≡ flat_map clause_bytes (both_ways one other parts)
unfolding both_ways flat_map
both_ways_text one other parts =
    append_assoc (flat_map clause_bytes (part_clauses one parts)) (literal_bytes other) (clause_bytes (map (against other) parts))
    ∙ ap (λ (text : List ℕ). flat_map clause_bytes (part_clauses one parts) ++ text)
    (sym (clause_cons other (map (against other) parts)) ∙ sym (append-nil (clause_bytes (other ∷ map (against other) parts))))
    ∙ sym (flat_map_append clause_bytes (part_clauses one parts) ((other ∷ map (against other) parts) ∷ []))

pub all_parts_both : (whole : ℕ) (parts : List ℕ) → 0 < length parts → all_parts whole parts ≡ both_ways (is_not whole) (is whole) parts
unfolding all_parts both_ways part_clauses against
all_parts_both whole [] h = absurd (omega arith)
all_parts_both whole (q ∷ qs) h = refl

pub some_parts_both : (whole : ℕ) (parts : List ℕ) → some_parts whole parts ≡ both_ways (is whole) (is_not whole) parts
unfolding some_parts both_ways part_clauses against
some_parts_both whole parts = refl

-- No parts.
pub all_parts_none : (whole : ℕ) (parts : List ℕ) → length parts ≡ 0 → clause_bytes (is_not whole ∷ []) ≡ flat_map clause_bytes (all_parts whole parts)
unfolding all_parts flat_map
all_parts_none whole [] h = sym (append-nil (clause_bytes (is_not whole ∷ [])))
all_parts_none whole (q ∷ qs) h = absurd (omega arith)

-- As many parts as the value says.
pub parts_counted : (p : Parts) {parts : List ℕ} → p.many ≤ 8 → length p.of ≡ 8 → parts_in p ≡ parts → length parts ≡ p.many
unfolding parts_in
parts_counted p few whole e = ap length (sym e) ∙ length-take p.many p.of ∙ omega arith
