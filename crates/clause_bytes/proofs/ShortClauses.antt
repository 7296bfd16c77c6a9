-- A clause of one, two or three literals that is laid without a loop: each literal, and the end, onto what the one before left of the buffer.
-- The wrong programs of write_clause name these lemmas: with them the right program in the same form is proved. Assumes nothing.
use Prim.Native.Nat.{ℕ, ◌+◌, ◌-◌, min}
use mathlib.Core.List.{List, [], ◌∷◌, ◌++◌, map, flat_map}
use mathlib.Core.Path.{◌≡◌}
use native.Mathlib.Omega.{arith}
use lib.ListN.{length, get_or, take, drop}
use borrow.Rule.Slice.PartMut.{mid_of, put_mid}
use Rattle.text.specs.Text.{ascii}
use Rattle.text.specs.Laying.{Lays}
use Rattle.text.proofs.Laying.{lays_then, lays_all}
use Rattle.clauses.specs.File.{literal_bytes, clause_bytes}
use Rattle.clause_bytes.specs.Meaning.{meant}
use Rattle.clause_bytes.specs.declared.writing.Literal.{Literal}
use Rattle.clause_bytes.specs.declared.writing.Literal.TheVariants.{Is}
use Rattle.clause_bytes.proofs.Laid.{clause_cons}

-- The text of literal i, and the clause's end.
abbrev literal : List Literal → ℕ → List ℕ
literal ls i = literal_bytes (meant (get_or ls i (Is 0)))

abbrev end : List ℕ
end = ascii "0\n"

-- The two equations of Lays: as premises of their own the search finds them among a call's facts.
abbrev Counts : (text before : List ℕ) → ℕ → Type 0
Counts text before k = k ≡ min (length text) (length before)

abbrev Leaves : (text before : List ℕ) → ℕ → List ℕ → Type 0
Leaves text before k after = after ≡ take k text ++ drop k before

-- What k bytes leave of a buffer, and the buffer with that part as it is afterwards.
abbrev rest : ℕ → List ℕ → List ℕ
rest k b = mid_of k (length b - k) b

abbrev with_rest : ℕ → (b after : List ℕ) → List ℕ
with_rest k b after = put_mid k (length b - k) b after

end_laid : {before after : List ℕ} {m : ℕ} → Lays end before m after → Lays (clause_bytes (map meant [])) before m after
unfolding clause_bytes flat_map
end_laid laid = laid

literal_laid :
    (l : Literal) (ls : List Literal) {before b after : List ℕ} {k m : ℕ} → Lays (literal_bytes (meant l)) before k b →
    Lays (clause_bytes (map meant ls)) (rest k b) m after → Lays (clause_bytes (map meant (l ∷ ls))) before (k + m) (with_rest k b after)
literal_laid l ls first behind = rw clause_cons (lays_then first behind)

pub one_laid :
    (ls : List Literal) (before b after : List ℕ) (k m : ℕ) → length ls ≡ 1 → Counts (literal ls 0) before k → Leaves (literal ls 0) before k b →
    Counts end (rest k b) m → Leaves end (rest k b) m after → Lays (clause_bytes (map meant ls)) before (k + m) (with_rest k b after)
one_laid [] before b after k m p c₁ l₁ c₂ l₂ = absurd (omega arith)
one_laid (l ∷ []) before b after k m p c₁ l₁ c₂ l₂ = literal_laid l [] (lays_all c₁ l₁) (end_laid (lays_all c₂ l₂))
one_laid (l ∷ n ∷ ls) before b after k m p c₁ l₁ c₂ l₂ = absurd (omega arith)

pub two_laid :
    (ls : List Literal) (before b c after : List ℕ) (k j m : ℕ) → length ls ≡ 2 → Counts (literal ls 0) before k → Leaves (literal ls 0) before k b →
    Counts (literal ls 1) (rest k b) j → Leaves (literal ls 1) (rest k b) j c → Counts end (rest j c) m → Leaves end (rest j c) m after →
    Lays (clause_bytes (map meant ls)) before (k + (j + m)) (with_rest k b (with_rest j c after))
two_laid [] before b c after k j m p c₁ l₁ c₂ l₂ c₃ l₃ = absurd (omega arith)
two_laid (l ∷ ls) before b c after k j m p c₁ l₁ c₂ l₂ c₃ l₃ =
    literal_laid l ls (lays_all c₁ l₁) (one_laid ls (rest k b) c after j m (omega arith) c₂ l₂ c₃ l₃)

pub three_laid :
    (ls : List Literal) (before b c d after : List ℕ) (k j i m : ℕ) → length ls ≡ 3 → Counts (literal ls 0) before k → Leaves (literal ls 0) before k b →
    Counts (literal ls 1) (rest k b) j → Leaves (literal ls 1) (rest k b) j c → Counts (literal ls 2) (rest j c) i → Leaves (literal ls 2) (rest j c) i d →
    Counts end (rest i d) m → Leaves end (rest i d) m after →
    Lays (clause_bytes (map meant ls)) before (k + (j + (i + m))) (with_rest k b (with_rest j c (with_rest i d after)))
three_laid [] before b c d after k j i m p c₁ l₁ c₂ l₂ c₃ l₃ c₄ l₄ = absurd (omega arith)
three_laid (l ∷ ls) before b c d after k j i m p c₁ l₁ c₂ l₂ c₃ l₃ c₄ l₄ =
    literal_laid l ls (lays_all c₁ l₁) (two_laid ls (rest k b) c d after j i m (omega arith) c₂ l₂ c₃ l₃ c₄ l₄)
