-- The table of marks: what stands at a variable's place tells whether literals name it and whether they make it true; a literal of a
-- variable that was not named yet changes that variable's mark alone. Assumes nothing.
use Prim.Native.Nat.{ℕ, suc, ◌-◌, ◌≤◌, ◌<◌}
use mathlib.Core.Bool.{Bool, true, false, ◌||◌}
use mathlib.Core.List.{List, [], ◌∷◌}
use mathlib.Core.Path.{◌≡◌, refl, sym, ap, ◌∙◌}
use native.Mathlib.Decide.{ℕ_discrete}
use native.Mathlib.Omega.{arith}
use lib.Dec.{eqb}
use lib.ListN.{length, get_or, set, replicate, length-map, length-set}
use lib.Seq.{ext_get_or, get_or-set_same, get_or-set_other}
use borrow.Author.Tests.{eq-eqb, ne_eqb}
use Rattle.std.specs.Prelude.{Option, Some, None, is_some}
use Rattle.std.specs.Option.{unwrap_or}
use Rattle.std.proofs.lemmas.List.{get_or-map}
use Rattle.clauses.specs.Cnf.{Literal, is, is_not, variable_of}
use Rattle.clauses.specs.Numbering.{numbers}
use Rattle.clauses.proofs.Lists.{numbers_length, numbers_at}
use Rattle.answer_lines.specs.Values.{names, valued}
use Rattle.answer_lines.specs.Marks.{mark, table_of, sign, assigned}
use Rattle.answer_lines.specs.Computing.{computing}

-- Where nothing is named the table is empty.
pub no_marks : replicate 64 None ≡ table_of []
unfolding computing
no_marks = refl

pub not_named_not_valued : (v : ℕ) (ls : List Literal) → names v ls ≡ false → valued ls v ≡ false
unfolding names valued
not_named_not_valued v [] e = refl
not_named_not_valued v (is u ∷ ls) e = go (eqb u v) e (not_named_not_valued v ls)
  where
    go : (b : Bool) → (b || names v ls) ≡ false → (names v ls ≡ false → valued ls v ≡ false) → (b || valued ls v) ≡ false
    go true e h = e
    go false e h = h e
not_named_not_valued v (is_not u ∷ ls) e = go (eqb u v) e (not_named_not_valued v ls)
  where
    go : (b : Bool) → (b || names v ls) ≡ false → (names v ls ≡ false → valued ls v ≡ false) → valued ls v ≡ false
    go true e h = cc
    go false e h = h e

abbrev code : (valued named : Bool) → Option Bool
code true b = Some true
code false true = Some false
code false false = None

module _ (ls : List Literal) (v : ℕ) where
  mark_code : mark ls v ≡ code (valued ls v) (names v ls)
  unfolding mark
  mark_code = go (valued ls v) (names v ls) refl refl
    where
      go : (a b : Bool) → valued ls v ≡ a → names v ls ≡ b → mark ls v ≡ code (valued ls v) (names v ls)
      go true b p q = rw (mark, p)
      go false true p q = rw (mark, p, q)
      go false false p q = rw (mark, p, q)

  pub named_by_mark : is_some (mark ls v) ≡ names v ls
  named_by_mark = ap is_some mark_code ∙ go (valued ls v) (names v ls) refl refl
    where
      go : (a b : Bool) → valued ls v ≡ a → names v ls ≡ b → is_some (code a b) ≡ b
      go true true p q = refl
      go true false p q = cc (not_named_not_valued v ls q)
      go false true p q = refl
      go false false p q = refl

  pub valued_by_mark : unwrap_or (mark ls v) false ≡ valued ls v
  valued_by_mark = ap (λ m. unwrap_or m false) mark_code ∙ go (valued ls v) (names v ls)
    where
      go : (a b : Bool) → unwrap_or (code a b) false ≡ a
      go true b = refl
      go false true = refl
      go false false = refl

-- A literal of a variable that is not named yet leaves its own mark there, and every other variable's as it was.
mark_here : (l : Literal) (ls : List Literal) → names (variable_of l) ls ≡ false → mark (l ∷ ls) (variable_of l) ≡ Some (sign l)
unfolding names valued
mark_here (is u) ls new = mark_code (is u ∷ ls) u ∙ rw (eq-eqb u u refl)
mark_here (is_not u) ls new = mark_code (is_not u ∷ ls) u ∙ rw (eq-eqb u u refl, not_named_not_valued u ls new)

mark_elsewhere : (l : Literal) (ls : List Literal) (v : ℕ) → (variable_of l ≡ v → ⊥) → mark (l ∷ ls) v ≡ mark ls v
unfolding names valued
mark_elsewhere (is u) ls v d = mark_code (is u ∷ ls) v ∙ rw (ne_eqb u v d) (sym (mark_code ls v))
mark_elsewhere (is_not u) ls v d = mark_code (is_not u ∷ ls) v ∙ rw (ne_eqb u v d) (sym (mark_code ls v))

-- The table, entry by entry.
pub length_table : (ls : List Literal) → length (table_of ls) ≡ 64
unfolding table_of
length_table ls = length-map (numbers 1 64) (mark ls) ∙ numbers_length 1 64

entry : (ls : List Literal) (i : ℕ) → i < 64 → get_or (table_of ls) i None ≡ mark ls (suc i)
unfolding table_of
entry ls i h =
    get_or-map (mark ls) (numbers 1 64) i 0 None (rw numbers_length h) ∙ ap (mark ls) (numbers_at 1 64 i 0 h ∙ omega arith)

pub table_at : (ls : List Literal) (v : ℕ) → 1 ≤ v → v ≤ 64 → get_or (table_of ls) (v - 1) None ≡ mark ls v
table_at ls v low high = entry ls (v - 1) (omega arith) ∙ ap (mark ls) (omega arith)

module _ (l : Literal) (ls : List Literal) (low : 1 ≤ variable_of l) (high : variable_of l ≤ 64) (new : names (variable_of l) ls ≡ false) where
  entries :
      (i : ℕ) → i < 64 → get_or (set (table_of ls) (variable_of l - 1) (Some (sign l))) i None ≡ get_or (table_of (l ∷ ls)) i None
  entries i h = go (ℕ_discrete i (variable_of l - 1))
    where
      go :
          Dec (i ≡ variable_of l - 1) →
          get_or (set (table_of ls) (variable_of l - 1) (Some (sign l))) i None ≡ get_or (table_of (l ∷ ls)) i None
      go (yes e) =
          let place : suc i ≡ variable_of l = omega arith in
          ap (λ (k : ℕ). get_or (set (table_of ls) (variable_of l - 1) (Some (sign l))) k None) e
          ∙ get_or-set_same (table_of ls) (variable_of l - 1) (Some (sign l)) None (rw (length_table ls) (omega arith))
          ∙ sym (entry (l ∷ ls) i h ∙ ap (mark (l ∷ ls)) place ∙ mark_here l ls new)
      go (no d) =
          get_or-set_other (table_of ls) (variable_of l - 1) i (Some (sign l)) None d
          ∙ entry ls i h
          ∙ sym (entry (l ∷ ls) i h ∙ mark_elsewhere l ls (suc i) (λ (e : variable_of l ≡ suc i). d (omega arith)))

  pub table_named : set (table_of ls) (variable_of l - 1) (Some (sign l)) ≡ table_of (l ∷ ls)
  table_named =
      ext_get_or None (set (table_of ls) (variable_of l - 1) (Some (sign l))) (table_of (l ∷ ls)) (as_long ∙ sym (length_table (l ∷ ls)))
      (λ i (h : i < length (set (table_of ls) (variable_of l - 1) (Some (sign l)))). entries i (omega (arith, as_long)))
    where
      as_long : length (set (table_of ls) (variable_of l - 1) (Some (sign l))) ≡ 64
      as_long = length-set (table_of ls) (variable_of l - 1) (Some (sign l)) ∙ length_table ls

-- "one not named counts as 0": the marks tell the values.
pub assigned_valued : (ls : List Literal) (v : ℕ) → 1 ≤ v → v ≤ 64 → assigned (table_of ls) v ≡ valued ls v
unfolding assigned
assigned_valued ls v low high = ap (λ m. unwrap_or m false) (table_at ls v low high) ∙ valued_by_mark ls v
