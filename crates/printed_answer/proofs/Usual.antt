-- The usual form is well formed: its literals give each variable its value, and for a readable book it is never too long. Assumes nothing.
use Prim.Native.Nat.{ℕ, zero, suc, ◌+◌, ◌*◌, ◌≤◌, ◌<◌}
use mathlib.Core.Bool.{Bool, true, false, not}
use mathlib.Core.List.{List, [], ◌∷◌, ◌++◌, map, flat_map, append_assoc, append-nil, Memᴰ}
use mathlib.Core.Path.{◌≡◌, refl, sym, ap, subst, ◌∙◌}
use native.Mathlib.Decide.{ℕ_discrete}
use native.Mathlib.Nat.{le_trans}
use native.Mathlib.Omega.{arith}
use lib.ListN.{length, length-append}
use Rattle.text.specs.Decimal.{decimal}
use Rattle.text.specs.Text.{ascii}
use Rattle.text.proofs.Decimal.{decimal_length}
use Rattle.reply.proofs.Every.{Every, every_member}
use Rattle.term.specs.Tables.{rank_bits}
use Rattle.book.specs.Book.{Book, symbols}
use Rattle.book.specs.Limits.{WithinLimits}
use Rattle.clauses.specs.Cnf.{Literal, is, is_not, Assignment, holds, variable_of}
use Rattle.clauses.specs.Numbering.{numbers, first_base}
use Rattle.clauses.specs.Blocks.{«V»}
use Rattle.clauses.proofs.Bounds.{variables_at_most}
use Rattle.clauses.proofs.Numbers.{base_grows}
use Rattle.clauses.proofs.Numbered.{bits_before_rules}
use Rattle.printed_answer.specs.WellFormed.{spaced_text, all_ended, all_literals, times_named, Names, WellFormed}
use Rattle.printed_answer.specs.Usual.{true_literal, singly, usual, usual_answer}
use Rattle.printed_answer.specs.Computing.{writing}
use Rattle.printed_answer.proofs.NamesRead.{named_here, named_elsewhere}
use Rattle.printed_answer.proofs.Taken.{literals_of}

module _ (α : Assignment) where
  own_variable : (v : ℕ) → variable_of (true_literal α v) ≡ v
  unfolding true_literal
  own_variable v = go (α v) refl
    where
      go : (b : Bool) → α v ≡ b → variable_of (true_literal α v) ≡ v
      go true e = rw (true_literal, e)
      go false e = rw (true_literal, e)

  literal_holds : (v : ℕ) → holds α (true_literal α v) ≡ true
  unfolding true_literal holds
  literal_holds v = go (α v) refl
    where
      go : (b : Bool) → α v ≡ b → holds α (true_literal α v) ≡ true
      go true e = rw (true_literal, e) e
      go false e = rw (true_literal, e) (ap not e)

  -- The literals of `count` variables from `first` on.
  abbrev in_order : (first count : ℕ) → List Literal
  in_order first count = map (true_literal α) (numbers first count)

  -- Each names one of them, and holds.
  record Fine (low high : ℕ) (l : Literal) : Type 0 where
    above : low ≤ variable_of l
    below : variable_of l < high
    true_there : holds α l ≡ true

  all_fine : (low high first count : ℕ) → low ≤ first → first + count ≤ high → Every (Fine low high) (in_order first count)
  unfolding numbers
  all_fine low high first zero h k = tt
  all_fine low high first (suc count) h k = (
    record {
      above = rw (own_variable first) h;
      below = rw (own_variable first) (omega arith);
      true_there = literal_holds first;
    },
    all_fine low high (suc first) count (omega arith) (omega arith),
  )

  -- A variable before the first is not named, and none is named twice.
  none_before : (v first count : ℕ) → v < first → times_named v (in_order first count) ≡ 0
  unfolding numbers times_named
  none_before v first zero h = refl
  none_before v first (suc count) h =
      named_elsewhere (true_literal α first) v (in_order (suc first) count) (λ e. omega (arith, own_variable first, e))
      ∙ none_before v (suc first) count (omega arith)

  named_once : (v first count : ℕ) → times_named v (in_order first count) ≤ 1
  unfolding numbers times_named
  named_once v first zero = omega arith
  named_once v first (suc count) = go (ℕ_discrete first v) (named_once v (suc first) count)
    where
      go : Dec (first ≡ v) → times_named v (in_order (suc first) count) ≤ 1 → times_named v (in_order first (suc count)) ≤ 1
      go (yes e) behind =
          omega (arith, named_here (true_literal α first) v (in_order (suc first) count) (own_variable first ∙ e), none_before v (suc first) count (omega arith))
      go (no d) behind =
          omega (arith, named_elsewhere (true_literal α first) v (in_order (suc first) count) (λ e. d (sym (own_variable first) ∙ e)), behind)

  -- A true one is there.
  true_there : (v first count : ℕ) → first ≤ v → v < first + count → α v ≡ true → Memᴰ (is v) (in_order first count)
  unfolding numbers
  true_there v first zero low high e = absurd (omega arith)
  true_there v first (suc count) low high e = go (ℕ_discrete first v) (λ (h : suc first ≤ v). true_there v (suc first) count h (omega arith) e)
    where
      go : Dec (first ≡ v) → (suc first ≤ v → Memᴰ (is v) (in_order (suc first) count)) → Memᴰ (is v) (in_order first (suc count))
      go (yes q) behind = Memᴰ.head (subst (λ (u : ℕ). is v ≡ true_literal α u) (sym q) here)
        where
          here : is v ≡ true_literal α v
          here = unfold true_literal in rw (e, true_literal)
      go (no d) behind = Memᴰ.tail (behind (omega arith))

  literals_name : (variables rank_variables : ℕ) → rank_variables ≤ variables → Names variables rank_variables α (in_order 1 variables)
  literals_name variables rank_variables h = record {
    within = λ l m. let f = fine l m in (f.above, omega (arith, f.below));
    once = λ v k. named_once v 1 variables;
    counts = λ v low (high : v ≤ rank_variables). (
      λ e. true_there v 1 variables low (omega arith) e,
      λ m. unfold holds in (fine (is v) m).true_there,
    );
  }
    where
      fine : (l : Literal) → Memᴰ l (in_order 1 variables) → Fine 1 (1 + variables) l
      fine l m = every_member (Fine 1 (1 + variables)) m (all_fine 1 (1 + variables) 1 variables (omega arith) (omega arith))

-- Every rank variable is a variable of the file.
pub rank_variables_within : (book : Book) → symbols book * rank_bits (symbols book) ≤ «V» book
unfolding «V»
rank_variables_within book =
    le_trans (bits_before_rules (symbols book) (rank_bits (symbols book))) (base_grows (first_base (symbols book) (rank_bits (symbols book))) book.rules)

literals_of_singly : (ls : List Literal) → literals_of (singly ls) ≡ ls
literals_of_singly [] = refl
literals_of_singly (l ∷ ls) = ap (λ (ms : List Literal). l ∷ ms) (literals_of_singly ls)

pub usual_well_formed :
    (book : Book) (α : Assignment) → WellFormed («V» book) (symbols book * rank_bits (symbols book)) (usual_answer («V» book) α) α
unfolding usual_answer all_literals flat_map
usual_well_formed book α = record {
  answer = usual («V» book) α;
  written = all_ended refl;
  names = subst (Names («V» book) (symbols book * rank_bits (symbols book)) α) (sym (literals_of_singly (map (true_literal α) (numbers 1 («V» book)))))
      (literals_name α («V» book) (symbols book * rank_bits (symbols book)) (rank_variables_within book));
}

-- Its length: a literal of a variable below 10,000 takes at most six bytes.
abbrev pub single_text : Literal → List ℕ
single_text l = spaced_text (record { more = 0; literal = l })

literal_short : (α : Assignment) (v : ℕ) → v < 10000 → length (single_text (true_literal α v)) ≤ 6
unfolding true_literal writing ascii
literal_short α v h = go (α v)
  where
    four : length (decimal v) ≤ 4
    four = decimal_length v 4 (omega arith) h

    go : (b : Bool) → length (single_text (elim b [ true ↦ is v | false ↦ is_not v ])) ≤ 6
    go true = omega (arith, four)
    go false = omega (arith, four)

literals_short :
    (α : Assignment) (count first : ℕ) → first + count ≤ 10000 →
    length (flat_map spaced_text (singly (map (true_literal α) (numbers first count)))) ≤ 6 * count
unfolding numbers flat_map
literals_short α zero first h = omega arith
literals_short α (suc count) first h =
    rw (length-append (single_text (true_literal α first)) (flat_map spaced_text (singly (map (true_literal α) (numbers (suc first) count)))))
    (omega (arith, literal_short α first (omega arith), literals_short α count (suc first) (omega arith)))

-- The text of its two lines.
pub usual_text :
    (variables : ℕ) (α : Assignment) →
    usual_answer variables α ≡ ascii "s SATISFIABLE\nv" ++ (flat_map spaced_text (singly (map (true_literal α) (numbers 1 variables))) ++ ascii " 0\n")
unfolding usual_answer writing flat_map ascii
usual_text variables α =
    ap (λ (bs : List ℕ). ascii "s SATISFIABLE\nv" ++ bs)
    (append-nil _ ∙ append_assoc (flat_map spaced_text (singly (map (true_literal α) (numbers 1 variables)))) (ascii " 0") (ascii "\n"))

pub usual_short : (book : Book) (α : Assignment) → WithinLimits book → length (usual_answer («V» book) α) ≤ 65536
unfolding ascii
usual_short book α limits =
    rw (usual_text («V» book) α, length-append (flat_map spaced_text (singly (map (true_literal α) (numbers 1 («V» book))))) (32 ∷ 48 ∷ 10 ∷ []))
    (omega (arith, variables_at_most book limits, literals_short α («V» book) 1 (omega (arith, variables_at_most book limits))))
