-- The block of two nodes, D's clauses and then C's: its text and how many clauses it has. Assumes nothing.
use Prim.Native.Nat.{ℕ, ◌+◌}
use mathlib.Core.Bool.{true, false}
use mathlib.Core.List.{List, [], ◌∷◌, ◌++◌, map, flat_map, append-nil}
use mathlib.Core.Path.{◌≡◌, refl, sym, ap, ap₂, ◌∙◌}
use native.Mathlib.Omega.{arith}
use lib.ListN.{length, length-append, length-map}
use Rattle.term.specs.Term.{Term}
use Rattle.clauses.specs.Cnf.{is, is_not}
use Rattle.clauses.specs.Numbering.{D}
use Rattle.clauses.specs.Blocks.{Setting, CAt, DAt, parts_of_d, parts_of_c, some_identical, clauses_of_c, node_block}
use Rattle.clauses.specs.Wholes.{all_parts, some_parts}
use Rattle.clauses.specs.File.{clause_bytes}
use Rattle.rule_blocks.specs.Nodes.{nodes_block}
use Rattle.text.proofs.Each.{flat_map_append}

all_parts_count : (whole : ℕ) (parts : List ℕ) → length (all_parts whole parts) ≡ length parts + 1
unfolding all_parts
all_parts_count whole [] = refl
all_parts_count whole (q ∷ qs) =
    length-append (map (λ q'. is_not whole ∷ is q' ∷ []) (q ∷ qs)) ((is whole ∷ map is_not (q ∷ qs)) ∷ [])
    ∙ ap (λ (n : ℕ). n + 1) (length-map (q ∷ qs) (λ q'. is_not whole ∷ is q' ∷ []))

some_parts_count : (whole : ℕ) (parts : List ℕ) → length (some_parts whole parts) ≡ length parts + 1
unfolding some_parts
some_parts_count whole parts =
    length-append (map (λ q. is whole ∷ is_not q ∷ []) parts) ((is_not whole ∷ map is parts) ∷ [])
    ∙ ap (λ (n : ℕ). n + 1) (length-map parts (λ q. is whole ∷ is_not q ∷ []))

module _ (c : Setting) (u v : ℕ) (s t : Term) where
  -- C's clauses.
  identical_clauses : true ≡ some_identical s t → (is (CAt c u v) ∷ []) ∷ [] ≡ clauses_of_c c u v s t
  unfolding clauses_of_c
  identical_clauses e = rw (← e, clauses_of_c)

  other_clauses : false ≡ some_identical s t → some_parts (CAt c u v) (parts_of_c c u v s) ≡ clauses_of_c c u v s t
  unfolding clauses_of_c
  other_clauses e = rw (← e, clauses_of_c)

  pub identical_text : {q : ℕ} → true ≡ some_identical s t → q ≡ CAt c u v → clause_bytes (is q ∷ []) ≡ flat_map clause_bytes (clauses_of_c c u v s t)
  unfolding flat_map
  identical_text {q} e p =
      sym (append-nil (clause_bytes (is q ∷ [])))
      ∙ ap (λ (n : ℕ). flat_map clause_bytes ((is n ∷ []) ∷ [])) p
      ∙ ap (flat_map clause_bytes) (identical_clauses e)

  pub other_text :
      {q : ℕ} {parts : List ℕ} → false ≡ some_identical s t → q ≡ CAt c u v → parts ≡ parts_of_c c u v s →
      flat_map clause_bytes (some_parts q parts) ≡ flat_map clause_bytes (clauses_of_c c u v s t)
  other_text e p r = ap₂ (λ (n : ℕ) (l : List ℕ). flat_map clause_bytes (some_parts n l)) p r ∙ ap (flat_map clause_bytes) (other_clauses e)

  -- D's clauses and then C's.
  parted : nodes_block c u v s t ≡ all_parts (DAt c u v) (parts_of_d c u v s t) ++ clauses_of_c c u v s t
  unfolding nodes_block node_block clauses_of_c
  parted = refl

  d_number : {q : ℕ} → q ≡ CAt c u v → q + 1 ≡ DAt c u v
  unfolding DAt D CAt
  d_number p = ap (λ (n : ℕ). n + 1) p

  pub nodes_text :
      {q : ℕ} {parts : List ℕ} → q ≡ CAt c u v → parts ≡ parts_of_d c u v s t →
      flat_map clause_bytes (all_parts (q + 1) parts) ++ flat_map clause_bytes (clauses_of_c c u v s t) ≡ flat_map clause_bytes (nodes_block c u v s t)
  nodes_text {q} {parts} p r =
      sym (flat_map_append clause_bytes (all_parts (q + 1) parts) (clauses_of_c c u v s t))
      ∙ ap₂ (λ (n : ℕ) (l : List ℕ). flat_map clause_bytes (all_parts n l ++ clauses_of_c c u v s t)) (d_number p) r
      ∙ ap (flat_map clause_bytes) (sym parted)

  counted : (many : ℕ) → length (clauses_of_c c u v s t) ≡ many → length (parts_of_d c u v s t) + 1 + many ≡ length (nodes_block c u v s t)
  counted many e =
      sym
      (ap length parted
      ∙ length-append (all_parts (DAt c u v) (parts_of_d c u v s t)) (clauses_of_c c u v s t)
      ∙ ap₂ ◌+◌ (all_parts_count (DAt c u v) (parts_of_d c u v s t)) e)

  pub identical_count : {d : ℕ} → true ≡ some_identical s t → length (parts_of_d c u v s t) ≡ d → d + 2 ≡ length (nodes_block c u v s t)
  identical_count e p = omega (arith, counted 1 (sym (ap length (identical_clauses e))))

  pub other_count :
      {d m : ℕ} → false ≡ some_identical s t → length (parts_of_d c u v s t) ≡ d → length (parts_of_c c u v s) ≡ m → d + m + 2 ≡ length (nodes_block c u v s t)
  other_count e p r =
      omega (arith, counted _ (sym (ap length (other_clauses e)) ∙ some_parts_count (CAt c u v) (parts_of_c c u v s)))
