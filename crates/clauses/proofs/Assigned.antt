-- The assignment of a table of ranks, defined by reading a variable's number back, and its value at each kind of number: a rank bit is
-- the rank's binary digit, a comparison compares low digits, C is the order's test and D its cases (1) and (2). Assumes nothing.
use Prim.Native.Nat.{ℕ, suc, ◌+◌, ◌*◌, ◌^◌, ◌≤◌, ◌<◌}
use mathlib.Core.Bool.{Bool, true, false}
use mathlib.Core.List.{List, [], ◌∷◌, map, Memᴰ}
use mathlib.Core.Logic.{◌≢◌}
use mathlib.Core.Path.{◌≡◌, refl, sym, ap, ap₂, subst, ◌∙◌}
use native.Mathlib.Nat.{lt_of_le_of_lt, le_refl, add-zero, zero-add, mod-eq_of_lt}
use native.Mathlib.Omega.{arith}
use borrow.Author.Tests.{le-leb, lt-leb}
use lib.Dec.{leb, ltb}
use lib.ListN.{length, get_or}
use Rattle.term.specs.Tables.{rank_bits}
use Rattle.term.specs.Term.{Term, size}
use Rattle.book.specs.Book.{Book, Rule, symbols}
use Rattle.order.specs.Test.{exceeds}
use Rattle.clauses.specs.Cnf.{Assignment}
use Rattle.clauses.specs.Numbering.{bit, G, first_base, base_after, C, D, numbers, rank_below, ranks_of}
use Rattle.clauses.specs.Blocks.{Numbered, subterms}
use Rattle.clauses.proofs.Numbered.{
  bit_symbol,
  bit_place,
  pair_of,
  bits_of,
  first_of,
  second_of,
  left_node,
  right_node,
  is_d,
  bit_within,
  bit_symbol_lem,
  bit_place_lem,
  pair_first,
  pair_second,
  bits_before_rules,
  G_behind_bits,
  G_within,
  G_pair,
  G_bits,
  nodes_number,
  C_number,
  D_number,
  nodes_within,
  nodes_left,
  nodes_right,
  nodes_which,
}
use Rattle.clauses.proofs.Digits.{digit, low_larger, digits_add_up}
use Rattle.clauses.proofs.Mirror.{root_cases}
use Rattle.clauses.proofs.Positions.{subterm_at, node_within, subterm_at_node}

-- The value of a rank bit.
unfoldable pub of_bit : (k : ℕ) (ranks : List ℕ) → Assignment
of_bit k ranks v = digit (get_or ranks (bit_symbol k v) 0) (bit_place k v)

-- The value of a comparison.
unfoldable pub of_pair : (n k : ℕ) (ranks : List ℕ) → Assignment
of_pair n k ranks v = low_larger (get_or ranks (first_of n (pair_of n k v)) 0) (get_or ranks (second_of n (pair_of n k v)) 0) (bits_of n k v)

-- The value of a variable of the rule, its subterms s and t.
unfoldable pub of_nodes : (ranks : List ℕ) (d : Bool) (s t : Term) → Bool
of_nodes ranks true s t = root_cases ranks s t
of_nodes ranks false s t = exceeds ranks s t

unfoldable pub of_rule : (ranks : List ℕ) (base : ℕ) → Rule → Assignment
of_rule ranks base rule v =
    of_nodes ranks (is_d base v) (subterm_at rule.left (left_node base (size rule.right) v))
    (subterm_at rule.right (right_node base (size rule.right) v))

-- The value of a variable behind the base of these rules.
unfoldable pub of_rules : (ranks : List ℕ) (base : ℕ) → List Rule → Assignment
of_rules ranks base [] v = false
of_rules ranks base (rule ∷ rules) v =
    elim (leb v (base_after base rule)) [ true ↦ of_rule ranks base rule v | false ↦ of_rules ranks (base_after base rule) rules v ]

unfoldable pub assigned_to : (n k : ℕ) (ranks : List ℕ) → List Rule → Assignment
assigned_to n k ranks rules v =
    elim (leb v (n * k)) [
      | true ↦ of_bit k ranks v
      | false ↦ elim (leb v (first_base n k)) [ true ↦ of_pair n k ranks v | false ↦ of_rules ranks (first_base n k) rules v ]
    ]

unfoldable pub assigned : Book → (ranks : List ℕ) → Assignment
assigned book ranks = assigned_to (symbols book) (rank_bits (symbols book)) ranks book.rules

module _ (n k : ℕ) (ranks : List ℕ) (rules : List Rule) where
  pub value_of_bit : (f b : ℕ) → f < n → b < k → assigned_to n k ranks rules (bit k f b) ≡ digit (get_or ranks f 0) b
  unfolding assigned_to of_bit
  value_of_bit f b symbol place =
      rw (le-leb (bit k f b) (n * k) (bit_within k f b place n symbol), assigned_to) (rw (bit_symbol_lem k f b place, bit_place_lem k f b place))

  pub value_of_G :
      (f g j : ℕ) → f < n → g < n → f ≢ g → 0 < j → j ≤ k →
      assigned_to n k ranks rules (G n k f g j) ≡ low_larger (get_or ranks f 0) (get_or ranks g 0) j
  unfolding assigned_to of_pair
  value_of_G f g j first second differ low high =
      rw (
        lt-leb (G n k f g j) (n * k) (G_behind_bits n k f g j low high),
        le-leb (G n k f g j) (first_base n k) (G_within n k f g j low high first second differ),
        assigned_to,
      ) (
      rw (
        G_pair n k f g j low high,
        G_bits n k f g j low high,
        pair_first n f g first second differ,
        pair_second n f g first second differ,
      )
      )

  pub value_behind : (v : ℕ) → first_base n k < v → assigned_to n k ranks rules v ≡ of_rules ranks (first_base n k) rules v
  unfolding assigned_to
  value_behind v h =
      let before : n * k < v = lt_of_le_of_lt (bits_before_rules n k) h in
      rw (lt-leb v (n * k) before, lt-leb v (first_base n k) h, assigned_to)

module _ (ranks : List ℕ) (base : ℕ) (rule : Rule) (rules : List Rule) where
  -- The rules behind have their numbers behind this rule's.
  pub value_behind_rule : (v : ℕ) → base_after base rule < v → of_rules ranks base (rule ∷ rules) v ≡ of_rules ranks (base_after base rule) rules v
  unfolding of_rules
  value_behind_rule v h = rw (lt-leb v (base_after base rule) h, of_rules)

  module _ (s t : Numbered) (left : Memᴰ s (subterms 0 rule.left)) (right : Memᴰ t (subterms 0 rule.right)) where
    value_of_nodes :
        (d : ℕ) → d < 2 →
        of_rules ranks base (rule ∷ rules) (nodes_number base (size rule.right) s.node t.node d) ≡ of_nodes ranks (ltb 0 d) s.term t.term
    unfolding of_rules of_rule base_after
    value_of_nodes d one =
        let w = node_within rule.right t right in
        let number = nodes_number base (size rule.right) s.node t.node d in
        let within : number ≤ base_after base rule = nodes_within base (size rule.right) s.node t.node d w one (size rule.left) (node_within rule.left s left) in
        rw (le-leb number (base_after base rule) within, of_rules) (
        rw (
          nodes_which base (size rule.right) s.node t.node d w one,
          nodes_left base (size rule.right) s.node t.node d w one,
          nodes_right base (size rule.right) s.node t.node d w one,
          subterm_at_node rule.left s left,
          subterm_at_node rule.right t right,
        )
        )

    pub value_of_C : of_rules ranks base (rule ∷ rules) (C base (size rule.right) s.node t.node) ≡ exceeds ranks s.term t.term
    unfolding of_nodes
    value_of_C = rw C_number (value_of_nodes 0 (omega arith))

    pub value_of_D : of_rules ranks base (rule ∷ rules) (D base (size rule.right) s.node t.node) ≡ root_cases ranks s.term t.term
    unfolding of_nodes
    value_of_D = rw D_number (value_of_nodes 1 (omega arith))

-- The rank bits of the assignment are the ranks.
ranks_back :
    (k : ℕ) (α : Assignment) (ranks : List ℕ) (first : ℕ) →
    ((i b : ℕ) → i < length ranks → b < k → α (bit k (first + i) b) ≡ digit (get_or ranks i 0) b) →
    ((rank : ℕ) → Memᴰ rank ranks → rank < 2 ^ k) → map (λ f. rank_below k α f k) (numbers first (length ranks)) ≡ ranks
unfolding numbers
ranks_back k α [] first bits fit = refl
ranks_back k α (r ∷ ranks) first bits fit =
    ap₂ ◌∷◌
    (digits_add_up k α first r (λ b p. rw add-zero at (bits 0 b (omega arith) p)) k (le_refl k) ∙ mod-eq_of_lt (fit r (Memᴰ.head refl)))
    (
    ranks_back k α ranks (suc first)
    (λ i b (l : i < length ranks) p. subst (λ (f : ℕ). α (bit k f b) ≡ digit (get_or ranks i 0) b) (omega arith) (bits (suc i) b (omega arith) p))
    (λ rank m. fit rank (Memᴰ.tail m))
    )

pub ranks_of_assigned :
    (book : Book) (ranks : List ℕ) → length ranks ≡ symbols book →
    ((rank : ℕ) → Memᴰ rank ranks → rank < 2 ^ rank_bits (symbols book)) →
    ranks_of (symbols book) (rank_bits (symbols book)) (assigned book ranks) ≡ ranks
unfolding ranks_of assigned
ranks_of_assigned book ranks e fit =
    let n = symbols book in
    let k = rank_bits n in
    ap (λ (count : ℕ). map (λ f. rank_below k (assigned book ranks) f k) (numbers 0 count)) (sym e)
    ∙ ranks_back k (assigned book ranks) ranks 0
    (λ i b (l : i < length ranks) p. rw zero-add (value_of_bit n k ranks book.rules i b (omega arith) p))
    fit
