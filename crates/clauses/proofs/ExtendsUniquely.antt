-- The rank bits determine a satisfying assignment: on the numbers 1 to V, which are all of one kind or another, it is the assignment of
-- the ranks that its bits are. So two that have the same rank bits agree there. Assumes nothing.
use Prim.Native.Nat.{ℕ, suc, ◌+◌, ◌*◌, ◌%◌, ◌^◌, ◌≤◌, ◌<◌}
use mathlib.Core.Bool.{Bool, true, false, cond}
use mathlib.Core.List.{List, ◌∷◌, Memᴰ}
use mathlib.Core.Logic.{◌≢◌}
use mathlib.Core.Path.{◌≡◌, refl, sym, ap, ap₂, subst, ◌∙◌}
use native.Mathlib.Omega.{arith}
use borrow.Author.Tests.{leb-true, leb-false}
use lib.Dec.{T, leb, ltb}
use lib.ListN.{length, get_or}
use Rattle.term.specs.Tables.{rank_bits}
use Rattle.term.specs.Term.{size, over}
use Rattle.book.specs.Book.{Book, Rule, symbols}
use Rattle.book.specs.Limits.{WithinLimits}
use Rattle.order.specs.Precedence.{above}
use Rattle.clauses.specs.Cnf.{Assignment}
use Rattle.clauses.specs.Numbering.{bit, G, first_base, base_after, ranks_of, rank_below}
use Rattle.clauses.specs.Blocks.{Numbered, subterms, Setting, CAt, DAt, base_behind, «V»}
use Rattle.clauses.proofs.Equations.{PairEquations, RuleEquations, RulesEquations, no_rule, and_rule, Equations}
use Rattle.clauses.proofs.Numbered.{bit_symbol, bit_place, pair_of, bits_of, first_of, second_of, left_node, right_node, is_d, nodes_number, C_number, D_number}
use Rattle.clauses.proofs.EveryNumber.{
  symbol_within,
  place_within,
  bit_back,
  first_within,
  second_within,
  pair_differs,
  bits_some,
  bits_within,
  G_back,
  left_within,
  right_within,
  nodes_back,
}
use Rattle.clauses.proofs.Positions.{subterm_at, node_listed}
use Rattle.clauses.proofs.Digits.{digit, low_larger, low_rank, bit_is_digit}
use Rattle.clauses.proofs.Larger.{rank_of, G_larger, G_above_in}
use Rattle.clauses.proofs.Mirror.{root_cases, AgreesAt, agrees_below}
use Rattle.clauses.proofs.RankBitsClear.{root_agreeing, agreeing}
use Rattle.clauses.proofs.Assigned.{
  of_nodes,
  of_rule,
  of_rules,
  assigned_to,
  assigned,
  value_of_bit,
  value_of_G,
  value_behind,
}

module _ (n k : ℕ) (α : Assignment) (rules : List Rule) where
  -- The assignment is that of the ranks that its bits are.
  Determined : ℕ → Type 0
  Determined v = α v ≡ assigned_to n k (ranks_of n k α) rules v

  bit_determined : (f b : ℕ) → f < n → b < k → Determined (bit k f b)
  unfolding Determined
  bit_determined f b symbol place =
      bit_is_digit k α f b place
      ∙ ap (λ (r : ℕ). digit r b) (sym (rank_of n k α f symbol))
      ∙ sym (value_of_bit n k (ranks_of n k α) rules f b symbol place)

  G_determined :
      PairEquations n k α → (f g j : ℕ) → f < n → g < n → f ≢ g → 0 < j → j ≤ k → Determined (G n k f g j)
  unfolding Determined low_larger
  G_determined pairs f g j first second differ low high =
      G_larger n k α pairs f g j first second differ low high
      ∙ ap₂ ltb (digits g second) (digits f first)
      ∙ sym (value_of_G n k (ranks_of n k α) rules f g j first second differ low high)
    where
      digits : (h : ℕ) → h < n → rank_below k α h j ≡ get_or (ranks_of n k α) h 0 % 2 ^ j
      digits h symbol = low_rank k α h j high ∙ ap (λ (r : ℕ). r % 2 ^ j) (sym (rank_of n k α h symbol))

  before_rules_lem : PairEquations n k α → (v : ℕ) → 0 < v → v ≤ first_base n k → Determined v
  before_rules_lem pairs v counted within = go (leb v (n * k)) refl
    where
      go : (b : Bool) → leb v (n * k) ≡ b → Determined v
      go true e =
          let low = leb-true v (n * k) e in
          subst Determined (bit_back n k v counted low)
          (bit_determined (bit_symbol k v) (bit_place k v) (symbol_within n k v counted low) (place_within n k v counted low))
      go false e =
          let behind = leb-false v (n * k) e in
          let p = pair_of n k v in
          subst Determined (G_back n k v behind within)
          (G_determined pairs (first_of n p) (second_of n p) (bits_of n k v) (first_within n k v behind within) (second_within n k v behind within)
          (pair_differs n k v behind within) (bits_some n k v behind within) (bits_within n k v behind within))

-- What the variables of the rule with this base share.
abbrev setting_at : (n k base : ℕ) → Rule → Setting
setting_at n k base rule = record { n = n; k = k; base = base; width = size rule.right }

module _ (n k : ℕ) (α : Assignment) (ranks arities : List ℕ)
    (compared : (f g : ℕ) → f < length arities → g < length arities → f ≢ g → α (G n k f g k) ≡ above ranks f g) where
  module _ (base : ℕ) (rule : Rule) (left : T (over arities rule.left)) (right : T (over arities rule.right))
      (equations : RuleEquations (setting_at n k base rule) α rule) where
    wholes :
        (s t : Numbered) → Memᴰ s (subterms 0 rule.left) → Memᴰ t (subterms 0 rule.right) →
        AgreesAt (setting_at n k base rule) α ranks s t
    wholes s t ms mt =
        let bound = suc (size s.term + size t.term) in
        agreeing (setting_at n k base rule) α ranks arities compared rule left right equations bound s t ms mt (omega arith)

    roots :
        (s t : Numbered) → Memᴰ s (subterms 0 rule.left) → Memᴰ t (subterms 0 rule.right) →
        α (DAt (setting_at n k base rule) s.node t.node) ≡ root_cases ranks s.term t.term
    roots s t ms mt =
        root_agreeing (setting_at n k base rule) α ranks arities compared rule left right equations s t ms mt
        (agrees_below (setting_at n k base rule) α ranks rule.left rule.right s t ms mt (λ a b ma mb smaller. wholes a b ma mb))

    nodes_determined :
        (u v : ℕ) → u < size rule.left → v < size rule.right → (d : Bool) →
        α (nodes_number base (size rule.right) u v (cond d 1 0)) ≡ of_nodes ranks d (subterm_at rule.left u) (subterm_at rule.right v)
    unfolding CAt DAt of_nodes
    nodes_determined u v in_left in_right true =
        rw (← D_number) (roots (record { node = u; term = subterm_at rule.left u }) (record { node = v; term = subterm_at rule.right v })
        (node_listed rule.left u in_left) (node_listed rule.right v in_right))
    nodes_determined u v in_left in_right false =
        rw (← C_number) (wholes (record { node = u; term = subterm_at rule.left u }) (record { node = v; term = subterm_at rule.right v })
        (node_listed rule.left u in_left) (node_listed rule.right v in_right))

    rule_determined : (v : ℕ) → base < v → v ≤ base_after base rule → α v ≡ of_rule ranks base rule v
    unfolding of_rule base_after
    rule_determined v behind within =
        let l = size rule.left in
        let w = size rule.right in
        subst (λ (x : ℕ). α x ≡ of_rule ranks base rule v) (nodes_back base l w v behind within (is_d base v) refl)
        (nodes_determined (left_node base w v) (right_node base w v) (left_within base l w v behind within) (right_within base l w v behind within) (is_d base v))

  rules_determined :
      {base : ℕ} {rules : List Rule} → RulesEquations n k α base rules →
      ((rule : Rule) → Memᴰ rule rules → T (over arities rule.left) × T (over arities rule.right)) →
      (v : ℕ) → base < v → v ≤ base_behind base rules → α v ≡ of_rules ranks base rules v
  unfolding of_rules base_behind
  rules_determined no_rule sides v behind within = absurd (omega arith)
  rules_determined (and_rule {base = base} {rule = rule} {rules = rules} first rest) sides v behind within =
      go (leb v (base_after base rule)) refl (λ h. rules_determined rest (λ r m. sides r (Memᴰ.tail m)) v h within)
    where
      go :
          (b : Bool) → leb v (base_after base rule) ≡ b → (base_after base rule < v → α v ≡ of_rules ranks (base_after base rule) rules v) →
          α v ≡ of_rules ranks base (rule ∷ rules) v
      go true e later =
          rw (e, of_rules)
          (rule_determined base rule (sides rule (Memᴰ.head refl)).0 (sides rule (Memᴰ.head refl)).1 first v behind (leb-true v (base_after base rule) e))
      go false e later = rw (e, of_rules) (later (leb-false v (base_after base rule) e))

module _ (book : Book) (limits : WithinLimits book) (α : Assignment) (equations : Equations book α) where
  pub determined : (v : ℕ) → 0 < v → v ≤ «V» book → α v ≡ assigned book (ranks_of (symbols book) (rank_bits (symbols book)) α) v
  unfolding Determined assigned «V» symbols
  determined v counted within = go (leb v (first_base n k)) refl
    where
      n : ℕ
      n = symbols book

      k : ℕ
      k = rank_bits n

      go : (b : Bool) → leb v (first_base n k) ≡ b → Determined n k α book.rules v
      go true e = before_rules_lem n k α book.rules equations.pairs v counted (leb-true v (first_base n k) e)
      go false e =
          let behind = leb-false v (first_base n k) e in
          rules_determined n k α (ranks_of n k α) book.arities (G_above_in book limits α equations.pairs) equations.rules
          (λ rule m. ((limits.left rule m).over_symbols, (limits.right rule m).over_symbols)) v behind within
          ∙ sym (value_behind n k (ranks_of n k α) book.rules v behind)

pub extends_uniquely :
    (book : Book) → WithinLimits book → (α β : Assignment) → Equations book α → Equations book β →
    ranks_of (symbols book) (rank_bits (symbols book)) α ≡ ranks_of (symbols book) (rank_bits (symbols book)) β →
    (v : ℕ) → 0 < v → v ≤ «V» book → α v ≡ β v
extends_uniquely book limits α β ofα ofβ same v counted within =
    determined book limits α ofα v counted within
    ∙ ap (λ (ranks : List ℕ). assigned book ranks v) same
    ∙ sym (determined book limits β ofβ v counted within)
