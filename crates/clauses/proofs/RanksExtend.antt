-- Every table of ranks that fits the bits and clears the book extends to an assignment that its equations hold of: the assignment of
-- the table. Its comparisons agree with the ranks digit by digit, and at every pair of nodes C and D are the order's. Assumes nothing.
use Prim.Native.Nat.{ℕ, zero, suc, ◌^◌, ◌<◌}
use mathlib.Core.Bool.{Bool, true, false}
use mathlib.Core.List.{List, [], ◌∷◌, Memᴰ}
use mathlib.Core.Logic.{◌≢◌}
use mathlib.Core.Path.{◌≡◌, refl, sym, ap, ◌∙◌}
use native.Mathlib.Omega.{arith}
use lib.Dec.{T}
use lib.ListN.{length, get_or}
use Rattle.term.specs.Tables.{rank_bits}
use Rattle.term.specs.Term.{size}
use Rattle.book.specs.Book.{Book, Rule, symbols}
use Rattle.book.specs.Limits.{WithinLimits}
use Rattle.order.specs.Precedence.{Above, above}
use Rattle.order.specs.Test.{exceeds}
use Rattle.order.specs.Clearing.{Decreases, AllDecrease, Clears}
use Rattle.order.proofs.Decides.{exceeds_decides}
use Rattle.clauses.specs.Numbering.{G, first_base, base_after, C, D}
use Rattle.clauses.specs.Blocks.{Numbered, subterms, Setting, CAt, DAt}
use Rattle.clauses.proofs.Equations.{low_bits, PairEquations, NodeEquations, RulesEquations, Equations, no_rule, and_rule}
use Rattle.clauses.proofs.Larger.{G_above_in}
use Rattle.clauses.proofs.Subterms.{itself_within}
use Rattle.clauses.proofs.Mirror.{root_cases, equations_where_agreeing}
use Rattle.clauses.proofs.Digits.{low_larger, larger_none, larger_suc}
use Rattle.clauses.proofs.Assigned.{
  of_rules,
  assigned_to,
  assigned,
  value_of_bit,
  value_of_G,
  value_behind,
  value_behind_rule,
  value_of_C,
  value_of_D,
  ranks_of_assigned,
}

module _ (n k : ℕ) (ranks : List ℕ) (rules : List Rule) where
  low_bits_value :
      (f g b : ℕ) → f < n → g < n → f ≢ g → b < k → low_bits n k (assigned_to n k ranks rules) f g b ≡ low_larger (get_or ranks f 0) (get_or ranks g 0) b
  unfolding low_bits
  low_bits_value f g zero first second differ h = sym (larger_none (get_or ranks f 0) (get_or ranks g 0))
  low_bits_value f g (suc b) first second differ h = value_of_G n k ranks rules f g (suc b) first second differ (omega arith) (omega arith)

  pairs_hold : PairEquations n k (assigned_to n k ranks rules)
  pairs_hold =
      record {
        larger =
            λ f g b first second differ (h : b < k).
            rw (
              value_of_G n k ranks rules f g (suc b) first second differ (omega arith) (omega arith),
              value_of_bit n k ranks rules f b first h,
              value_of_bit n k ranks rules g b second h,
              low_bits_value f g b first second differ h,
            )
            (larger_suc (get_or ranks f 0) (get_or ranks g 0) b);
      }

passes : (b : Bool) → T b → b ≡ true
passes true h = refl
passes false h = absurd h

module _
    (book : Book)
    (limits : WithinLimits book)
    (ranks : List ℕ)
    (many : length ranks ≡ symbols book)
    (fit : (rank : ℕ) → Memᴰ rank ranks → rank < 2 ^ rank_bits (symbols book))
    (clears : Clears (Above ranks) book.rules) where
  compared :
      (f g : ℕ) → f < symbols book → g < symbols book → f ≢ g →
      assigned book ranks (G (symbols book) (rank_bits (symbols book)) f g (rank_bits (symbols book))) ≡ above ranks f g
  unfolding assigned
  compared f g first second differ =
      G_above_in book limits (assigned book ranks) (pairs_hold (symbols book) (rank_bits (symbols book)) ranks book.rules) f g first second differ
      ∙ ap (λ (rs : List ℕ). above rs f g) (ranks_of_assigned book ranks many fit)

  -- The rules from a base on, where the assignment is theirs behind it.
  rules_hold :
      (base : ℕ) (rules : List Rule) → ((v : ℕ) → base < v → assigned book ranks v ≡ of_rules ranks base rules v) →
      ((rule : Rule) → Memᴰ rule rules → Memᴰ rule book.rules) →
      RulesEquations (symbols book) (rank_bits (symbols book)) (assigned book ranks) base rules
  unfolding CAt DAt C D base_after symbols AllDecrease Decreases
  rules_hold base [] values listed = no_rule
  rules_hold base (rule ∷ rules) values listed =
      and_rule (record { decreases = decreasing; nodes = nodes })
      (rules_hold (base_after base rule) rules behind (λ other m. listed other (Memᴰ.tail m)))
    where
      c : Setting
      c = record { n = symbols book; k = rank_bits (symbols book); base = base; width = size rule.right }

      here : Memᴰ rule book.rules
      here = listed rule (Memᴰ.head refl)

      behind : (v : ℕ) → base_after base rule < v → assigned book ranks v ≡ of_rules ranks (base_after base rule) rules v
      behind v h = values v (omega arith) ∙ value_behind_rule ranks base rule rules v h

      wholes :
          (s t : Numbered) → Memᴰ s (subterms 0 rule.left) → Memᴰ t (subterms 0 rule.right) →
          assigned book ranks (C base (size rule.right) s.node t.node) ≡ exceeds ranks s.term t.term
      wholes s t in_left in_right =
          values (C base (size rule.right) s.node t.node) (omega arith) ∙ value_of_C ranks base rule rules s t in_left in_right

      roots :
          (s t : Numbered) → Memᴰ s (subterms 0 rule.left) → Memᴰ t (subterms 0 rule.right) →
          assigned book ranks (D base (size rule.right) s.node t.node) ≡ root_cases ranks s.term t.term
      roots s t in_left in_right =
          values (D base (size rule.right) s.node t.node) (omega arith) ∙ value_of_D ranks base rule rules s t in_left in_right

      nodes : (s t : Numbered) → Memᴰ s (subterms 0 rule.left) → Memᴰ t (subterms 0 rule.right) → NodeEquations c (assigned book ranks) s t
      nodes =
          equations_where_agreeing c (assigned book ranks) ranks book.arities compared rule.left rule.right
          (limits.left rule here).over_symbols (limits.right rule here).over_symbols wholes roots

      decreasing : assigned book ranks (C base (size rule.right) 0 0) ≡ true
      decreasing =
          wholes (record { node = 0; term = rule.left }) (record { node = 0; term = rule.right })
          (itself_within 0 rule.left) (itself_within 0 rule.right)
          ∙ passes (exceeds ranks rule.left rule.right) ((exceeds_decides ranks rule.left rule.right).1 (clears rule here))

pub clearing_satisfies :
    (book : Book) → WithinLimits book → (ranks : List ℕ) → length ranks ≡ symbols book →
    ((rank : ℕ) → Memᴰ rank ranks → rank < 2 ^ rank_bits (symbols book)) → Clears (Above ranks) book.rules →
    Equations book (assigned book ranks)
unfolding assigned
clearing_satisfies book limits ranks many fit clears =
    record {
      pairs = pairs_hold (symbols book) (rank_bits (symbols book)) ranks book.rules;
      rules =
          rules_hold book limits ranks many fit clears (first_base (symbols book) (rank_bits (symbols book))) book.rules
          (value_behind (symbols book) (rank_bits (symbols book)) ranks book.rules)
          (λ rule m. m);
    }
