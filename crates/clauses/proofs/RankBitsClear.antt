-- The rank bits of a satisfying assignment are ranks that clear the book: by induction on the sizes of both sides together, C is the
-- order's test at all pairs of a rule's subterms, and the rule's first block says that it is true at the roots. Assumes nothing.
use Prim.Native.Nat.{ℕ, zero, suc, ◌+◌, ◌<◌}
use mathlib.Core.List.{List, Memᴰ}
use mathlib.Core.Logic.{◌≢◌}
use mathlib.Core.Path.{◌≡◌, refl, sym, ◌∙◌}
use native.Mathlib.Omega.{arith}
use lib.Dec.{T}
use lib.ListN.{length}
use Rattle.term.specs.Tables.{rank_bits}
use Rattle.term.specs.Term.{size, over}
use Rattle.book.specs.Book.{Book, Rule, symbols}
use Rattle.book.specs.Limits.{WithinLimits}
use Rattle.order.specs.Precedence.{Above, above}
use Rattle.order.specs.Exceeds.{Exceeds}
use Rattle.order.specs.Clearing.{Decreases, Clears}
use Rattle.order.proofs.Decides.{exceeds_decides}
use Rattle.order.proofs.Checked.{all_none, all_first}
use Rattle.clauses.specs.Cnf.{Assignment}
use Rattle.clauses.specs.Numbering.{G, ranks_of}
use Rattle.clauses.specs.Blocks.{Numbered, subterms, Setting, DAt}
use Rattle.clauses.proofs.Equations.{RuleEquations, RulesEquations, no_rule, and_rule, Equations}
use Rattle.clauses.proofs.Larger.{G_above_in}
use Rattle.clauses.proofs.Mirror.{root_cases, AgreesAt, AgreesBelow, root_mirrored, whole_mirrored, agrees_below}
use Rattle.clauses.proofs.Subterms.{itself_within, subterm_over}

module _ (c : Setting) (α : Assignment) (ranks arities : List ℕ)
    (compared : (f g : ℕ) → f < length arities → g < length arities → f ≢ g → α (G c.n c.k f g c.k) ≡ above ranks f g)
    (rule : Rule) (left : T (over arities rule.left)) (right : T (over arities rule.right)) (equations : RuleEquations c α rule) where
  pub root_agreeing :
      (s t : Numbered) → Memᴰ s (subterms 0 rule.left) → Memᴰ t (subterms 0 rule.right) → AgreesBelow c α ranks s t →
      α (DAt c s.node t.node) ≡ root_cases ranks s.term t.term
  root_agreeing s t ms mt below =
      (equations.nodes s t ms mt).root
      ∙ root_mirrored c α ranks arities compared s t (subterm_over arities s rule.left 0 left ms) (subterm_over arities t rule.right 0 right mt) below

  agreeing_at :
      (s t : Numbered) → Memᴰ s (subterms 0 rule.left) → Memᴰ t (subterms 0 rule.right) → AgreesBelow c α ranks s t → AgreesAt c α ranks s t
  agreeing_at s t ms mt below =
      (equations.nodes s t ms mt).whole ∙ sym (whole_mirrored c α ranks s t below (root_agreeing s t ms mt below))

  -- C agrees with the order at all pairs of the rule's subterms; `bound` is above the sizes of both together.
  pub agreeing :
      (bound : ℕ) (s t : Numbered) → Memᴰ s (subterms 0 rule.left) → Memᴰ t (subterms 0 rule.right) →
      size s.term + size t.term < bound → AgreesAt c α ranks s t
  agreeing zero s t ms mt small = absurd (omega arith)
  agreeing (suc bound) s t ms mt small =
      agreeing_at s t ms mt (
      agrees_below c α ranks rule.left rule.right s t ms mt
      (λ a b ma mb (smaller : size a.term + size b.term < size s.term + size t.term). agreeing bound a b ma mb (omega arith))
      )

  rule_decreases : Decreases (Exceeds (Above ranks)) rule
  unfolding Decreases
  rule_decreases =
      let l : Numbered = record { node = 0; term = rule.left } in
      let r : Numbered = record { node = 0; term = rule.right } in
      let bound = suc (size rule.left + size rule.right) in
      let agreed = agreeing bound l r (itself_within 0 rule.left) (itself_within 0 rule.right) (omega arith) in
      (exceeds_decides ranks rule.left rule.right).0 (rw (← agreed, equations.decreases) tt)

module _ (n k : ℕ) (α : Assignment) (ranks arities : List ℕ)
    (compared : (f g : ℕ) → f < length arities → g < length arities → f ≢ g → α (G n k f g k) ≡ above ranks f g) where
  rules_clear :
      {base : ℕ} {rules : List Rule} → RulesEquations n k α base rules →
      ((rule : Rule) → Memᴰ rule rules → T (over arities rule.left) × T (over arities rule.right)) → Clears (Above ranks) rules
  rules_clear no_rule sides = all_none (Exceeds (Above ranks))
  rules_clear (and_rule {base = base} {rule = rule} {rules = rules} first rest) sides =
      (all_first (Exceeds (Above ranks)) rule rules).1 (
        rule_decreases (record { n = n; k = k; base = base; width = size rule.right }) α ranks arities compared rule
            (sides rule (Memᴰ.head refl)).0 (sides rule (Memᴰ.head refl)).1 first,
        rules_clear rest (λ r m. sides r (Memᴰ.tail m)),
      )

pub satisfying_clears :
    (book : Book) → WithinLimits book → (α : Assignment) → Equations book α →
    Clears (Above (ranks_of (symbols book) (rank_bits (symbols book)) α)) book.rules
unfolding symbols
satisfying_clears book limits α equations =
    rules_clear n k α (ranks_of n k α) book.arities (G_above_in book limits α equations.pairs) equations.rules
    (λ rule m. ((limits.left rule m).over_symbols, (limits.right rule m).over_symbols))
  where
    n : ℕ
    n = symbols book

    k : ℕ
    k = rank_bits n
