-- The clauses of a book hold exactly if its equations do: a block says that a whole is true exactly if all, or some, of its parts are.
-- Assumes nothing.
use Prim.Native.Nat.{ℕ}
use mathlib.Core.Bool.{Bool, true, false, ◌||◌}
use mathlib.Core.List.{List, [], ◌∷◌, map, flat_map, flatten, Memᴰ}
use mathlib.Core.Logic.{◌↔◌}
use mathlib.Core.Path.{◌≡◌, refl}
use lib.Dec.{T}
use Rattle.term.specs.Tables.{rank_bits}
use Rattle.term.specs.Term.{size}
use Rattle.book.specs.Book.{Book, Rule, symbols}
use Rattle.clauses.specs.Cnf.{is, Clause, Assignment, all_hold}
use Rattle.clauses.specs.Numbering.{first_base, base_after}
use Rattle.clauses.specs.Blocks.{pair_blocks, Numbered, subterms, Setting, CAt, DAt, parts_of_d, parts_of_c, some_identical, node_block, rule_blocks, rules_blocks, blocks, clauses_of_c}
use Rattle.clauses.specs.Wholes.{all_parts, some_parts}
use Rattle.clauses.proofs.Equations.{
  every_true,
  some_true,
  PairEquations,
  NodeEquations,
  RuleEquations,
  RulesEquations,
  no_rule,
  and_rule,
  Equations,
}
use Rattle.clauses.proofs.ClauseLists.{by_members, all_hold_append, clauses_both, blocks_hold_append, blocks_both}
use Rattle.clauses.proofs.PairsSatisfied.{pairs_exactly}
use Rattle.clauses.proofs.Wholes.{all_parts_exactly, some_parts_exactly, unit_exactly}

-- D's equation, and C's by whether some argument is identical.
node_exactly : (c : Setting) (α : Assignment) (s t : Numbered) → T (all_hold α (node_block c s t)) ↔ NodeEquations c α s t
unfolding node_block clauses_of_c
node_exactly c α s t =
    let e = split (some_identical s.term t.term) refl in
    (λ h. record { root = (e.0 h).0; whole = (e.0 h).1 }, λ h. e.1 (h.root, h.whole))
  where
    Whole : Bool → Type 0
    Whole identical = α (CAt c s.node t.node) ≡ (identical || some_true α (parts_of_c c s.node t.node s.term))

    parts : List ℕ
    parts = parts_of_d c s.node t.node s.term t.term

    root : List Clause
    root = all_parts (DAt c s.node t.node) parts

    split :
        (identical : Bool) → some_identical s.term t.term ≡ identical →
        T (all_hold α (node_block c s t)) ↔ ((α (DAt c s.node t.node) ≡ every_true α parts) × Whole identical)
    split true e =
        rw (node_block, clauses_of_c, e)
        (clauses_both α root ((is (CAt c s.node t.node) ∷ []) ∷ [])
        (all_parts_exactly α (DAt c s.node t.node) parts)
        (unit_exactly α (CAt c s.node t.node)))
    split false e =
        rw (node_block, clauses_of_c, e)
        (clauses_both α root (some_parts (CAt c s.node t.node) (parts_of_c c s.node t.node s.term))
        (all_parts_exactly α (DAt c s.node t.node) parts)
        (some_parts_exactly α (CAt c s.node t.node) (parts_of_c c s.node t.node s.term)))

rule_exactly : (c : Setting) (α : Assignment) (rule : Rule) → T (all_hold α (flatten (rule_blocks c rule))) ↔ RuleEquations c α rule
unfolding rule_blocks flatten flat_map all_hold
rule_exactly c α rule =
    let e = clauses_both α ((is (CAt c 0 0) ∷ []) ∷ []) (flatten (flat_map row (subterms 0 rule.left))) (unit_exactly α (CAt c 0 0)) rows in (
      λ h. record { decreases = (e.0 h).0; nodes = λ s t ms mt. (node_exactly c α s t).0 ((columns s).0 ((e.0 h).1 s ms) t mt) },
      λ h. e.1 (h.decreases, λ s ms. (columns s).1 (λ t mt. (node_exactly c α s t).1 (h.nodes s t ms mt))),
    )
  where
    row : Numbered → List (List Clause)
    row s = map (λ t. node_block c s t) (subterms 0 rule.right)

    rows :
        T (all_hold α (flatten (flat_map row (subterms 0 rule.left))))
        ↔ ((s : Numbered) → Memᴰ s (subterms 0 rule.left) → T (all_hold α (flatten (row s))))
    rows =
        by_members
        (λ s. all_hold α (flatten (row s)))
        (λ ss. all_hold α (flatten (flat_map row ss)))
        refl
        (λ s ss. blocks_hold_append α (row s) (flat_map row ss))
        (subterms 0 rule.left)

    columns :
        (s : Numbered) →
        T (all_hold α (flatten (row s))) ↔ ((t : Numbered) → Memᴰ t (subterms 0 rule.right) → T (all_hold α (node_block c s t)))
    columns s =
        by_members
        (λ t. all_hold α (node_block c s t))
        (λ ts. all_hold α (flatten (map (λ t. node_block c s t) ts)))
        refl
        (λ t ts. all_hold_append α (node_block c s t) (flatten (map (λ t. node_block c s t) ts)))
        (subterms 0 rule.right)

rules_exactly :
    (n k : ℕ) (α : Assignment) (base : ℕ) (rules : List Rule) → T (all_hold α (flatten (rules_blocks n k base rules))) ↔ RulesEquations n k α base rules
unfolding rules_blocks flatten all_hold
rules_exactly n k α base [] = (λ h. no_rule, λ h. tt)
rules_exactly n k α base (rule ∷ rules) =
    let c : Setting = record { n = n; k = k; base = base; width = size rule.right } in
    let rest = rules_exactly n k α (base_after base rule) rules in
    let e = blocks_both α (rule_blocks c rule) (rules_blocks n k (base_after base rule) rules) (rule_exactly c α rule) rest in
    (λ h. and_rule (e.0 h).0 (e.0 h).1, λ h. e.1 (head_of h))
  where
    head_of :
        RulesEquations n k α base (rule ∷ rules) →
        RuleEquations (record { n = n; k = k; base = base; width = size rule.right }) α rule × RulesEquations n k α (base_after base rule) rules
    head_of (and_rule one rest) = (one, rest)

pub satisfied_exactly : (book : Book) (α : Assignment) → T (all_hold α (flatten (blocks book))) ↔ Equations book α
unfolding blocks
satisfied_exactly book α = (λ h. record { pairs = (e.0 h).0; rules = (e.0 h).1 }, λ h. e.1 (h.pairs, h.rules))
  where
    n : ℕ
    n = symbols book

    k : ℕ
    k = rank_bits n

    e : T (all_hold α (flatten (blocks book))) ↔ (PairEquations n k α × RulesEquations n k α (first_base n k) book.rules)
    e =
        blocks_both α (pair_blocks n k) (rules_blocks n k (first_base n k) book.rules)
        (pairs_exactly n k α)
        (rules_exactly n k α (first_base n k) book.rules)
