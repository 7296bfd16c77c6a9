-- A book within its limits has fewer than 10^7 clauses: at most 480 a block, 256 blocks of pairs, 101 blocks a rule. (A rough bound,
-- for the header's length.) Assumes nothing.
use Prim.Native.Nat.{ℕ, suc, ◌*◌, ◌^◌, ◌≤◌, ◌<◌}
use mathlib.Core.Bool.{Bool, true, false}
use mathlib.Core.List.{List, [], ◌∷◌, map, flat_map, flatten}
use mathlib.Core.Path.{◌≡◌, refl}
use native.Mathlib.Nat.{mul-le-mul, suc-mul}
use native.Mathlib.Omega.{arith}
use lib.Dec.{eqb}
use lib.ListN.{length, length-append, length-map}
use Rattle.reply.proofs.Every.{Every, every_implied, every_of_members}
use Rattle.term.specs.Tables.{rank_bits}
use Rattle.term.specs.Term.{size}
use Rattle.book.specs.Book.{Book, Rule, symbols}
use Rattle.book.specs.Limits.{WithinLimits}
use Rattle.clauses.specs.Cnf.{Clause}
use Rattle.clauses.specs.Numbering.{first_base, base_after, numbers}
use Rattle.clauses.specs.Blocks.{pair_blocks_of, pair_blocks, subterms, Setting, node_block, rule_blocks, rules_blocks, blocks}
use Rattle.clauses.proofs.Lists.{numbers_length}
use Rattle.clauses.proofs.Inside.{subterms_counted}
use Rattle.clauses.proofs.EachBlock.{setting}
use Rattle.clauses.proofs.Weights.{weight, block_weights}

-- Both sides of a rule have at most 10 nodes.
pub record Small (rule : Rule) : Type 0 where
  pub left : size rule.left ≤ 10
  pub right : size rule.right ≤ 10

pub small_rules : (book : Book) → WithinLimits book → Every Small book.rules
small_rules book limits =
    every_of_members Small book.rules (λ rule m. record { left = (limits.left rule m).nodes; right = (limits.right rule m).nodes })

-- Lists one after another, each of at most m elements.
flatten_length : {A : Type 0} (m : ℕ) (ls : List (List A)) → Every (λ l. length l ≤ m) ls → length (flatten ls) ≤ length ls * m
unfolding flatten
flatten_length m [] h = omega arith
flatten_length m (l ∷ ls) h = rw (length-append, suc-mul) (omega (arith, flatten_length m ls h.1))

flat_map_length : {A B : Type 0} (f : A → List B) (m : ℕ) → ((x : A) → length (f x) ≤ m) → (l : List A) → length (flat_map f l) ≤ length l * m
unfolding flat_map
flat_map_length f m h [] = omega arith
flat_map_length f m h (x ∷ xs) = rw (length-append, suc-mul) (omega (arith, h x, flat_map_length f m h xs))

pair_blocks_of_counted : (n k f : ℕ) (others : List ℕ) → length (pair_blocks_of n k f others) ≤ length others
unfolding pair_blocks_of
pair_blocks_of_counted n k f [] = omega arith
pair_blocks_of_counted n k f (g ∷ others) = go (eqb f g) refl (pair_blocks_of_counted n k f others)
  where
    go : (t : Bool) → eqb f g ≡ t → length (pair_blocks_of n k f others) ≤ length others → length (pair_blocks_of n k f (g ∷ others)) ≤ suc (length others)
    go true e later = rw (e, pair_blocks_of) (omega arith)
    go false e later = rw (e, pair_blocks_of) (omega arith)

pair_blocks_counted : (n k : ℕ) → length (pair_blocks n k) ≤ n * n
unfolding pair_blocks
pair_blocks_counted n k =
    rw numbers_length at
    (flat_map_length (λ f. pair_blocks_of n k f (numbers 0 n)) n
    (λ f. omega (arith, pair_blocks_of_counted n k f (numbers 0 n), numbers_length 0 n)) (numbers 0 n))

rule_blocks_counted : (c : Setting) (rule : Rule) → Small rule → length (rule_blocks c rule) ≤ 101
unfolding rule_blocks
rule_blocks_counted c rule small = omega (arith, two, mul-le-mul small.left small.right)
  where
    two :
        length (flat_map (λ s. map (λ t. node_block c s t) (subterms 0 rule.right)) (subterms 0 rule.left))
        ≤ size rule.left * size rule.right
    two =
        rw (subterms_counted rule.left 0) at
        (flat_map_length (λ s. map (λ t. node_block c s t) (subterms 0 rule.right)) (size rule.right)
        (λ s. omega (arith, length-map (subterms 0 rule.right) (λ t. node_block c s t), subterms_counted rule.right 0)) (subterms 0 rule.left))

rules_blocks_counted : (n k base : ℕ) (rules : List Rule) → Every Small rules → length (rules_blocks n k base rules) ≤ 101 * length rules
unfolding rules_blocks
rules_blocks_counted n k base [] small = omega arith
rules_blocks_counted n k base (rule ∷ rules) small =
    rw length-append (omega (arith, rule_blocks_counted (setting n k base rule) rule small.0, rules_blocks_counted n k (base_after base rule) rules small.1))

pub blocks_counted : (book : Book) → WithinLimits book → length (blocks book) ≤ 3488
unfolding blocks
blocks_counted book limits =
    rw length-append
    (omega (
      arith,
      pair_blocks_counted (symbols book) (rank_bits (symbols book)),
      mul-le-mul limits.symbol_count limits.symbol_count,
      rules_blocks_counted (symbols book) (rank_bits (symbols book)) (first_base (symbols book) (rank_bits (symbols book))) book.rules (small_rules book limits),
      limits.rule_count,
    ))

-- A clause weighs two at least.
clauses_weigh : (b : List Clause) → length b ≤ weight b
clauses_weigh [] = omega arith
clauses_weigh (c ∷ cs) = omega (arith, clauses_weigh cs)

pub clauses_at_most : (book : Book) → WithinLimits book → length (flatten (blocks book)) < 10 ^ 7
clauses_at_most book limits =
    omega (
      arith,
      flatten_length 480 (blocks book)
          (every_implied (λ b. weight b ≤ 480) (λ b. length b ≤ 480) (λ b h. omega (arith, h, clauses_weigh b)) (blocks book) (block_weights book limits)),
      blocks_counted book limits,
    )
