-- What holds of the three kinds of blocks (a pair's, a rule's first, a rule's at two nodes) holds of every block of a book.
-- Assumes nothing.
use Prim.Native.Nat.{ℕ, ◌≤◌, ◌<◌}
use mathlib.Core.Bool.{Bool, true, false}
use mathlib.Core.List.{List, [], ◌∷◌, map, flat_map}
use mathlib.Core.Logic.{◌≢◌}
use mathlib.Core.Path.{◌≡◌, refl}
use native.Mathlib.Omega.{arith}
use lib.Dec.{T, eqb}
use lib.ListN.{length}
use Rattle.reply.proofs.Every.{Every, every_append, every_of_members, every_map, every_flat_map}
use Rattle.reply.proofs.Tests.{differ}
use Rattle.term.specs.Tables.{rank_bits}
use Rattle.term.specs.Term.{size, over}
use Rattle.book.specs.Book.{Book, Rule, symbols}
use Rattle.book.specs.Limits.{WithinLimits}
use Rattle.clauses.specs.Cnf.{is, Clause}
use Rattle.clauses.specs.Numbering.{first_base, base_after, numbers}
use Rattle.clauses.specs.Blocks.{pair_block, pair_blocks_of, pair_blocks, Numbered, subterms, Setting, CAt, node_block, rule_blocks, rules_blocks, blocks, base_behind, «V»}
use Rattle.clauses.proofs.ClauseLists.{numbers_below}
use Rattle.clauses.proofs.Numbers.{base_grows}
use Rattle.clauses.proofs.Inside.{Inside, subterms_inside}

-- The setting of a rule's blocks in a book.
abbrev pub setting : (n k base : ℕ) → Rule → Setting
setting n k base rule = record { n = n; k = k; base = base; width = size rule.right }

-- The property P at each kind of block; rules end before the base `top`.
pub record Kinds (arities : List ℕ) (k top : ℕ) (P : List Clause → Type 0) : Type 0 where
  pub pair : (f g : ℕ) → f < length arities → g < length arities → f ≢ g → P (pair_block (length arities) k f g)
  pub root : (base : ℕ) (rule : Rule) → base_after base rule ≤ top → P ((is (CAt (setting (length arities) k base rule) 0 0) ∷ []) ∷ [])
  pub nodes :
      (base : ℕ) (rule : Rule) → base_after base rule ≤ top →
      (s t : Numbered) → Inside arities (size rule.left) s → Inside arities (size rule.right) t →
      P (node_block (setting (length arities) k base rule) s t)

-- Both sides of a rule are terms over the arities.
record Sides (arities : List ℕ) (rule : Rule) : Type 0 where
  left : T (over arities rule.left)
  right : T (over arities rule.right)

module _ (arities : List ℕ) (k top : ℕ) (P : List Clause → Type 0) (kinds : Kinds arities k top P) where
  each_pair_of :
      (f : ℕ) → f < length arities → (others : List ℕ) → Every (λ g. g < length arities) others →
      Every P (pair_blocks_of (length arities) k f others)
  unfolding pair_blocks_of
  each_pair_of f hf [] hs = tt
  each_pair_of f hf (g ∷ others) hs = go (eqb f g) refl (each_pair_of f hf others hs.1)
    where
      go : (t : Bool) → eqb f g ≡ t → Every P (pair_blocks_of (length arities) k f others) → Every P (pair_blocks_of (length arities) k f (g ∷ others))
      go true e later = rw (e, pair_blocks_of) later
      go false e later = rw (e, pair_blocks_of) (kinds.pair f g hf hs.0 (differ f g e), later)

  each_pair : Every P (pair_blocks (length arities) k)
  unfolding pair_blocks
  each_pair =
      every_flat_map (λ f. f < length arities) P (λ f. pair_blocks_of (length arities) k f (numbers 0 (length arities)))
      (λ f hf. each_pair_of f hf (numbers 0 (length arities)) below) (numbers 0 (length arities)) below
    where
      below : Every (λ f. f < length arities) (numbers 0 (length arities))
      below = every_of_members (λ f. f < length arities) (numbers 0 (length arities)) (λ f m. (numbers_below (length arities) f).0 m)

  each_of_rule : (base : ℕ) (rule : Rule) → Sides arities rule → base_after base rule ≤ top → Every P (rule_blocks (setting (length arities) k base rule) rule)
  unfolding rule_blocks
  each_of_rule base rule sides h = (kinds.root base rule h, two)
    where
      c : Setting
      c = setting (length arities) k base rule

      two : Every P (flat_map (λ s. map (λ t. node_block c s t) (subterms 0 rule.right)) (subterms 0 rule.left))
      two =
          every_flat_map (Inside arities (size rule.left)) P (λ s. map (λ t. node_block c s t) (subterms 0 rule.right))
          (λ s i.
          every_map (Inside arities (size rule.right)) P (λ t. node_block c s t) (λ t j. kinds.nodes base rule h s t i j) (subterms 0 rule.right)
          (subterms_inside arities rule.right 0 (size rule.right) (omega arith) sides.right))
          (subterms 0 rule.left) (subterms_inside arities rule.left 0 (size rule.left) (omega arith) sides.left)

  each_of_rules :
      (base : ℕ) (rules : List Rule) → Every (Sides arities) rules → base_behind base rules ≤ top → Every P (rules_blocks (length arities) k base rules)
  unfolding rules_blocks base_behind
  each_of_rules base [] sides h = tt
  each_of_rules base (rule ∷ rules) sides h =
      every_append P (rule_blocks (setting (length arities) k base rule) rule) (rules_blocks (length arities) k (base_after base rule) rules)
      (each_of_rule base rule sides.0 (omega (arith, base_grows (base_after base rule) rules)))
      (each_of_rules (base_after base rule) rules sides.1 h)

sides_over : (book : Book) → WithinLimits book → Every (Sides book.arities) book.rules
sides_over book limits =
    every_of_members (Sides book.arities) book.rules
    (λ rule m. record { left = (limits.left rule m).over_symbols; right = (limits.right rule m).over_symbols })

pub each_block :
    (book : Book) → WithinLimits book → (P : List Clause → Type 0) →
    Kinds book.arities (rank_bits (symbols book)) («V» book) P → Every P (blocks book)
unfolding blocks «V» symbols
each_block book limits P kinds =
    every_append P (pair_blocks n k) (rules_blocks n k (first_base n k) book.rules) (each_pair book.arities k («V» book) P kinds)
    (each_of_rules book.arities k («V» book) P kinds (first_base n k) book.rules (sides_over book limits) (omega arith))
  where
    n : ℕ
    n = symbols book

    k : ℕ
    k = rank_bits n
