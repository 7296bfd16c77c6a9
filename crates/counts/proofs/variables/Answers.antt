-- At most 16 symbols of at most 4 bits, at most 32 rules of at most 100 pairs of nodes each, and a base below V.
use Prim.Native.Nat.{ℕ, ◌*◌, ◌≤◌, ◌<◌}
use mathlib.Core.Path.{◌≡◌, sym, ap, ◌∙◌}
use native.Mathlib.Nat.{mul-le-mul, mul_assoc}
use native.Mathlib.Omega.{arith}
use Rattle.std.proofs.lemmas.List.{length-take}
use Rattle.book.specs.Entries.{places_of}
use Rattle.book.specs.WasRead.{WasRead}
use Rattle.book.specs.declared.Book.{Book}
use Rattle.clauses.specs.Numbering.{first_base}
use Rattle.clauses.proofs.RankBits.{rank_bits_few}
use Rattle.term.specs.Tables.{rank_bits}
use Rattle.counts.proofs.ReadRules.{base_starts, base_small, base_goes_on, base_ends, rule_taken, rule_next, read_few_symbols}
use Rattle.counts.proofs.variables.Goals as goal

-- At the start: at most 16 symbols, of at most 4 bits.
module _ (b : Book) (was : WasRead b) (k : ℕ) (is : k ≡ rank_bits b.symbols) where
  few : b.symbols ≤ 16
  few = read_few_symbols was.read

  bits : b.symbols * k ≤ 16 * 4
  bits = mul-le-mul {m₂ = 4} few (omega (arith, rank_bits_few b.symbols few))

  squared : b.symbols * (b.symbols * k) ≤ 16 * (16 * 4)
  squared = mul-le-mul few bits

-- Inside the loop: at most 100 pairs of nodes.
module _ (b : Book) (was : WasRead b) (i : ℕ) (h : i < b.rules) where
  nodes : (places_of b i).left.nodes * (places_of b i).right.nodes ≤ 100
  nodes = (rule_next was.read i h).few

pub overflow_mul-bits : goal.overflow_mul-bits
overflow_mul-bits c = omega (arith, bits c.args.book.now c.requires c.rank_bits.result c.rank_bits.ensures)

pub overflow_mul-base : goal.overflow_mul-base
overflow_mul-base c =
    omega (
      arith,
      bits c.args.book.now c.requires c.rank_bits.result c.rank_bits.ensures,
      squared c.args.book.now c.requires c.rank_bits.result c.rank_bits.ensures,
    )

pub loop-rule-init : goal.loop-rule-init
unfolding first_base
loop-rule-init c =
    let n = c.args.book.now.symbols in
    base_starts c.args.book.now _ (sym (mul_assoc n n c.rank_bits.result) ∙ ap (λ (k : ℕ). n * n * k) c.rank_bits.ensures)

pub overflow_mul-base-in-loop-rule : goal.overflow_mul-base-in-loop-rule
overflow_mul-base-in-loop-rule c =
    let (below, is) = rule_taken c.args.book.now c.loop-rule.rule-index c.loop-rule-test.true in
    rw is (omega (arith, nodes c.args.book.now c.requires c.loop-rule.rule-index below))

pub overflow_mul-base-in-loop-rule-2 : goal.overflow_mul-base-in-loop-rule-2
overflow_mul-base-in-loop-rule-2 c =
    let (below, is) = rule_taken c.args.book.now c.loop-rule.rule-index c.loop-rule-test.true in
    rw is (omega (arith, nodes c.args.book.now c.requires c.loop-rule.rule-index below))

pub overflow_add-base : goal.overflow_add-base
overflow_add-base c =
    let (below, is) = rule_taken c.args.book.now c.loop-rule.rule-index c.loop-rule-test.true in
    rw is (
    omega (
      arith,
      nodes c.args.book.now c.requires c.loop-rule.rule-index below,
      base_small {b = c.args.book.now} c.loop-rule.base c.loop-rule.rule-index c.requires c.loop-rule.invariant,
    )
    )

pub loop-rule-preserved : goal.loop-rule-preserved
loop-rule-preserved c =
    let (below, is) = rule_taken c.args.book.now c.loop-rule.rule-index c.loop-rule-test.true in
    rw is (base_goes_on {b = c.args.book.now} c.loop-rule.base c.loop-rule.rule-index c.loop-rule.invariant below)

pub returns : goal.returns
returns c =
    base_ends {b = c.args.book.now} c.loop-rule.base c.loop-rule.rule-index c.loop-rule.invariant
    (omega (arith, length-take c.args.book.now.rules c.args.book.now.places))
