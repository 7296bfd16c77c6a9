-- At most 16 symbols, at most 32 rules of at most 100 pairs of nodes each, and the blocks counted so far.
use Prim.Native.Nat.{ℕ, ◌*◌, ◌≤◌, ◌<◌}
use mathlib.Core.Path.{refl}
use native.Mathlib.Nat.{mul-le-mul}
use native.Mathlib.Omega.{arith}
use Rattle.std.proofs.lemmas.List.{length-take}
use Rattle.book.specs.Entries.{places_of}
use Rattle.book.specs.WasRead.{WasRead}
use Rattle.book.specs.declared.Book.{Book}
use Rattle.counts.proofs.ReadRules.{read_few_symbols, read_few_rules, rule_taken, rule_next}
use Rattle.counts.proofs.BlockCount.{count_starts, count_goes_on, count_ends}
use Rattle.counts.proofs.count_blocks.Goals as goal

-- At the start: at most 16 symbols.
module _ (b : Book) (was : WasRead b) where
  few : b.symbols ≤ 16
  few = read_few_symbols was.read

  square : b.symbols * b.symbols ≤ 256
  square = mul-le-mul few few

-- Inside the loop: at most 100 pairs of nodes.
module _ (b : Book) (was : WasRead b) (i : ℕ) (h : i < b.rules) where
  nodes : (places_of b i).left.nodes * (places_of b i).right.nodes ≤ 100
  nodes = (rule_next was.read i h).few

pub overflow_mul-blocks : goal.overflow_mul-blocks
overflow_mul-blocks c = omega (arith, square c.args.book.now c.requires)

pub overflow_add-blocks : goal.overflow_add-blocks
overflow_add-blocks c = omega (arith, square c.args.book.now c.requires)

pub loop-rule-init : goal.loop-rule-init
loop-rule-init c = (omega (arith, square c.args.book.now c.requires), count_starts c.args.book.now _ refl)

pub overflow_mul-blocks-in-loop-rule : goal.overflow_mul-blocks-in-loop-rule
overflow_mul-blocks-in-loop-rule c =
    let (below, is) = rule_taken c.args.book.now c.loop-rule.rule-index c.loop-rule-test.true in
    rw is (omega (arith, nodes c.args.book.now c.requires c.loop-rule.rule-index below))

pub overflow_add-blocks-in-loop-rule : goal.overflow_add-blocks-in-loop-rule
overflow_add-blocks-in-loop-rule c =
    let (below, is) = rule_taken c.args.book.now c.loop-rule.rule-index c.loop-rule-test.true in
    rw is (omega (arith, nodes c.args.book.now c.requires c.loop-rule.rule-index below))

pub overflow_add-blocks-in-loop-rule-2 : goal.overflow_add-blocks-in-loop-rule-2
overflow_add-blocks-in-loop-rule-2 c =
    let (below, is) = rule_taken c.args.book.now c.loop-rule.rule-index c.loop-rule-test.true in
    rw is (omega (arith, read_few_rules c.requires.read, nodes c.args.book.now c.requires c.loop-rule.rule-index below))

pub loop-rule-preserved : goal.loop-rule-preserved
loop-rule-preserved c =
    let (below, is) = rule_taken c.args.book.now c.loop-rule.rule-index c.loop-rule-test.true in
    rw is (
      omega (arith, nodes c.args.book.now c.requires c.loop-rule.rule-index below),
      count_goes_on c.args.book.now _ c.loop-rule.rule-index c.loop-rule.invariant.1 below _ refl,
    )

pub returns : goal.returns
returns c =
    count_ends c.args.book.now c.loop-rule.blocks c.loop-rule.rule-index c.loop-rule.invariant.1
    (omega (arith, length-take c.args.book.now.rules c.args.book.now.places))
