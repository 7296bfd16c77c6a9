-- The header is block 0, then come n(n−1) pairs, then the rules.
use Prim.Native.Nat.{ℕ, ◌-◌, ◌*◌, ◌≤◌}
use mathlib.Core.Path.{◌≡◌}
use native.Mathlib.Nat.{mul-le-mul}
use native.Mathlib.Omega.{arith}
use Rattle.blocks.specs.Found.{FindsBlock}
use Rattle.blocks.proofs.FileBlocks.{found_header, found_pair, found_rule, found_nowhere}
use Rattle.counts.proofs.ReadRules.{read_few_symbols}
use Rattle.counts.proofs.BlockCount.{squares}
use Rattle.blocks.proofs.finding.find_block.Goals as goal

-- n² − n is n(n − 1).
pairs : (n : ℕ) → n * n - n ≡ n * (n - 1)
pairs n = omega (arith, squares n)

few : (n : ℕ) → n ≤ 16 → n * n ≤ 256
few n h = mul-le-mul h h

pub returns-then-number-eq0 : goal.returns-then-number-eq0
unfolding FindsBlock
returns-then-number-eq0 c = found_header c.args.book.now c.args.number c.if-number-eq0.true

pub overflow_mul-many : goal.overflow_mul-many
overflow_mul-many c = omega (arith, few _ (read_few_symbols c.args.book.now.read))

pub returns-then-number-many : goal.returns-then-number-many
unfolding FindsBlock
returns-then-number-many c =
    found_pair c.args.book.now c.args.number c.if-number-eq0.false _ (pairs c.args.book.now.places.symbols) c.if-number-many.true

pub returns-in_err-rule : goal.returns-in_err-rule
returns-in_err-rule c =
    rw c.from_residual.ensures
    (found_nowhere c.args.book.now c.args.number c.if-number-eq0.false _ (pairs c.args.book.now.places.symbols) c.if-number-many.false c.in_err-rule.ensures)

pub returns : goal.returns
unfolding FindsBlock
returns c =
    found_rule c.args.book.now c.args.number c.if-number-eq0.false _ (pairs c.args.book.now.places.symbols) c.if-number-many.false c.in_ok-rule.rule
    c.in_ok-rule.rest c.in_ok-rule.ensures
