-- The right side's bytes under the match are counted, node by node: no count exceeds the whole. Assumes nothing.
use Prim.Native.Nat.{ℕ, ◌+◌, ◌≤◌}
use mathlib.Core.List.{List}
use native.Mathlib.Omega.{arith}
use lib.ListN.{length}
use Rattle.term.specs.Term.{Term}
use Rattle.term.specs.Replacement.{Replacement, replace}
use Rattle.term.specs.Prefix.{prefix}
use Rattle.term.specs.At.{At}
use Rattle.term.proofs.At.{at_end_lem}
use Rattle.building.specs.declared.Match.{Match}
use Rattle.building.specs.Right.{Held, RightAt}
use Rattle.building.proofs.RightSide.{few_bytes, right_there, node_stands, is_symbol, is_variable, small, bound_there, term_there, term_found, Counted, none_counted, symbol_counted, variable_counted, all_counted, counted_as}
use Rattle.building.proofs.right_length.Goals as goal
use Rattle.building.proofs.right_length.Goals.{then-is_some, else-is_some, Joined-is_some}

-- The right side that stands there, and how far it is counted.
module _
    {book bytes arities : List ℕ} {table : Match} {u d right total : ℕ} (here : RightAt book bytes arities table u d)
    (so_far : (r : Term) (σ : Replacement) → At book arities u r d → Held bytes arities table r σ → Counted book arities r σ d right total) where
  counted : Counted book arities here.right here.replacement d right total
  counted = so_far here.right here.replacement here.stands here.held

  -- No count exceeds the whole.
  few : length bytes ≤ 512 → length (prefix (replace here.replacement here.right)) ≤ 5120
  few short = few_bytes here.held short here.nodes

pub loop-right-init : goal.loop-right-init
loop-right-init c r σ h k = none_counted σ h

pub symbol_at-requires : goal.symbol_at-requires
symbol_at-requires c = node_stands (counted c.requires.right_at c.loop-right.invariant).ahead c.loop-right-test.true

pub overflow_add-total : goal.overflow_add-total
overflow_add-total c =
    let so_far = counted c.requires.right_at c.loop-right.invariant in
    let symbol = is_symbol so_far.ahead c.loop-right-test.true c.symbol_at.ensures c.if-is_some.ensures in
    let on = symbol_counted so_far c.loop-right-test.true symbol in
    omega (arith, on.whole, few c.requires.right_at c.loop-right.invariant c.requires.bytes_len_bound)

pub bounds-book-right : goal.bounds-book-right
bounds-book-right c = right_there (counted c.requires.right_at c.loop-right.invariant).ahead c.loop-right-test.true

pub bounds-table-wide : goal.bounds-table-wide
bounds-table-wide c =
    let ahead = (counted c.requires.right_at c.loop-right.invariant).ahead in
    small ahead c.loop-right-test.true c.requires.right_at.held c.symbol_at.ensures c.if-is_some.ensures c.wide.ensures

pub unwrap-start-requires : goal.unwrap-start-requires
unwrap-start-requires c =
    let ahead = (counted c.requires.right_at c.loop-right.invariant).ahead in
    bound_there ahead c.loop-right-test.true c.requires.right_at.held c.symbol_at.ensures c.if-is_some.ensures c.wide.ensures

pub end_of-requires : goal.end_of-requires
end_of-requires c =
    let ahead = (counted c.requires.right_at c.loop-right.invariant).ahead in
    term_there ahead c.loop-right-test.true c.requires.right_at.held c.symbol_at.ensures c.if-is_some.ensures c.wide.ensures c.unwrap-start.ensures

pub overflow_sub-total : goal.overflow_sub-total
overflow_sub-total c =
    let ahead = (counted c.requires.right_at c.loop-right.invariant).ahead in
    let found =
    term_found ahead c.loop-right-test.true c.requires.right_at.held c.symbol_at.ensures c.if-is_some.ensures c.wide.ensures c.unwrap-start.ensures
    c.end_of.ensures
    in
    omega (arith, at_end_lem found)

pub overflow_add-total-else-is_some : goal.overflow_add-total-else-is_some
overflow_add-total-else-is_some c =
    let so_far = counted c.requires.right_at c.loop-right.invariant in
    let p = c.loop-right-test.true in
    let found =
    term_found so_far.ahead p c.requires.right_at.held c.symbol_at.ensures c.if-is_some.ensures c.wide.ensures c.unwrap-start.ensures c.end_of.ensures
    in
    let on = variable_counted so_far p (is_variable so_far.ahead p c.symbol_at.ensures c.if-is_some.ensures) found in
    omega (arith, few c.requires.right_at c.loop-right.invariant c.requires.bytes_len_bound, on.whole)

-- A node more is counted.
node_counted :
    (c : Joined-is_some) → (r : Term) (σ : Replacement) → At c.args.book.now c.args.terms.now.arities c.args.right_at r c.args.right_end →
    Held c.args.terms.now.bytes.now c.args.terms.now.arities c.args.table.now r σ →
    Counted c.args.book.now c.args.terms.now.arities r σ c.args.right_end (c.loop-right.right + 2) c.if-is_some.total
node_counted c r σ h k =
    let so_far = c.loop-right.invariant r σ h k in
    let p = c.loop-right-test.true in
    let told = c.symbol_at.ensures in
    elim c.if-is_some.branch [
      | then-is_some w ↦ counted_as w.total-is (symbol_counted so_far p (is_symbol so_far.ahead p told w.if-is_some.ensures))
      | else-is_some w ↦
          let found = term_found so_far.ahead p k told w.if-is_some.ensures w.wide.ensures w.unwrap-start.ensures w.end_of.ensures in
          counted_as w.total-is (variable_counted so_far p (is_variable so_far.ahead p told w.if-is_some.ensures) found)
    ]

pub loop-right-preserved : goal.loop-right-preserved
loop-right-preserved c = node_counted (goal.at.loop-right-preserved c).Joined-is_some

pub returns : goal.returns
returns c r σ h k = all_counted (c.loop-right.invariant r σ h k) c.loop-right-test.false

pub returns-after-is_some : goal.returns-after-is_some
returns-after-is_some c r σ h k =
    all_counted (node_counted (goal.at.returns-after-is_some c).Joined-is_some r σ h k) (omega arith)
