-- The right side is laid into the buffer under the match, node by node: what lies there and what is ahead are the whole. Assumes nothing.
use Prim.Native.Nat.{ℕ, ◌+◌, ◌-◌}
use mathlib.Core.List.{List, [], ◌∷◌}
use mathlib.Core.Path.{ap, ◌∙◌}
use native.Mathlib.Omega.{arith}
use borrow.Rule.Slice.PartMut.{put_mid}
use lib.ListN.{length, get_or}
use Rattle.term.specs.Term.{Term}
use Rattle.term.specs.Replacement.{Replacement}
use Rattle.term.specs.Prefix.{prefix}
use Rattle.term.specs.At.{At}
use Rattle.building.specs.declared.Match.{Match}
use Rattle.building.specs.Right.{Held, RightAt}
use Rattle.building.proofs.RightSide.{symbol_ahead, variable_ahead, right_there, node_stands, is_symbol, is_variable, small, bound_there, term_there, term_found}
use Rattle.building.proofs.LaidDown.{Laying, nothing_laid, copied_into, node_copied, text_room, text_laid, all_laid, laying_as}
use Rattle.building.proofs.lay.Goals as goal
use Rattle.building.proofs.lay.Goals.{then-is_some, else-is_some, Joined-is_some}

-- The right side that stands there, as far as it is laid.
module _
    {book bytes arities : List ℕ} {table : Match} {u d right at : ℕ} {before after : List ℕ} {end : ℕ} (here : RightAt book bytes arities table u d)
    (so_far : (r : Term) (σ : Replacement) → At book arities u r d → Held bytes arities table r σ → Laying book arities r σ d right at before after end) where
  laying : Laying book arities here.right here.replacement d right at before after end
  laying = so_far here.right here.replacement here.stands here.held

pub loop-right-init : goal.loop-right-init
loop-right-init c r σ h k = nothing_laid σ _ _ h

pub symbol_at-requires : goal.symbol_at-requires
symbol_at-requires c = node_stands (laying c.requires.right_at c.loop-right.invariant).ahead c.loop-right-test.true

pub overflow_add-right : goal.overflow_add-right
overflow_add-right c = omega (arith, right_there (laying c.requires.right_at c.loop-right.invariant).ahead c.loop-right-test.true)

pub bounds-book-right : goal.bounds-book-right
bounds-book-right c = right_there (laying c.requires.right_at c.loop-right.invariant).ahead c.loop-right-test.true

pub bounds-table-wide : goal.bounds-table-wide
bounds-table-wide c =
    let ahead = (laying c.requires.right_at c.loop-right.invariant).ahead in
    small ahead c.loop-right-test.true c.requires.right_at.held c.symbol_at.ensures c.if-is_some.ensures c.wide.ensures

pub unwrap-start-requires : goal.unwrap-start-requires
unwrap-start-requires c =
    let ahead = (laying c.requires.right_at c.loop-right.invariant).ahead in
    bound_there ahead c.loop-right-test.true c.requires.right_at.held c.symbol_at.ensures c.if-is_some.ensures c.wide.ensures

pub end_of-requires : goal.end_of-requires
end_of-requires c =
    let ahead = (laying c.requires.right_at c.loop-right.invariant).ahead in
    term_there ahead c.loop-right-test.true c.requires.right_at.held c.symbol_at.ensures c.if-is_some.ensures c.wide.ensures c.unwrap-start.ensures

-- A node more is laid.
node_laid :
    (c : Joined-is_some) → (r : Term) (σ : Replacement) → At c.args.book.now c.args.terms.now.arities c.args.right_at r c.args.right_end →
    Held c.args.terms.now.bytes.now c.args.terms.now.arities c.args.table.now r σ →
    Laying c.args.book.now c.args.terms.now.arities r σ c.args.right_end (c.loop-right.right + 2) c.args.at c.args.out.now c.if-is_some.out c.if-is_some.end
node_laid c r σ h k =
    let so_far = c.loop-right.invariant r σ h k in
    let p = c.loop-right-test.true in
    let told = c.symbol_at.ensures in
    let out = c.loop-right.out in
    let end = c.loop-right.end in
    let room = c.requires.under_match r σ h k in
    elim c.if-is_some.branch [
      | then-is_some w ↦
          let kind = is_symbol so_far.ahead p told w.if-is_some.ensures in
          let symbol = symbol_ahead so_far.ahead p kind in
          let text = 3 ∷ get_or c.args.book.now (c.loop-right.right + 1) 0 ∷ [] in
          let fits = text_room so_far text symbol.parts symbol.on room in
          let copied = node_copied end out c.args.book.now c.loop-right.right (right_there so_far.ahead p) fits in
          laying_as
          (w.out-is ∙ ap (λ (ys : List ℕ). put_mid end (length out - end) out ys) w.copy-end.ensures.kept)
          (w.end-is ∙ ap (λ (n : ℕ). end + n) w.copy-end.ensures.laid)
          (text_laid so_far text symbol.parts symbol.on _ (rw (← kind) copied) fits)
      | else-is_some w ↦
          let variable = variable_ahead so_far.ahead p (is_variable so_far.ahead p told w.if-is_some.ensures) in
          let found = term_found so_far.ahead p k told w.if-is_some.ensures w.wide.ensures w.unwrap-start.ensures w.end_of.ensures in
          let text = prefix (σ (get_or c.args.book.now (c.loop-right.right + 1) 0)) in
          let fits = text_room so_far text variable.parts variable.on room in
          laying_as
          (w.out-is ∙ ap (λ (ys : List ℕ). put_mid end (length out - end) out ys) w.copy-end-else-is_some.ensures.kept)
          (w.end-is ∙ ap (λ (n : ℕ). end + n) w.copy-end-else-is_some.ensures.laid)
          (text_laid so_far text variable.parts variable.on _ (copied_into end out found fits) fits)
    ]

pub loop-right-preserved : goal.loop-right-preserved
loop-right-preserved c = node_laid (goal.at.loop-right-preserved c).Joined-is_some

pub returns : goal.returns
returns c r σ h k = all_laid (c.loop-right.invariant r σ h k) c.loop-right-test.false

pub returns-after-is_some : goal.returns-after-is_some
returns-after-is_some c r σ h k =
    all_laid (node_laid (goal.at.returns-after-is_some c).Joined-is_some r σ h k) (omega arith)
