-- The table holds the match of the left side and the subterm: the matching of whatever terms stand there goes on node by node. Assumes nothing.
use Prim.Native.Nat.{ℕ, ◌+◌, ◌<◌}
use mathlib.Core.List.{List}
use mathlib.Core.Path.{refl, sym, subst, ◌∙◌}
use native.Mathlib.Omega.{arith}
use borrow.Author.Tests.{not-true, not-false}
use Rattle.term.specs.Term.{Term}
use Rattle.term.specs.At.{At, Standing}
use Rattle.term.specs.Replacement.{Occurs}
use Rattle.term.proofs.At.{at_unique, at_root_lem}
use Rattle.building.specs.declared.Match.{Match}
use Rattle.matching.specs.Table.{table_of, LeftAt, Holds}
use Rattle.matching.proofs.Alike.{same_symbol, differ}
use Rattle.matching.proofs.NodeByNode.{Going, begins, on_left, on_record, symbol_differs, symbol_passed, variable_small, variable_fits, variable_fails, all_passed, renamed}
use Rattle.matching.proofs.table.matched.Goals as goal
use Rattle.matching.proofs.table.matched.Goals.{in-Some+else-ne, in-None+in_ok-table-in-None, Joined-symbol_at}

-- In a turn: the matching of the terms that stand there.
module _
    {book bytes arities : List ℕ} {u d at left place : ℕ} {table : Match} (here : LeftAt book arities u d) (standing : Standing bytes arities at)
    (so_far :
    (l s : Term) (e : ℕ) → At book arities u l d → At bytes arities at s e → Going book bytes arities l s d e left place (table_of l s at) table) where
  going : Going book bytes arities here.left standing.term d standing.behind left place (table_of here.left standing.term at) table
  going = so_far here.left standing.term standing.behind here.stands standing.stands

  module _ (p : left < d) where
    left_there : Standing book arities left
    left_there = let first = on_left going p in record { term = first.first; behind = first.behind; stands = first.first_stands }

    term_there : Standing bytes arities place
    term_there = let first = on_record going p in record { term = first.first; behind = first.behind; stands = first.first_stands }

pub loop-left-init : goal.loop-left-init
loop-left-init c l s e h k =
    begins h (λ x o. c.requires.left_at.variables x (subst (λ t. Occurs x t) (at_unique h c.requires.left_at.stands).0 o)) k

pub symbol_at-requires : goal.symbol_at-requires
symbol_at-requires c = left_there c.requires.left_at c.requires.standing c.loop-left.invariant c.loop-left-test.true

pub symbol_at-requires-in-Some : goal.symbol_at-requires-in-Some
symbol_at-requires-in-Some c = term_there c.requires.left_at c.requires.standing c.loop-left.invariant c.loop-left-test.true

pub returns-then-ne : goal.returns-then-ne
unfolding Holds
returns-then-ne c l s e h k =
    let going = c.loop-left.invariant l s e h k in
    let p = c.loop-left-test.true in
    symbol_differs going p (sym (c.in-Some.ensures _ _ (on_left going p).first_stands)) (λ q.
    differ (not-true _ (sym c.ne.ensures ∙ c.if-ne.true)) (c.symbol_at-in-Some.ensures _ _ (on_record going p).first_stands ∙ q))

pub overflow_add-place : goal.overflow_add-place
overflow_add-place c =
    omega (arith, at_root_lem (term_there c.requires.left_at c.requires.standing c.loop-left.invariant c.loop-left-test.true).stands)

pub bounds-book-left : goal.bounds-book-left
bounds-book-left c = at_root_lem (left_there c.requires.left_at c.requires.standing c.loop-left.invariant c.loop-left-test.true).stands

pub meet-requires : goal.meet-requires
meet-requires c =
    let going = going c.requires.left_at c.requires.standing c.loop-left.invariant in
    let p = c.loop-left-test.true in
    record {
      x_bound = variable_small going p (sym (c.in-None.ensures _ _ (on_left going p).first_stands)) c.wide.ensures;
      table_at = going.tabled;
      standing = term_there c.requires.left_at c.requires.standing c.loop-left.invariant p;
    }

pub returns-in_err-table-in-None : goal.returns-in_err-table-in-None
unfolding Holds
returns-in_err-table-in-None c l s e h k =
    let going = c.loop-left.invariant l s e h k in
    let p = c.loop-left-test.true in
    rw c.from_residual.ensures
    (variable_fails going p (sym (c.in-None.ensures _ _ (on_left going p).first_stands)) c.wide.ensures c.in_err-table-in-None.ensures)

pub end_of-place-requires : goal.end_of-place-requires
end_of-place-requires c = term_there c.requires.left_at c.requires.standing c.loop-left.invariant c.loop-left-test.true

-- A node is passed.
passed :
    (c : Joined-symbol_at) → (l s : Term) (e : ℕ) → At c.args.book.now c.args.terms.now.arities c.args.left_at l c.args.left_end →
    At c.args.terms.now.bytes.now c.args.terms.now.arities c.args.at s e →
    Going c.args.book.now c.args.terms.now.bytes.now c.args.terms.now.arities l s c.args.left_end e (c.loop-left.left + 2) c.match-symbol_at.place
    (table_of l s c.args.at) c.match-symbol_at.table
passed c l s e h k =
    let going = c.loop-left.invariant l s e h k in
    let p = c.loop-left-test.true in
    let left = c.symbol_at.ensures _ _ (on_left going p).first_stands in
    elim c.match-symbol_at.branch [
      | in-Some+else-ne w ↦
          renamed w.table-is w.place-is (
          symbol_passed going p (sym left ∙ w.in-Some.is)
          (sym (w.symbol_at-in-Some.ensures _ _ (on_record going p).first_stands)
          ∙ same_symbol _ (not-false _ (sym w.ne.ensures ∙ w.if-ne.false)))
          )
      | in-None+in_ok-table-in-None w ↦
          let first = on_record going p in
          renamed w.table-is (w.place-is ∙ w.end_of-place.ensures first.first first.behind first.first_stands)
          (variable_fits going p (sym left ∙ w.in-None.is) w.wide.ensures w.in_ok-table-in-None.ensures)
    ]

pub loop-left-preserved : goal.loop-left-preserved
loop-left-preserved c = passed (goal.at.loop-left-preserved c).Joined-symbol_at

pub returns : goal.returns
unfolding Holds
returns c l s e h k = all_passed (c.loop-left.invariant l s e h k) c.loop-left-test.false _ refl

pub returns-after-symbol_at : goal.returns-after-symbol_at
unfolding Holds
returns-after-symbol_at c l s e h k =
    all_passed (passed (goal.at.returns-after-symbol_at c).Joined-symbol_at l s e h k) (omega arith) _ refl
