-- `answer_lines::read_values` meets its contract. At every turn the reader holds what the lines before have said.
use mathlib.Core.Logic.{inl, inr}
use mathlib.Core.Path.{refl, ◌∙◌}
use Rattle.std.proofs.lemmas.Result.{err_from_is_err_and}
use Rattle.reply.specs.Reply.{◌at◌}
use Rattle.words.proofs.Pieces.{next_within}
use Rattle.answer_lines.proofs.AllLines.{at_first, line_taken, line_refused, read_closed, read_no_model, read_missing}
use Rattle.answer_lines.proofs.read_values.Goals as goal

pub loop-at-init : goal.loop-at-init
loop-at-init c = record { same = (refl, refl); holds = at_first _ _ _ }

pub slice_bounds-take_line-end : goal.slice_bounds-take_line-end
slice_bounds-take_line-end c = next_within _ _ _ _ c.loop-at-test.true c.next-end.ensures

pub returns-in_err-or : goal.returns-in_err-or
returns-in_err-or c =
    let same = c.loop-at.invariant.same in
    let f = c.loop-at.invariant.holds in
    let told = rw (same.0, same.1) at c.take_line.ensures.told (13 at c.loop-at.at) f.said f.holds in
    let why = err_from_is_err_and c.from_residual.result c.from_residual.ensures.1 in
    rw (why.1, why.2) (line_refused _ _ _ f _ c.loop-at-test.true c.next-end.ensures _ _ _ told _ c.in_err-or.ensures)

pub loop-at-preserved : goal.loop-at-preserved
loop-at-preserved c =
    let same = c.loop-at.invariant.same in
    let f = c.loop-at.invariant.holds in
    let told = rw (same.0, same.1) at c.take_line.ensures.told (13 at c.loop-at.at) f.said f.holds in
    record {
      same = (c.take_line.ensures.same.0 ∙ same.0, c.take_line.ensures.same.1 ∙ same.1);
      holds = line_taken _ _ _ f _ c.loop-at-test.true c.next-end.ensures _ _ _ told _ c.in_ok-or.ensures;
    }

pub returns-in-Closed : goal.returns-in-Closed
returns-in-Closed c = read_closed _ _ _ c.loop-at.invariant.holds c.loop-at-test.false c.in-Closed.is

pub returns-in-NoModel : goal.returns-in-NoModel
returns-in-NoModel c = read_no_model _ _ _ c.loop-at.invariant.holds c.loop-at-test.false c.in-NoModel.is

pub returns-in-Silent : goal.returns-in-Silent
returns-in-Silent c =
    read_missing _ _ _ c.loop-at.invariant.holds c.loop-at-test.false
    (λ e. elim c.in-Silent.is [ inl s ↦ cc | inr o ↦ cc ]) (λ e. elim c.in-Silent.is [ inl s ↦ cc | inr o ↦ cc ])
