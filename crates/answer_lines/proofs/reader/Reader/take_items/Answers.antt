-- `answer_lines::reader::Reader::take_items` meets its contract. At every turn the values so far stand behind the words that were read.
use Rattle.std.proofs.Common.{arith}
use mathlib.Core.Path.{refl, ◌∙◌}
use Rattle.std.proofs.lemmas.Result.{err_from_is_err_and}
use Rattle.words.proofs.Pieces.{next_within}
use Rattle.answer_lines.proofs.ValueLine.{at_first, behind_gap, behind_word, word_bad, line_told, line_empty}
use Rattle.answer_lines.proofs.reader.Reader.take_items.Goals as goal

pub loop-at-init : goal.loop-at-init
loop-at-init c = record { same = (refl, refl); behind = λ fault ls held. at_first fault _ _ _ ls _ _ held }

pub overflow_add-at : goal.overflow_add-at
overflow_add-at c = omega (arith, next_within _ _ _ _ c.loop-at-test.true c.next-end.ensures)

pub slice_bounds-take_word-end : goal.slice_bounds-take_word-end
slice_bounds-take_word-end c = next_within _ _ _ _ c.loop-at-test.true c.next-end.ensures

pub loop-at-preserved-then-start-end : goal.loop-at-preserved-then-start-end
loop-at-preserved-then-start-end c =
    let same = c.loop-at.invariant.same in
    record {
      same = (c.take_word.ensures.same.0 ∙ same.0, c.take_word.ensures.same.1 ∙ same.1);
      behind =
          λ fault ls held.
          let b = c.loop-at.invariant.behind fault ls held in
          let told = rw (same.0, same.1) at c.in_ok-take_word.ensures.told fault b.values b.held in
          behind_word fault _ _ _ ls _ _ _ b _ c.loop-at-test.true c.next-end.ensures c.if-start-end.true _ _ _ told;
    }

pub loop-at-preserved : goal.loop-at-preserved
loop-at-preserved c = record {
  same = c.loop-at.invariant.same;
  behind =
      λ fault ls held.
      behind_gap fault _ _ _ ls _ _ _ (c.loop-at.invariant.behind fault ls held) _ c.loop-at-test.true c.next-end.ensures c.if-start-end.false;
}

pub returns-in_err-take_word-clause-told : goal.returns-in_err-take_word-clause-told
returns-in_err-take_word-clause-told c =
    let same = c.loop-at.invariant.same in
    λ fault ls held.
    let b = c.loop-at.invariant.behind fault ls held in
    let told = rw (same.0, same.1) at c.in_err-take_word.ensures.told fault b.values b.held in
    let bad = err_from_is_err_and c.from_residual.result c.from_residual.ensures.1 in
    rw bad.1 (word_bad fault _ _ _ ls _ _ _ b _ c.loop-at-test.true c.next-end.ensures c.if-start-end.true _ _ _ told)

pub returns-then-found-clause-told : goal.returns-then-found-clause-told
returns-then-found-clause-told c =
    λ fault ls held. line_told fault _ _ _ ls _ _ _ (c.loop-at.invariant.behind fault ls held) c.loop-at-test.false _ c.if-found.true

pub returns-else-found-clause-told : goal.returns-else-found-clause-told
returns-else-found-clause-told c =
    λ fault ls held. line_empty fault _ _ _ ls _ _ _ (c.loop-at.invariant.behind fault ls held) c.loop-at-test.false _ c.if-found.false
