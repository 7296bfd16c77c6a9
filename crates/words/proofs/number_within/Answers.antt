-- `words::number_within` meets its contract. What is left of the text, behind the value so far, is the whole text's number.
use mathlib.Core.Path.{refl, ap, ◌∙◌}
use Rattle.words.specs.Numbers.{from_one}
use Rattle.words.proofs.Numbers.{from_one_is, is_within, none_within, ended_at, stopped_at, gone_on_at}
use Rattle.words.proofs.number_within.Goals as goal

pub returns-in_err-value : goal.returns-in_err-value
unfolding from_one
returns-in_err-value c =
    let nothing = none_within _ _ c.in_err-value.ensures in
    c.from_residual.ensures ∙ ap from_one (stopped_at _ _ _ _ 0 c.loop-byte-test.true nothing refl ∙ c.loop-byte.invariant.1)

pub returns-then-value-eq0 : goal.returns-then-value-eq0
unfolding from_one
returns-then-value-eq0 c =
    let here = is_within _ _ c.in_ok-value.ensures in
    ap from_one (stopped_at _ _ _ _ _ c.loop-byte-test.true here c.if-value-eq0.true ∙ c.loop-byte.invariant.1)

pub loop-byte-preserved : goal.loop-byte-preserved
loop-byte-preserved c =
    let here = is_within _ _ c.in_ok-value.ensures in
    gone_on_at _ _ _ _ _ c.loop-byte-test.true here c.if-value-eq0.false c.loop-byte.invariant.1

pub returns : goal.returns
returns c =
    c.then_some.ensures
    ∙ from_one_is _
    ∙ ap from_one (ended_at _ _ _ _ c.loop-byte-test.false c.loop-byte.invariant.0 ∙ c.loop-byte.invariant.1)
