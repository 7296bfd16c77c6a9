-- Each return is what the bytes at the place say.
use mathlib.Core.Path.{◌≡◌, sym, ap, ◌∙◌}
use borrow.Author.Rules.{rules}
use Rattle.std.proofs.Common.{Ok}
use Rattle.reply.specs.Replied.{result_of}
use Rattle.term.specs.declared.kinds.Kind.TheVariants.{End}
use Rattle.term.proofs.KindByte.{is_end, not_end}
use Rattle.record.proofs.Steps.{no_end, other_end, behind_end, end_given}
use Rattle.record.proofs.end_at.Goals as goal

pub returns-in_default : goal.returns-in_default
unfolding result_of
returns-in_default c = let a = c.args in ap result_of (sym (no_end a.bytes.now a.at c.in_default.ensures.lookup.3))

pub returns-then-ne : goal.returns-then-ne
unfolding result_of
returns-then-ne c =
    let a = c.args in
    let (here, byte) = c.in-Some.ensures.lookup.3 in
    let other : c.try_from.result ≡ Ok End → ⊥ = search rules in
    ap result_of (sym (other_end a.bytes.now a.at here (λ e. not_end _ _ c.try_from.ensures other (byte 0 ∙ e))))

pub returns-then-behind-bytes : goal.returns-then-behind-bytes
unfolding result_of
returns-then-behind-bytes c =
    let a = c.args in
    let (here, byte) = c.in-Some.ensures.lookup.3 in
    let end : c.try_from.result ≡ Ok End = search rules in
    ap result_of (sym (behind_end a.bytes.now a.at here (sym (byte 0) ∙ is_end _ _ c.try_from.ensures end) c.if-behind-bytes.true))

pub returns : goal.returns
unfolding result_of
returns c =
    let a = c.args in
    let (here, byte) = c.in-Some.ensures.lookup.3 in
    let end : c.try_from.result ≡ Ok End = search rules in
    ap result_of (sym (end_given a.bytes.now a.at here (sym (byte 0) ∙ is_end _ _ c.try_from.ensures end) c.if-behind-bytes.false))
