-- `answer::ranks::rank_of` meets its contract. The bits so far are summed.
use Rattle.std.proofs.Common.{arith}
use mathlib.Core.Path.{refl, sym, ◌∙◌}
use Rattle.clauses.specs.Numbering.{rank_below}
use Rattle.answer.proofs.RankSums.{small, shifted, bit_set, bit_clear}
use Rattle.answer.proofs.ranks.rank_of.Goals as goal
use Rattle.answer.proofs.ranks.rank_of.Goals.{then-unwrap_or, else-unwrap_or}

pub loop-b-init : goal.loop-b-init
unfolding rank_below
loop-b-init c = refl

pub overflow_add-rank : goal.overflow_add-rank
overflow_add-rank c =
    let less = small c.args.bits c.args.f c.args.table.now c.loop-b.b c.requires.0 c.loop-b-test.true in
    rw (shifted c.args.bits c.args.f c.args.table.now c.loop-b.b c.requires.0 c.loop-b-test.true) (omega (arith, c.loop-b.invariant, less.0, less.1))

pub loop-b-preserved : goal.loop-b-preserved
loop-b-preserved c =
    elim c.if-unwrap_or.branch [
      | then-unwrap_or w ↦
          rw (w.rank-is, shifted c.args.bits c.args.f c.args.table.now c.loop-b.b c.requires.0 c.loop-b-test.true)
          (bit_set _ _ _ _ c.loop-b.invariant (sym c.unwrap_or.ensures ∙ w.if-unwrap_or.true))
      | else-unwrap_or w ↦ rw w.rank-is (bit_clear _ _ _ _ c.loop-b.invariant (sym c.unwrap_or.ensures ∙ w.if-unwrap_or.false))
    ]
