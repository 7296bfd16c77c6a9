-- Variable x meets the term at a place: where it is bound, both terms are compared; where it is free, it is bound there. Assumes nothing.
use Rattle.matching.specs.Table.{if_same}
use Rattle.matching.proofs.Binding.{meets_bound, meets_free}
use Rattle.matching.proofs.table.meet.Goals as goal

pub returns-then-not-same_at : goal.returns-then-not-same_at
unfolding if_same
returns-then-not-same_at c =
    rw c.if-not-same_at.true at (meets_bound c.args.table c.args.x c.args.place c.same_at.result c.in-Some.is c.same_at.ensures)

pub returns-else-not-same_at : goal.returns-else-not-same_at
unfolding if_same
returns-else-not-same_at c =
    rw c.if-not-same_at.false at (meets_bound c.args.table c.args.x c.args.place c.same_at.result c.in-Some.is c.same_at.ensures)

pub returns-in_default : goal.returns-in_default
returns-in_default c = meets_free c.args.table c.args.x c.args.place c.in_default.is
