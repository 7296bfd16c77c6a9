-- The side behind the node is whole: the left one gives way to the right, and the right one ends its rule.
use Rattle.std.proofs.Common.{sym, ap, ◌∙◌}
use Rattle.book.specs.Entries.{with_right, with_rule}
use Rattle.book.specs.Placed.{so_far}
use Rattle.book.proofs.Steps.{left_whole, right_whole}
use Rattle.book.proofs.sides.Side.take_node.Goals as goal

pub returns-then-left_open : goal.returns-then-left_open
unfolding with_right
returns-then-left_open c =
    ap (so_far _) c.opened.ensures
    ∙ left_whole (so_far c.args.book.now c.args.self) c.args.at c.args.opens c.with_node-grown.result c.with_node-grown.ensures c.if-grown-eq0.true
    (sym c.left_open.ensures ∙ c.if-left_open.true)

pub returns-else-left_open : goal.returns-else-left_open
unfolding with_rule
returns-else-left_open c =
    ap (so_far _) c.none.ensures
    ∙ right_whole (so_far c.args.book.now c.args.self) c.args.at c.args.opens c.with_node-grown.result c.with_node-grown.ensures c.if-grown-eq0.true
    (sym c.left_open.ensures ∙ c.if-left_open.false)
