-- The side of a rule that is being read: how many of its subterms are missing, and how many nodes came.
use Rattle.std.specs.Prelude.{ℕ, ◌+◌, pred, Bool, true, false}
use Rattle.book.specs.declared.sides.Side.{Side}
use Rattle.book.specs.declared.sides.Stage.{Stage}
use Rattle.book.specs.declared.sides.Stage.TheVariants.{BeforeRules, InLeft, InRight, RuleWhole}

unfoldable pub side_open : Stage → Bool
side_open BeforeRules = false
side_open InLeft = true
side_open InRight = true
side_open RuleWhole = false

unfoldable pub no_rule_yet : Stage → Bool
no_rule_yet BeforeRules = true
no_rule_yet InLeft = false
no_rule_yet InRight = false
no_rule_yet RuleWhole = false

unfoldable pub left_open : Stage → Bool
left_open BeforeRules = false
left_open InLeft = true
left_open InRight = false
left_open RuleWhole = false

-- No side is open.
unfoldable pub no_side : Stage → Side
no_side stage = record { stage = stage; missing = 0; nodes = 0 }

-- A side opens: one subterm is missing, which is the side.
unfoldable pub opened : Stage → Side
opened stage = record { stage = stage; missing = 1; nodes = 0 }

-- A node fills one place of its side and opens as many as its arity.
unfoldable pub with_node : Side → (opens : ℕ) → Side
with_node side opens = record { stage = side.stage; missing = pred side.missing + opens; nodes = side.nodes + 1 }
