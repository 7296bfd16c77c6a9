-- A rule whose sides stand at places in the book's bytes.
use Rattle.std.specs.Prelude.{ℕ, ◌+◌, ◌*◌, ◌≤◌, ◌≡◌}
use mathlib.Core.List.{List, Memᴰ}
use Rattle.term.specs.Term.{Term, size, count}
use Rattle.term.specs.Root.{arguments}
use Rattle.term.specs.At.{At}
use Rattle.book.specs.Book.{Rule}
use Rattle.clauses.specs.Blocks.{Numbered, subterms}
use Rattle.rule_blocks.specs.Nodes.{WithinMaximum}
use Rattle.rule_blocks.specs.declared.PlacedRule.{PlacedRule}

-- A side of so many nodes from place `start` on: "at most 10 nodes on a side", "arity 0 to 6".
pub record SmallSide (bytes arities : List ℕ) (start many : ℕ) (side : Term) : Type 0 where
  pub stands : At bytes arities start side (start + 2 * many)
  pub nodes : size side ≡ many
  pub small : many ≤ 10
  pub few : (s : Numbered) → Memᴰ s (subterms 0 side) → count (arguments s.term) ≤ 6

-- The rule whose sides stand at its places.
pub record RuleStands (bytes arities : List ℕ) (c : PlacedRule) (rule : Rule) : Type 0 where
  pub bounded : WithinMaximum c
  pub left : SmallSide bytes arities c.left c.height rule.left
  pub right : SmallSide bytes arities c.right c.width rule.right

-- Some rule stands at these places: what a function asks that promises of whichever rule it is.
pub record SomeRule (bytes arities : List ℕ) (c : PlacedRule) : Type 0 where
  pub rule : Rule
  pub stands : RuleStands bytes arities c rule
