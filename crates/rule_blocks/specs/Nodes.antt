-- Nodes of a rule's sides as places in the book's bytes: node u of a side that starts at a stands at a + 2u.
use Rattle.std.specs.Prelude.{ℕ, ◌+◌, ◌*◌, ◌≤◌, List}
use Rattle.term.specs.Term.{Term, Args, size, sizes, count}
use Rattle.term.specs.Root.{arguments}
use Rattle.term.specs.At.{At, ArgsAt}
use Rattle.clauses.specs.Cnf.{Clause}
use Rattle.clauses.specs.Blocks.{Setting, node_block}
use Rattle.rule_blocks.specs.declared.PlacedRule.{PlacedRule}

-- What the blocks of a rule share, without the places.
unfoldable pub setting_of : PlacedRule → Setting
setting_of c = record { n = c.symbols; k = c.bits; base = c.base; width = c.width }

-- "at most 16 symbols", k then at most 4, "7,424 variables" at most, "at most 10 nodes on a side".
pub record WithinMaximum (c : PlacedRule) : Type 0 where
  pub symbols : c.symbols ≤ 16
  pub bits : c.bits ≤ 4
  pub base : c.base ≤ 7424
  pub width : c.width ≤ 10

-- A subterm stands at this node of the side that starts at `start`, of at most 10 nodes.
pub record NodeAt (bytes arities : List ℕ) (start node : ℕ) : Type 0 where
  pub term : Term
  pub behind : ℕ
  pub stands : At bytes arities (start + 2 * node) term behind
  pub within : node + size term ≤ 10

-- So many subterms stand one after another from this node on.
pub record NodesAt (bytes arities : List ℕ) (start node many : ℕ) : Type 0 where
  pub terms : Args
  pub behind : ℕ
  pub stand : ArgsAt bytes arities many (start + 2 * node) terms behind
  pub within : node + sizes terms ≤ 10

-- Two nodes of a rule, whose roots have at most six arguments.
pub record Nodes (bytes arities : List ℕ) (c : PlacedRule) (u v : ℕ) : Type 0 where
  pub bounded : WithinMaximum c
  pub left : NodeAt bytes arities c.left u
  pub right : NodeAt bytes arities c.right v
  pub few_left : count (arguments left.term) ≤ 6
  pub few_right : count (arguments right.term) ≤ 6

-- The subterms s and t stand at the two nodes.
pub record NodesAre (bytes arities : List ℕ) (c : PlacedRule) (u v : ℕ) (s t : Term) : Type 0 where
  pub behind_left : ℕ
  pub behind_right : ℕ
  pub left : At bytes arities (c.left + 2 * u) s behind_left
  pub right : At bytes arities (c.right + 2 * v) t behind_right

-- The block of the subterms s at node u and t at node v.
unfoldable pub nodes_block : Setting → (u v : ℕ) (s t : Term) → List Clause
nodes_block c u v s t = node_block c (record { node = u; term = s }) (record { node = v; term = t })
