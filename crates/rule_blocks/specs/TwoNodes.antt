-- Two nodes of a rule's sides, as the code holds them.
use Rattle.std.specs.Prelude.{ℕ, ◌-◌, ◌/◌, ◌%◌}
use Rattle.term.specs.Term.{Term}
use Rattle.term.specs.declared.Terms.{Terms}
use Rattle.rule_blocks.specs.Nodes.{Nodes, NodesAre}
use Rattle.rule_blocks.specs.declared.PlacedRule.{PlacedRule}
use Rattle.rule_blocks.specs.declared.nodes.TwoNodes.{TwoNodes}

-- Subterms stand at them.
abbrev pub Stand : TwoNodes → Type 0
Stand two = Nodes two.terms.bytes.now two.terms.arities two.placed two.u two.v

-- The subterms s and t stand at them.
abbrev pub AreAt : TwoNodes → (s t : Term) → Type 0
AreAt two s t = NodesAre two.terms.bytes.now two.terms.arities two.placed two.u two.v s t

-- "(u,v), v fastest": the nodes of a block's number, behind (C of 0,0).
unfoldable pub numbered_nodes : Terms → PlacedRule → (number : ℕ) → TwoNodes
numbered_nodes terms placed number =
    record { terms = terms; placed = placed; u = (number - 1) / placed.width; v = (number - 1) % placed.width }
