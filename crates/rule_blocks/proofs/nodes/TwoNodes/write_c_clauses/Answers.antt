-- The clause (C), or C's parts.
use mathlib.Core.Path.{sym, ◌∙◌}
use Rattle.clause_bytes.specs.Meaning.{meant}
use Rattle.rule_blocks.specs.Nodes.{setting_of}
use Rattle.text.proofs.Laying.{lays_as}
use Rattle.rule_blocks.proofs.NodesBlock.{identical_text, other_text}
use Rattle.rule_blocks.proofs.nodes.TwoNodes.write_c_clauses.Goals as goal

pub returns-then-some_identical : goal.returns-then-some_identical
unfolding meant
returns-then-some_identical c =
    λ s t here.
    lays_as
    (identical_text (setting_of c.args.self.now.placed) c.args.self.now.u c.args.self.now.v s t (sym c.if-some_identical.true ∙ c.some_identical.ensures s t here)
    c.c_number-c.ensures)
    c.write_clause.ensures

pub returns-else-some_identical : goal.returns-else-some_identical
returns-else-some_identical c =
    λ s t here.
    lays_as
    (other_text (setting_of c.args.self.now.placed) c.args.self.now.u c.args.self.now.v s t (sym c.if-some_identical.false ∙ c.some_identical.ensures s t here)
    c.c_number-c.ensures
    (c.parts_of_c.ensures.are s t here))
    c.write_some_parts.ensures
