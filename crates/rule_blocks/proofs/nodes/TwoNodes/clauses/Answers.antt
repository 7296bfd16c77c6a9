-- A whole has one clause for each part and one more.
use borrow.Author.Rules.{rules}
use mathlib.Core.Path.{sym, ◌∙◌}
use native.Mathlib.Omega.{arith}
use Rattle.rule_blocks.specs.Nodes.{setting_of}
use Rattle.clause_bytes.proofs.BothWays.{parts_counted}
use Rattle.rule_blocks.proofs.NodesBlock.{identical_count, other_count}
use Rattle.rule_blocks.proofs.nodes.TwoNodes.clauses.Goals as goal

pub returns-then-some_identical-clause-count : goal.returns-then-some_identical-clause-count
returns-then-some_identical-clause-count c =
    λ s t here.
    identical_count (setting_of c.args.self.now.placed) c.args.self.now.u c.args.self.now.v s t (sym c.if-some_identical.true ∙ c.some_identical.ensures s t here)
    (parts_counted c.parts_of_d-d.result (omega arith) (search rules) (c.parts_of_d-d.ensures.are s t here))

pub returns-else-some_identical-clause-count : goal.returns-else-some_identical-clause-count
returns-else-some_identical-clause-count c =
    λ s t here.
    other_count (setting_of c.args.self.now.placed) c.args.self.now.u c.args.self.now.v s t (sym c.if-some_identical.false ∙ c.some_identical.ensures s t here)
    (parts_counted c.parts_of_d-d.result (omega arith) (search rules) (c.parts_of_d-d.ensures.are s t here))
    (parts_counted c.parts_of_c.result (omega arith) (search rules) (c.parts_of_c.ensures.are s t here))
