-- The loop has counted the clauses of the blocks that it passed.
use Rattle.std.proofs.Common.{◌*◌, ◌≤◌, ◌≡◌, length, take}
use mathlib.Core.List.{flatten}
use Rattle.book.specs.Book.{Rule}
use Rattle.clauses.specs.Blocks.{rule_blocks}
use Rattle.rule_blocks.specs.Nodes.{setting_of}
use Rattle.rule_blocks.specs.Rules.{RuleStands}
use Rattle.rule_blocks.proofs.rules.rule_clauses.Given as goal

abbrev pub invariant-loop-number : goal.invariant-loop-number
invariant-loop-number l =
    record {
      few : l.clauses ≤ 16 * l.number;
      count : (rule : Rule) → RuleStands l.terms.bytes.now l.terms.arities l.placed rule →
          l.clauses ≡ length (flatten (take l.number (rule_blocks (setting_of l.placed) rule)));
    }
