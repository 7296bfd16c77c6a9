-- The loop's invariant: the rules before do not fit whatever subterm stands there.
use Prim.Native.Nat.{ℕ}
use Rattle.term.specs.Term.{Term}
use Rattle.term.specs.At.{At}
use Rattle.matching.specs.RulesIn.{rules_in}
use Rattle.matching.proofs.RuleByRule.{Tried}
use Rattle.matching.proofs.first_rule.Given as goal

abbrev pub invariant-loop-rule : goal.invariant-loop-rule
invariant-loop-rule l =
    (s : Term) (e : ℕ) → At l.bytes l.book.places.arities l.at s e → Tried (rules_in l.book.bytes.now l.book.places) s l.rule
