-- Two replies that the contract of one function allows are equal, and so is what they leave in the lent buffer, said of the contracts themselves. Assumes nothing.
use Prim.Native.Nat.{ℕ}
use mathlib.Core.Path.{◌≡◌, sym, ◌∙◌}
use contract.Lifetimes.{Lfts}
use borrow.Fn.Kinds.{Dens, ended_of}
use denote.Triple.Clauses.{AtExit}
use Rattle.text.proofs.Laying.{lays_settled}
use Rattle.rule_blocks.proofs.rules.write_rule_block.Kinds as write_rule_block_kinds
use Rattle.rule_blocks.proofs.rules.write_rule_block.Reads as write_rule_block
use Rattle.rule_blocks.proofs.rules.rule_clauses.Kinds as rule_clauses_kinds
use Rattle.rule_blocks.proofs.rules.rule_clauses.Reads as rule_clauses

pub write_rule_block_settled :
    (κs : Lfts 3) (a : Dens κs write_rule_block_kinds.ps) (r r' : ℕ) (e e' : AtExit (ended_of 3 write_rule_block_kinds.ps write_rule_block_kinds.r) κs) →
    write_rule_block.Pre κs a → write_rule_block.Post κs a r e → write_rule_block.Post κs a r' e' → (r ≡ r') × (e.1.1.1.0.now ≡ e'.1.1.1.0.now)
write_rule_block_settled κs a r r' e e' was p p' = lays_settled (p was.0.rule was.0.stands) (p' was.0.rule was.0.stands)

pub rule_clauses_settled :
    (κs : Lfts 2) (a : Dens κs rule_clauses_kinds.ps) (r r' : ℕ) (e e' : AtExit (ended_of 2 rule_clauses_kinds.ps rule_clauses_kinds.r) κs) →
    rule_clauses.Pre κs a → rule_clauses.Post κs a r e → rule_clauses.Post κs a r' e' → r ≡ r'
rule_clauses_settled κs a r r' e e' was p p' = p.1 was.rule was.stands ∙ sym (p'.1 was.rule was.stands)
