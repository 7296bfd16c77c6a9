-- Two replies that the contract of one function allows are equal, and so is what they leave in the lent buffer, said of the contracts
-- themselves; where a term is told, it stands at the start of the bytes. Assumes nothing.
use Prim.Native.Nat.{ℕ}
use mathlib.Core.Path.{◌≡◌}
use contract.Lifetimes.{Lfts}
use borrow.Fn.Kinds.{Dens, ended_of}
use denote.Triple.Clauses.{AtExit}
use Rattle.text.proofs.Laying.{lays_settled}
use Rattle.term.specs.Term.{Term}
use Rattle.term.specs.At.{At}
use Rattle.run_lines.proofs.write_ran.Kinds as write_ran_kinds
use Rattle.run_lines.proofs.write_ran.Reads as write_ran
use Rattle.run_lines.proofs.write_step.Kinds as write_step_kinds
use Rattle.run_lines.proofs.write_step.Reads as write_step
use Rattle.run_lines.proofs.write_part.Kinds as write_part_kinds
use Rattle.run_lines.proofs.write_part.Reads as write_part

pub write_ran_settled :
    (κs : Lfts 3) (a : Dens κs write_ran_kinds.ps) (r r' : ℕ) (e e' : AtExit (ended_of 3 write_ran_kinds.ps write_ran_kinds.r) κs) →
    (t : Term) (end : ℕ) → At a.1.0.now.bytes.now a.1.0.now.arities 0 t end →
    write_ran.Post κs a r e → write_ran.Post κs a r' e' → (r ≡ r') × (e.1.1.0.now ≡ e'.1.1.0.now)
write_ran_settled κs a r r' e e' t end stands p p' = lays_settled (p.told t end stands) (p'.told t end stands)

pub write_step_settled :
    (κs : Lfts 1) (a : Dens κs write_step_kinds.ps) (r r' : ℕ) (e e' : AtExit (ended_of 1 write_step_kinds.ps write_step_kinds.r) κs) →
    write_step.Post κs a r e → write_step.Post κs a r' e' → (r ≡ r') × (e.1.0.now ≡ e'.1.0.now)
write_step_settled κs a r r' e e' p p' = lays_settled p p'

pub write_part_settled :
    (κs : Lfts 3) (a : Dens κs write_part_kinds.ps) (r r' : ℕ) (e e' : AtExit (ended_of 3 write_part_kinds.ps write_part_kinds.r) κs) →
    (t : Term) (end : ℕ) → At a.1.0.now.bytes.now a.1.0.now.arities 0 t end →
    write_part.Post κs a r e → write_part.Post κs a r' e' → (r ≡ r') × (e.1.1.0.now ≡ e'.1.1.0.now)
write_part_settled κs a r r' e e' t end stands p p' = lays_settled (p.told t end stands) (p'.told t end stands)
