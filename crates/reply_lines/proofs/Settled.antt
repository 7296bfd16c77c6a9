-- Two replies that the contract of one function allows are equal, and so is what they leave in the lent buffer, said of the contracts
-- themselves. Assumes nothing.
use Prim.Native.Nat.{ℕ}
use mathlib.Core.Path.{◌≡◌}
use contract.Lifetimes.{Lfts}
use borrow.Fn.Kinds.{Dens, ended_of}
use denote.Triple.Clauses.{AtExit}
use Rattle.text.proofs.Laying.{lays_settled}
use Rattle.reply_lines.proofs.write_refused.Kinds as write_refused_kinds
use Rattle.reply_lines.proofs.write_refused.Reads as write_refused
use Rattle.reply_lines.proofs.write_verdict.Kinds as write_verdict_kinds
use Rattle.reply_lines.proofs.write_verdict.Reads as write_verdict
use Rattle.reply_lines.proofs.write_ranks.Kinds as write_ranks_kinds
use Rattle.reply_lines.proofs.write_ranks.Reads as write_ranks

pub write_refused_settled :
    (κs : Lfts 1) (a : Dens κs write_refused_kinds.ps) (r r' : ℕ) (e e' : AtExit (ended_of 1 write_refused_kinds.ps write_refused_kinds.r) κs) →
    write_refused.Post κs a r e → write_refused.Post κs a r' e' → (r ≡ r') × (e.1.0.now ≡ e'.1.0.now)
write_refused_settled κs a r r' e e' p p' = lays_settled p p'

pub write_verdict_settled :
    (κs : Lfts 1) (a : Dens κs write_verdict_kinds.ps) (r r' : ℕ) (e e' : AtExit (ended_of 1 write_verdict_kinds.ps write_verdict_kinds.r) κs) →
    write_verdict.Post κs a r e → write_verdict.Post κs a r' e' → (r ≡ r') × (e.1.0.now ≡ e'.1.0.now)
write_verdict_settled κs a r r' e e' p p' = lays_settled p p'

pub write_ranks_settled :
    (κs : Lfts 2) (a : Dens κs write_ranks_kinds.ps) (r r' : ℕ) (e e' : AtExit (ended_of 2 write_ranks_kinds.ps write_ranks_kinds.r) κs) →
    write_ranks.Post κs a r e → write_ranks.Post κs a r' e' → (r ≡ r') × (e.1.1.0.now ≡ e'.1.1.0.now)
write_ranks_settled κs a r r' e e' p p' = lays_settled p p'
