-- Two replies that the contract of `ranks_from_answer` allows are equal, and so is what they leave in the lent buffer, said of the
-- contract itself: an answer can be told from what it means. Assumes nothing.
use Prim.Native.Nat.{ℕ}
use mathlib.Core.Path.{◌≡◌, sym, ◌∙◌}
use contract.Lifetimes.{Lfts}
use borrow.Fn.Kinds.{Dens, ended_of}
use denote.Triple.Clauses.{AtExit}
use Rattle.reply.specs.declared.Refusal.{Refusal as Named}
use Rattle.std.specs.Prelude.{Result}
use Rattle.reply.proofs.Replied.{replied_apart}
use Rattle.answer.proofs.ranks_from_answer.Kinds as ranks_from_answer_kinds
use Rattle.answer.proofs.ranks_from_answer.Reads as ranks_from_answer

-- Ranks from an answer: the answer, and the lent buffer's last content.
pub ranks_from_answer_settled :
    (κs : Lfts 3) (a : Dens κs ranks_from_answer_kinds.ps) (r r' : Result ℕ Named)
    (e e' : AtExit (ended_of 3 ranks_from_answer_kinds.ps ranks_from_answer_kinds.r) κs) →
    ranks_from_answer.Post κs a r e → ranks_from_answer.Post κs a r' e' → (r ≡ r') × (e.1.1.0.now ≡ e'.1.1.0.now)
ranks_from_answer_settled κs a r r' e e' p p' = (replied_apart r r' (p.0 ∙ sym p'.0), p.1 ∙ sym p'.1)
