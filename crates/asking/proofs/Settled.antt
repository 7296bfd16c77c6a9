-- Two replies that the contract of one function allows are equal, said of the contracts themselves: an answer can be told from what it
-- means. Assumes nothing.
use mathlib.Core.Path.{◌≡◌, sym, ap, ◌∙◌}
use borrow.Fn.Kinds.{Dens, ended_of}
use borrow.Fn.World.{ResD}
use contract.Lifetimes.{Lfts}
use denote.Triple.Clauses.{AtExit}
use Rattle.std.specs.Prelude.{Result, Ok, Err}
use Rattle.reply.specs.Refusals.{numbered}
use Rattle.reply.specs.Replied.{replied_as}
use Rattle.reply.specs.declared.Refusal.{Refusal as Named}
use Rattle.reply.proofs.Given.{given_not_refused}
use Rattle.reply.proofs.Refusals.{numbered_apart}
use Rattle.steps.specs.Argument.{Part}
use Rattle.asking.specs.Asked.{part_of, argument_meaning}
use Rattle.asking.specs.declared.Found.{Found}
use Rattle.asking.specs.contracts.argument as question
use Rattle.asking.proofs.argument.Kinds as question_kinds
use Rattle.asking.proofs.argument.Reads as question_reads
use Rattle.asking.proofs.argument_reply.Kinds as reply_kinds
use Rattle.asking.proofs.argument_reply.Reads as reply_reads

-- Two answers with one meaning are the same: a refusal can be told from its number and place.
argument_apart : (a b : Result Found Named) → argument_meaning a ≡ argument_meaning b → a ≡ b
unfolding argument_meaning replied_as part_of
argument_apart (Ok found) (Ok found') e =
    let same : ◌≡◌ {A = Part} (record { start = found.start; length = found.length }) (record { start = found'.start; length = found'.length }) = cc in
    ap (λ (part : Part). Ok (record { start = part.start; length = part.length })) same
argument_apart (Ok found) (Err s) e = absurd (given_not_refused _ (numbered s) e)
argument_apart (Err r) (Ok found) e = absurd (given_not_refused _ (numbered r) (sym e))
argument_apart (Err r) (Err s) e = ap (λ (why : Named). Err why) (numbered_apart r s cc)

pub argument_reply_settled :
    (κs : Lfts 2) (a : Dens κs reply_kinds.ps) (r r' : Result Found Named) (e e' : AtExit (ended_of 2 reply_kinds.ps reply_kinds.r) κs) →
    reply_reads.Post κs a r e → reply_reads.Post κs a r' e' → r ≡ r'
argument_reply_settled κs a r r' e e' p p' = argument_apart r r' (p ∙ sym p')

-- The part: the same bytes at the same place.
pub argument_settled :
    (κs : Lfts 2) (a : Dens κs question_kinds.ps) (r r' : ResD question.signature κs) (e e' : AtExit (ended_of 2 question_kinds.ps question_kinds.r) κs) →
    question_reads.Post κs a r e → question_reads.Post κs a r' e' → (r.now ≡ r'.now) × (r.ref_ptr.0 ≡ r'.ref_ptr.0) × (r.ref_ptr.1 ≡ r'.ref_ptr.1)
argument_settled κs a r r' e e' p p' = (p.0 ∙ sym p'.0, p.1.0 ∙ sym p'.1.0, p.1.1 ∙ sym p'.1.1)
