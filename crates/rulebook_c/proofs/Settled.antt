-- Two replies that the contract of one export allows are equal, and so is what they leave in the lent buffer, said of the contracts themselves.
-- Assumes nothing.
use mathlib.Core.Path.{◌≡◌, sym, ◌∙◌}
use contract.Lifetimes.{Lfts}
use borrow.Fn.Kinds.{Dens, ended_of}
use denote.Triple.Clauses.{AtExit}
use Rattle.rulebook.specs.declared.replies.BookReply.{BookReply}
use Rattle.rulebook.specs.declared.replies.Verdict.{Verdict}
use Rattle.rulebook.specs.declared.replies.WrittenReply.{WrittenReply}
use Rattle.rulebook.specs.declared.replies.RanReply.{RanReply}
use Rattle.rulebook.specs.declared.replies.PartReply.{PartReply}
use Rattle.rulebook_c.proofs.rulebook_read_book.Kinds as read_book_kinds
use Rattle.rulebook_c.proofs.rulebook_read_book.Reads as read_book
use Rattle.rulebook_c.proofs.rulebook_check_ranks.Kinds as check_ranks_kinds
use Rattle.rulebook_c.proofs.rulebook_check_ranks.Reads as check_ranks
use Rattle.rulebook_c.proofs.rulebook_write_block.Kinds as write_block_kinds
use Rattle.rulebook_c.proofs.rulebook_write_block.Reads as write_block
use Rattle.rulebook_c.proofs.rulebook_ranks_from_answer.Kinds as ranks_from_answer_kinds
use Rattle.rulebook_c.proofs.rulebook_ranks_from_answer.Reads as ranks_from_answer
use Rattle.rulebook_c.proofs.rulebook_run.Kinds as run_kinds
use Rattle.rulebook_c.proofs.rulebook_run.Reads as run
use Rattle.rulebook_c.proofs.rulebook_argument.Kinds as argument_kinds
use Rattle.rulebook_c.proofs.rulebook_argument.Reads as argument

pub read_book_settled :
    (κs : Lfts 1) (a : Dens κs read_book_kinds.ps) (r r' : BookReply) (e e' : AtExit (ended_of 1 read_book_kinds.ps read_book_kinds.r) κs) →
    read_book.Post κs a r e → read_book.Post κs a r' e' → r ≡ r'
read_book_settled κs a r r' e e' p p' = p ∙ sym p'

pub check_ranks_settled :
    (κs : Lfts 2) (a : Dens κs check_ranks_kinds.ps) (r r' : Verdict) (e e' : AtExit (ended_of 2 check_ranks_kinds.ps check_ranks_kinds.r) κs) →
    check_ranks.Post κs a r e → check_ranks.Post κs a r' e' → r ≡ r'
check_ranks_settled κs a r r' e e' p p' = p ∙ sym p'

pub write_block_settled :
    (κs : Lfts 2) (a : Dens κs write_block_kinds.ps) (r r' : WrittenReply) (e e' : AtExit (ended_of 2 write_block_kinds.ps write_block_kinds.r) κs) →
    write_block.Post κs a r e → write_block.Post κs a r' e' → (r ≡ r') × (e.1.1.0.now ≡ e'.1.1.0.now)
write_block_settled κs a r r' e e' p p' = (p.0 ∙ sym p'.0, p.1 ∙ sym p'.1)

pub ranks_from_answer_settled :
    (κs : Lfts 3) (a : Dens κs ranks_from_answer_kinds.ps) (r r' : WrittenReply) (e e' : AtExit (ended_of 3 ranks_from_answer_kinds.ps ranks_from_answer_kinds.r) κs) →
    ranks_from_answer.Post κs a r e → ranks_from_answer.Post κs a r' e' → (r ≡ r') × (e.1.1.0.now ≡ e'.1.1.0.now)
ranks_from_answer_settled κs a r r' e e' p p' = (p.0 ∙ sym p'.0, p.1 ∙ sym p'.1)

pub run_settled :
    (κs : Lfts 4) (a : Dens κs run_kinds.ps) (r r' : RanReply) (e e' : AtExit (ended_of 4 run_kinds.ps run_kinds.r) κs) →
    run.Post κs a r e → run.Post κs a r' e' → (r ≡ r') × (e.1.1.1.1.0.now ≡ e'.1.1.1.1.0.now)
run_settled κs a r r' e e' p p' = (p.0 ∙ sym p'.0, p.1 ∙ sym p'.1)

pub argument_settled :
    (κs : Lfts 2) (a : Dens κs argument_kinds.ps) (r r' : PartReply) (e e' : AtExit (ended_of 2 argument_kinds.ps argument_kinds.r) κs) →
    argument.Post κs a r e → argument.Post κs a r' e' → r ≡ r'
argument_settled κs a r r' e e' p p' = p ∙ sym p'
