-- Two replies that the contract of one function allows are equal, said of the contracts themselves: a result can be told from what it is
-- on paper. Assumes nothing.
use mathlib.Core.Path.{◌≡◌, sym, ◌∙◌}
use contract.Lifetimes.{Lfts}
use borrow.Fn.Kinds.{Dens, ended_of}
use denote.Triple.Clauses.{AtExit}
use Rattle.std.specs.Prelude.{Result}
use Rattle.reply.specs.declared.Refusal.{Refusal as Named}
use Rattle.reply.proofs.Replied.{replied_apart}
use Rattle.clearing.proofs.first_not_decreasing.Kinds as first_not_decreasing_kinds
use Rattle.clearing.proofs.first_not_decreasing.Reads as first_not_decreasing
use Rattle.clearing.proofs.ranks_clear.Kinds as ranks_clear_kinds
use Rattle.clearing.proofs.ranks_clear.Reads as ranks_clear
use Rattle.clearing.proofs.check_ranks.Kinds as check_ranks_kinds
use Rattle.clearing.proofs.check_ranks.Reads as check_ranks

pub first_not_decreasing_settled :
    (κs : Lfts 2) (a : Dens κs first_not_decreasing_kinds.ps) (r r' : Result (Unit {0}) Named)
    (e e' : AtExit (ended_of 2 first_not_decreasing_kinds.ps first_not_decreasing_kinds.r) κs) → first_not_decreasing.Post κs a r e →
    first_not_decreasing.Post κs a r' e' → r ≡ r'
first_not_decreasing_settled κs a r r' e e' p p' = replied_apart r r' (p ∙ sym p')

pub ranks_clear_settled :
    (κs : Lfts 3) (a : Dens κs ranks_clear_kinds.ps) (r r' : Result (Unit {0}) Named) (e e' : AtExit (ended_of 3 ranks_clear_kinds.ps ranks_clear_kinds.r) κs) →
    ranks_clear.Post κs a r e → ranks_clear.Post κs a r' e' → r ≡ r'
ranks_clear_settled κs a r r' e e' p p' = replied_apart r r' (p ∙ sym p')

pub check_ranks_settled :
    (κs : Lfts 2) (a : Dens κs check_ranks_kinds.ps) (r r' : Result (Unit {0}) Named) (e e' : AtExit (ended_of 2 check_ranks_kinds.ps check_ranks_kinds.r) κs) →
    check_ranks.Post κs a r e → check_ranks.Post κs a r' e' → r ≡ r'
check_ranks_settled κs a r r' e e' p p' = replied_apart r r' (p ∙ sym p')
