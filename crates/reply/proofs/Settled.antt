-- Two replies that the contract of one function allows are equal, said of the contract itself. Assumes nothing.
use mathlib.Core.Path.{◌≡◌, sym, ◌∙◌}
use contract.Lifetimes.{Lfts}
use borrow.Fn.Kinds.{Dens, ended_of}
use denote.Triple.Clauses.{AtExit}
use Rattle.reply.specs.declared.NumberAt.{NumberAt}
use Rattle.reply.proofs.NumberAtFromRefusal.from.Kinds as numbered_kinds
use Rattle.reply.proofs.NumberAtFromRefusal.from.Reads as numbered

-- The number and the place of a refusal.
pub numbered_settled :
    (κs : Lfts 0) (a : Dens κs numbered_kinds.ps) (r r' : NumberAt) (e e' : AtExit (ended_of 0 numbered_kinds.ps numbered_kinds.r) κs) →
    numbered.Post κs a r e → numbered.Post κs a r' e' → r ≡ r'
numbered_settled κs a r r' e e' p p' = p ∙ sym p'
