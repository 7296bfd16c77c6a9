-- Two replies that the contract of one function allows are equal, and so is what they leave in the lent buffer, said of the contracts themselves. Assumes nothing.
use Prim.Native.Nat.{ℕ}
use mathlib.Core.List.{[], ◌∷◌}
use mathlib.Core.Path.{◌≡◌, sym, ◌∙◌}
use contract.Lifetimes.{Lfts}
use borrow.Fn.Kinds.{Dens, ended_of}
use borrow.Fn.World.{ResD}
use denote.Triple.Clauses.{AtExit}
use Rattle.text.proofs.Laying.{lays_settled}
use Rattle.clause_bytes.specs.Meaning.{parts_in}
use Rattle.clause_bytes.specs.declared.writing.Literal.{Literal}
use Rattle.clause_bytes.specs.declared.gathering.Parts.{Parts}
use Rattle.clause_bytes.proofs.gathering.Parts.none.Kinds as none_kinds
use Rattle.clause_bytes.proofs.gathering.Parts.none.Reads as none
use Rattle.clause_bytes.proofs.gathering.Parts.with.Kinds as with_kinds
use Rattle.clause_bytes.proofs.gathering.Parts.with.Reads as with
use Rattle.clause_bytes.specs.contracts.gathering.Parts.as_slice as as_slice_contract
use Rattle.clause_bytes.proofs.gathering.Parts.as_slice.Kinds as as_slice_kinds
use Rattle.clause_bytes.proofs.gathering.Parts.as_slice.Reads as as_slice
use Rattle.clause_bytes.proofs.writing.write_clause.Kinds as write_clause_kinds
use Rattle.clause_bytes.proofs.writing.write_clause.Reads as write_clause
use Rattle.clause_bytes.proofs.parts.write_all_parts.Kinds as write_all_parts_kinds
use Rattle.clause_bytes.proofs.parts.write_all_parts.Reads as write_all_parts
use Rattle.clause_bytes.proofs.parts.write_some_parts.Kinds as write_some_parts_kinds
use Rattle.clause_bytes.proofs.parts.write_some_parts.Reads as write_some_parts

pub write_clause_settled :
    (κs : Lfts 2) (a : Dens κs write_clause_kinds.ps) (r r' : ℕ) (e e' : AtExit (ended_of 2 write_clause_kinds.ps write_clause_kinds.r) κs) →
    write_clause.Post κs a r e → write_clause.Post κs a r' e' → (r ≡ r') × (e.1.0.now ≡ e'.1.0.now)
write_clause_settled κs a r r' e e' p p' = lays_settled p p'

-- Of clauses of one, two and three literals.
pub write_clause_of_one_settled :
    (l : Literal) (κs : Lfts 2) (a : Dens κs write_clause_kinds.ps) (r r' : ℕ)
    (e e' : AtExit (ended_of 2 write_clause_kinds.ps write_clause_kinds.r) κs) → a.0.now ≡ l ∷ [] →
    write_clause.Post κs a r e → write_clause.Post κs a r' e' → (r ≡ r') × (e.1.0.now ≡ e'.1.0.now)
write_clause_of_one_settled l κs a r r' e e' is = write_clause_settled κs a r r' e e'

pub write_clause_of_two_settled :
    (l m : Literal) (κs : Lfts 2) (a : Dens κs write_clause_kinds.ps) (r r' : ℕ)
    (e e' : AtExit (ended_of 2 write_clause_kinds.ps write_clause_kinds.r) κs) → a.0.now ≡ l ∷ m ∷ [] →
    write_clause.Post κs a r e → write_clause.Post κs a r' e' → (r ≡ r') × (e.1.0.now ≡ e'.1.0.now)
write_clause_of_two_settled l m κs a r r' e e' are = write_clause_settled κs a r r' e e'

pub write_clause_of_three_settled :
    (l m n : Literal) (κs : Lfts 2) (a : Dens κs write_clause_kinds.ps) (r r' : ℕ)
    (e e' : AtExit (ended_of 2 write_clause_kinds.ps write_clause_kinds.r) κs) → a.0.now ≡ l ∷ m ∷ n ∷ [] →
    write_clause.Post κs a r e → write_clause.Post κs a r' e' → (r ≡ r') × (e.1.0.now ≡ e'.1.0.now)
write_clause_of_three_settled l m n κs a r r' e e' are = write_clause_settled κs a r r' e e'

pub write_all_parts_settled :
    (κs : Lfts 1) (a : Dens κs write_all_parts_kinds.ps) (r r' : ℕ) (e e' : AtExit (ended_of 1 write_all_parts_kinds.ps write_all_parts_kinds.r) κs) →
    write_all_parts.Post κs a r e → write_all_parts.Post κs a r' e' → (r ≡ r') × (e.1.1.0.now ≡ e'.1.1.0.now)
write_all_parts_settled κs a r r' e e' p p' = lays_settled p p'

pub write_some_parts_settled :
    (κs : Lfts 1) (a : Dens κs write_some_parts_kinds.ps) (r r' : ℕ) (e e' : AtExit (ended_of 1 write_some_parts_kinds.ps write_some_parts_kinds.r) κs) →
    write_some_parts.Post κs a r e → write_some_parts.Post κs a r' e' → (r ≡ r') × (e.1.1.0.now ≡ e'.1.1.0.now)
write_some_parts_settled κs a r r' e e' p p' = lays_settled p p'

-- What stands behind the parts that a value holds is no part of it.
pub none_settled :
    (κs : Lfts 0) (a : Dens κs none_kinds.ps) (r r' : Parts) (e e' : AtExit (ended_of 0 none_kinds.ps none_kinds.r) κs) →
    none.Post κs a r e → none.Post κs a r' e' → (r.many ≡ r'.many) × (parts_in r ≡ parts_in r')
none_settled κs a r r' e e' p p' = (p.0 ∙ sym p'.0, p.1 ∙ sym p'.1)

pub with_settled :
    (κs : Lfts 0) (a : Dens κs with_kinds.ps) (r r' : Parts) (e e' : AtExit (ended_of 0 with_kinds.ps with_kinds.r) κs) →
    with.Post κs a r e → with.Post κs a r' e' → (r.many ≡ r'.many) × (parts_in r ≡ parts_in r')
with_settled κs a r r' e e' p p' = (p.0 ∙ sym p'.0, p.1 ∙ sym p'.1)

pub as_slice_settled :
    (κs : Lfts 1) (a : Dens κs as_slice_kinds.ps) (r r' : ResD as_slice_contract.signature κs) (e e' : AtExit (ended_of 1 as_slice_kinds.ps as_slice_kinds.r) κs) →
    as_slice.Post κs a r e → as_slice.Post κs a r' e' → r.now ≡ r'.now
as_slice_settled κs a r r' e e' p p' = p ∙ sym p'
