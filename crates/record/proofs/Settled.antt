-- Two replies that the contract of one function allows are equal, said of the contracts themselves. Assumes nothing.
use Prim.Native.Nat.{ℕ}
use mathlib.Core.Path.{◌≡◌, sym, ◌∙◌}
use contract.Lifetimes.{Lfts}
use borrow.Fn.Kinds.{Dens, ended_of}
use denote.Triple.Clauses.{AtExit}
use Rattle.std.specs.Prelude.{Result}
use Rattle.reply.specs.declared.Refusal.{Refusal as Named}
use Rattle.record.specs.declared.RecordFault.{RecordFault}
use Rattle.record.proofs.read_record.Kinds as read_record_kinds
use Rattle.record.proofs.read_record.Reads as read_record
use Rattle.record.proofs.RefusalFromRecordFault.from.Kinds as record_refusal_kinds
use Rattle.record.proofs.RefusalFromRecordFault.from.Reads as record_refusal

-- Reading a record.
pub read_record_settled :
    (κs : Lfts 1) (a : Dens κs read_record_kinds.ps) (r r' : Result ℕ RecordFault) (e e' : AtExit (ended_of 1 read_record_kinds.ps read_record_kinds.r) κs) →
    read_record.Post κs a r e → read_record.Post κs a r' e' → r ≡ r'
read_record_settled κs a r r' e e' p p' = p.0 ∙ sym p'.0

-- The refusal of a faulty record.
pub record_refusal_settled :
    (κs : Lfts 0) (a : Dens κs record_refusal_kinds.ps) (r r' : Named) (e e' : AtExit (ended_of 0 record_refusal_kinds.ps record_refusal_kinds.r) κs) →
    record_refusal.Post κs a r e → record_refusal.Post κs a r' e' → r ≡ r'
record_refusal_settled κs a r r' e e' p p' = p ∙ sym p'
