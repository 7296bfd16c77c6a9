-- Two replies that the contract of one function allows are equal, and so is what they leave in the lent buffer, said of the contracts themselves. Assumes nothing.
use Prim.Native.Nat.{ℕ}
use mathlib.Core.Path.{◌≡◌, sym, ◌∙◌}
use contract.Lifetimes.{Lfts}
use borrow.Fn.Kinds.{Dens, ended_of}
use denote.Triple.Clauses.{AtExit}
use Rattle.text.proofs.Laying.{lays_settled}
use Rattle.text.proofs.wide.Kinds as wide_kinds
use Rattle.text.proofs.wide.Reads as wide
use Rattle.text.proofs.writing.write_byte.Kinds as write_byte_kinds
use Rattle.text.proofs.writing.write_byte.Reads as write_byte
use Rattle.text.proofs.writing.write_text.Kinds as write_text_kinds
use Rattle.text.proofs.writing.write_text.Reads as write_text
use Rattle.text.proofs.writing.write_decimal.Kinds as write_decimal_kinds
use Rattle.text.proofs.writing.write_decimal.Reads as write_decimal

pub wide_settled :
    (κs : Lfts 0) (a : Dens κs wide_kinds.ps) (r r' : ℕ) (e e' : AtExit (ended_of 0 wide_kinds.ps wide_kinds.r) κs) →
    wide.Post κs a r e → wide.Post κs a r' e' → r ≡ r'
wide_settled κs a r r' e e' p p' = p ∙ sym p'

pub write_byte_settled :
    (κs : Lfts 1) (a : Dens κs write_byte_kinds.ps) (r r' : ℕ) (e e' : AtExit (ended_of 1 write_byte_kinds.ps write_byte_kinds.r) κs) →
    write_byte.Post κs a r e → write_byte.Post κs a r' e' → (r ≡ r') × (e.1.0.now ≡ e'.1.0.now)
write_byte_settled κs a r r' e e' p p' = lays_settled p p'

pub write_text_settled :
    (κs : Lfts 2) (a : Dens κs write_text_kinds.ps) (r r' : ℕ) (e e' : AtExit (ended_of 2 write_text_kinds.ps write_text_kinds.r) κs) →
    write_text.Post κs a r e → write_text.Post κs a r' e' → (r ≡ r') × (e.1.0.now ≡ e'.1.0.now)
write_text_settled κs a r r' e e' p p' = lays_settled p p'

pub write_decimal_settled :
    (κs : Lfts 1) (a : Dens κs write_decimal_kinds.ps) (r r' : ℕ) (e e' : AtExit (ended_of 1 write_decimal_kinds.ps write_decimal_kinds.r) κs) →
    write_decimal.Post κs a r e → write_decimal.Post κs a r' e' → (r ≡ r') × (e.1.0.now ≡ e'.1.0.now)
write_decimal_settled κs a r r' e e' p p' = lays_settled p p'
