-- Two replies that the contract of `write_term` allows are equal, and so is what they leave in the lent buffer, said of the contract
-- itself, where a term stands at the place. Assumes nothing.
use Prim.Native.Nat.{ℕ}
use mathlib.Core.Path.{◌≡◌, sym, ap₂, ◌∙◌}
use contract.Lifetimes.{Lfts}
use borrow.Fn.Kinds.{Dens, ended_of}
use denote.Triple.Clauses.{AtExit}
use Rattle.text.proofs.Laying.{lays_settled}
use Rattle.term.specs.Term.{Term}
use Rattle.term.specs.At.{At}
use Rattle.term_text.specs.declared.Texted.{Texted}
use Rattle.term_text.proofs.write_term.Kinds as write_term_kinds
use Rattle.term_text.proofs.write_term.Reads as write_term

pub write_term_settled :
    (κs : Lfts 3) (a : Dens κs write_term_kinds.ps) (r r' : Texted) (e e' : AtExit (ended_of 3 write_term_kinds.ps write_term_kinds.r) κs) →
    (t : Term) (end : ℕ) → At a.0.now.bytes.now a.0.now.arities a.1.0 t end →
    write_term.Post κs a r e → write_term.Post κs a r' e' → (r ≡ r') × (e.1.1.0.now ≡ e'.1.1.0.now)
write_term_settled κs a r r' e e' t end stands p p' =
    let (count, after) = lays_settled (p.text t end stands).0 (p'.text t end stands).0 in
    (ap₂ (λ (l n : ℕ). record { laid = l; next = n }) count ((p.text t end stands).1 ∙ sym (p'.text t end stands).1), after)
