-- Two replies that the contract of one function allows are equal, said of the contracts themselves. Assumes nothing.
use Prim.Native.Nat.{ℕ}
use mathlib.Core.Bool.{Bool}
use mathlib.Core.Option.{some-injective, none-ne-some, some-ne-none}
use mathlib.Core.Path.{◌≡◌, refl, sym, ap, ◌∙◌}
use contract.Lifetimes.{Lfts}
use borrow.Fn.Kinds.{Dens, ended_of}
use denote.Triple.Clauses.{AtExit}
use Rattle.std.specs.Prelude.{Option, Some, None}
use Rattle.words.specs.Numbers.{told}
use Rattle.words.proofs.next.Kinds as next_kinds
use Rattle.words.proofs.next.Reads as next
use Rattle.words.proofs.same.Kinds as same_kinds
use Rattle.words.proofs.same.Reads as same
use Rattle.words.proofs.grown.Kinds as grown_kinds
use Rattle.words.proofs.grown.Reads as grown
use Rattle.words.proofs.number_within.Kinds as number_within_kinds
use Rattle.words.proofs.number_within.Reads as number_within

-- Two numbers with one meaning are the same.
number_apart : (a b : Option ℕ) → told a ≡ told b → a ≡ b
number_apart (Some v) (Some w) e = ap (λ (n : ℕ). Some n) (some-injective v w e)
number_apart (Some v) None e = absurd (some-ne-none v e)
number_apart None (Some w) e = absurd (none-ne-some w e)
number_apart None None e = refl

pub next_settled :
    (κs : Lfts 1) (a : Dens κs next_kinds.ps) (r r' : ℕ) (e e' : AtExit (ended_of 1 next_kinds.ps next_kinds.r) κs) →
    next.Post κs a r e → next.Post κs a r' e' → r ≡ r'
next_settled κs a r r' e e' p p' = p ∙ sym p'

pub same_settled :
    (κs : Lfts 2) (a : Dens κs same_kinds.ps) (r r' : Bool) (e e' : AtExit (ended_of 2 same_kinds.ps same_kinds.r) κs) →
    same.Post κs a r e → same.Post κs a r' e' → r ≡ r'
same_settled κs a r r' e e' p p' = p ∙ sym p'

pub grown_settled :
    (κs : Lfts 0) (a : Dens κs grown_kinds.ps) (r r' : Option ℕ) (e e' : AtExit (ended_of 0 grown_kinds.ps grown_kinds.r) κs) →
    grown.Post κs a r e → grown.Post κs a r' e' → r ≡ r'
grown_settled κs a r r' e e' p p' = number_apart r r' (p ∙ sym p')

pub number_within_settled :
    (κs : Lfts 1) (a : Dens κs number_within_kinds.ps) (r r' : Option ℕ) (e e' : AtExit (ended_of 1 number_within_kinds.ps number_within_kinds.r) κs) →
    number_within.Post κs a r e → number_within.Post κs a r' e' → r ≡ r'
number_within_settled κs a r r' e e' p p' = p ∙ sym p'
