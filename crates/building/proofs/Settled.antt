-- Two replies that the contract of one function allows are equal, and so is what they leave in the lent buffer, said of the contracts
-- themselves: a right side stands there, and its variables are held. Assumes nothing.
use Prim.Native.Nat.{ℕ}
use mathlib.Core.List.{List, ◌++◌}
use mathlib.Core.Path.{◌≡◌, sym, ap, ap₂, ◌∙◌}
use contract.Lifetimes.{Lfts}
use borrow.Fn.Kinds.{Dens, ended_of}
use denote.Triple.Clauses.{AtExit}
use lib.ListN.{drop, take-append-drop}
use Rattle.term.specs.Term.{Term}
use Rattle.building.specs.Right.{Built}
use Rattle.building.specs.declared.Place.{Place}
use Rattle.building.proofs.right_length.Kinds as length_kinds
use Rattle.building.proofs.right_length.Reads as right_length
use Rattle.building.proofs.build.Kinds as build_kinds
use Rattle.building.proofs.build.Reads as build

-- The length of a right side under a match.
pub right_length_settled :
    (κs : Lfts 4) (a : Dens κs length_kinds.ps) (r r' : ℕ) (e e' : AtExit (ended_of 4 length_kinds.ps length_kinds.r) κs) →
    right_length.Pre κs a → right_length.Post κs a r e → right_length.Post κs a r' e' → r ≡ r'
right_length_settled κs a r r' e e' (here, short) p p' =
    p here.right here.replacement here.stands here.held ∙ sym (p' here.right here.replacement here.stands here.held)

-- The next term: its length, and the whole buffer.
built_once :
    {bytes : List ℕ} {place : Place} {end end' : ℕ} {before after after' : List ℕ} {t : Term} → Built bytes place end before after t →
    Built bytes place end' before after' t → (end ≡ end') × (after ≡ after')
built_once {end = end} {end' = end'} {before = before} {after = after} {after' = after'} b b' =
    let same : end ≡ end' = b.ends ∙ sym b'.ends in (
      same,
      sym (take-append-drop end after)
          ∙ ap₂ (λ (front behind : List ℕ). front ++ behind) (b.built ∙ sym b'.built) (b.kept ∙ ap (λ (n : ℕ). drop n before) same ∙ sym b'.kept)
          ∙ take-append-drop end' after',
    )

pub build_settled :
    (κs : Lfts 5) (a : Dens κs build_kinds.ps) (r r' : ℕ) (e e' : AtExit (ended_of 5 build_kinds.ps build_kinds.r) κs) →
    build.Pre κs a → build.Post κs a r e → build.Post κs a r' e' → (r ≡ r') × (e.1.1.1.1.1.0.now ≡ e'.1.1.1.1.1.0.now)
build_settled κs a r r' e e' (here, rest) p p' =
    built_once (p here.right here.replacement here.stands here.held) (p' here.right here.replacement here.stands here.held)
