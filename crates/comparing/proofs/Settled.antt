-- Two replies that the contract of the comparison allows are equal: they are the test's answer for the terms that stand at its places.
-- Assumes nothing.
use mathlib.Core.Bool.{Bool}
use mathlib.Core.Path.{◌≡◌, sym, ◌∙◌}
use contract.Lifetimes.{Lfts}
use borrow.Fn.Kinds.{Dens, ended_of}
use denote.Triple.Clauses.{AtExit}
use Rattle.comparing.proofs.Ranked.exceeds.Kinds as exceeds_kinds
use Rattle.comparing.proofs.Ranked.exceeds.Reads as exceeds

pub exceeds_settled :
    (κs : Lfts 2) (a : Dens κs exceeds_kinds.ps) (r r' : Bool) (e e' : AtExit (ended_of 2 exceeds_kinds.ps exceeds_kinds.r) κs) →
    exceeds.Pre κs a → exceeds.Post κs a r e → exceeds.Post κs a r' e' → r ≡ r'
exceeds_settled κs a r r' e e' (s, t) p p' =
    p s.term t.term s.behind t.behind s.stands t.stands
    ∙ sym (p' s.term t.term s.behind t.behind s.stands t.stands)
