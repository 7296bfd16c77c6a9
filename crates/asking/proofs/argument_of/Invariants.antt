-- The loop's invariant: so many arguments of whatever term stands there were passed.
use Prim.Native.Nat.{ℕ}
use Rattle.term.specs.Term.{Term}
use Rattle.term.specs.At.{At}
use Rattle.asking.proofs.ArgumentPart.{Passing}
use Rattle.asking.proofs.argument_of.Given as goal

abbrev pub invariant-loop : goal.invariant-loop
invariant-loop l =
    (t : Term) (e : ℕ) → At l.terms.bytes.now l.terms.arities 0 t e → Passing l.terms.bytes.now l.terms.arities t e l.number l.start l.counter
