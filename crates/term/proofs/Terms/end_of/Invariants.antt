-- Where a term stands at `at`, `missing` terms stand from `place` to its end. The measure is what is left of the bytes.
use Prim.Native.Nat.{ℕ, ◌+◌, ◌-◌, ◌<◌}
use mathlib.Core.List.{List}
use lib.ListN.{length}
use Rattle.term.specs.Term.{Term}
use Rattle.term.specs.At.{At, Standing}
use Rattle.term.proofs.At.{Several}
use Rattle.term.proofs.Terms.end_of.Given as goal

-- What a term that stands at `at` leaves to come, and the first of that, both bytes of whose root are there.
pub record ToCome (bytes arities : List ℕ) (at missing place : ℕ) : Type 0 where
  pub come : (t : Term) (e : ℕ) → At bytes arities at t e → Several bytes arities missing place e
  pub next : 0 < missing → Standing bytes arities place
  pub root : 0 < missing → place + 1 < length bytes

abbrev pub invariant-loop-missing : goal.invariant-loop-missing
invariant-loop-missing l = ToCome l.self.bytes.now l.self.arities l.at l.missing l.place

abbrev pub decreases-loop-missing : goal.decreases-loop-missing
decreases-loop-missing l = length l.self.bytes.now - l.place
