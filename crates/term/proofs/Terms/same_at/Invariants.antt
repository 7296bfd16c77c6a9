-- `missing` terms stand from `left` and from `right` to their ends, and decide whether those at a and b are identical.
use Prim.Native.Nat.{ℕ, ◌+◌, ◌-◌, ◌<◌}
use mathlib.Core.List.{List}
use lib.ListN.{length}
use Rattle.term.specs.Term.{Term, same}
use Rattle.term.specs.At.{At, Standing}
use Rattle.term.proofs.SameAt.{Pairs}
use Rattle.term.proofs.Terms.same_at.Given as goal

-- What terms that stand at a and b leave to compare, and the first pair of that, both bytes of whose roots are there.
pub record ToCompare (bytes arities : List ℕ) (a b missing left right : ℕ) : Type 0 where
  pub come : (s t : Term) (d e : ℕ) → At bytes arities a s d → At bytes arities b t e → Pairs bytes arities missing left right d e (same s t)
  pub next : 0 < missing → Standing bytes arities left
  pub left_root : 0 < missing → left + 1 < length bytes
  pub right_root : 0 < missing → right + 1 < length bytes

abbrev pub invariant-loop-missing : goal.invariant-loop-missing
invariant-loop-missing l = ToCompare l.self.bytes.now l.self.arities l.a l.b l.missing l.left l.right

abbrev pub decreases-loop-missing : goal.decreases-loop-missing
decreases-loop-missing l = length l.self.bytes.now - l.left
