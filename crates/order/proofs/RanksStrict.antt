-- Ranks are a strict precedence. Assumes nothing.
use Prim.Native.Nat.{ℕ, ◌<◌}
use mathlib.Core.List.{List}
use native.Mathlib.Omega.{arith}
use lib.ListN.{get_or}
use Rattle.order.specs.Precedence.{StrictPrecedence, Above}

pub ranks_strict : (n : ℕ) (ranks : List ℕ) → StrictPrecedence n (Above ranks)
unfolding Above
ranks_strict n ranks =
    record {
      irreflexive = λ f h (a : get_or ranks f 0 < get_or ranks f 0). omega arith;
      transitive = λ f g h p q r (a : get_or ranks g 0 < get_or ranks f 0) (b : get_or ranks h 0 < get_or ranks g 0). omega arith;
    }
