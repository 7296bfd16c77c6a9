-- A term that stands over some declared symbols stands over more. Assumes nothing.
use Prim.Native.Nat.{ℕ, ◌+◌, ◌<◌}
use mathlib.Core.List.{List}
use mathlib.Core.Path.{◌≡◌, subst}
use native.Mathlib.Omega.{arith}
use lib.ListN.{length, get_or, take, length-take}
use lib.Seq.{get_or-take}
use Rattle.term.specs.Term.{Term, Args}
use Rattle.term.specs.At.{At, ArgsAt, variable_at, symbol_at, none_at, and_at}

module _ {bytes some more : List ℕ} (longer : (f : ℕ) → f < length some → f < length more) (same : (f : ℕ) → f < length some → get_or some f 0 ≡ get_or more f 0) where
  mutual
    at_more : {u : ℕ} {t : Term} {e : ℕ} → At bytes some u t e → At bytes more u t e
    at_more (variable_at w k b q) = variable_at w k b q
    at_more (symbol_at {u = u} {f = f} {e = e} {ts = ts} w k b d h) =
        symbol_at w k b (longer f d) (subst (λ (many : ℕ). ArgsAt bytes more many (u + 2) ts e) (same f d) (args_more h))

    args_more : {many u : ℕ} {ts : Args} {e : ℕ} → ArgsAt bytes some many u ts e → ArgsAt bytes more many u ts e
    args_more none_at = none_at
    args_more (and_at h hs) = and_at (at_more h) (args_more hs)

-- The first symbols of a longer table.
pub at_table : {bytes : List ℕ} (n : ℕ) (table : List ℕ) {u : ℕ} {t : Term} {e : ℕ} → At bytes (take n table) u t e → At bytes table u t e
at_table n table h =
    at_more (λ f d. omega (arith, simp length-take at d)) (λ f d. get_or-take n table f 0 (omega (arith, simp length-take at d))) h
