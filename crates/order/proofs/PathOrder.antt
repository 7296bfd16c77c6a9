-- The order is a reduction order, whatever the arities, if `above` ends from every symbol, and so it is over any ranks. Assumes nothing.
use Prim.Native.Nat.{ℕ, zero, suc, ◌<◌}
use mathlib.Core.List.{List}
use native.Mathlib.Omega.{arith}
use lib.ListN.{get_or}
use Rattle.term.specs.Term.{Term}
use Rattle.order.specs.Precedence.{Above}
use Rattle.order.specs.Exceeds.{Exceeds}
use Rattle.order.specs.ReductionOrder.{Ends, ends, Among, ReductionOrder}
use Rattle.order.proofs.Kept.{kept_under_replacement_lem, kept_in_contexts_lem, no_new_variable_lem}
use Rattle.order.proofs.Ends.{never_itself, path_ends}

ends_below : (ranks : List ℕ) (bound f : ℕ) → get_or ranks f 0 < bound → Ends (Above ranks) f
unfolding Above
ends_below ranks zero f small = absurd (omega arith)
ends_below ranks (suc bound) f small = ends (λ g (lower : get_or ranks g 0 < get_or ranks f 0). ends_below ranks bound g (omega arith))

pub ranks_end : (ranks : List ℕ) (f : ℕ) → Ends (Above ranks) f
ranks_end ranks f = ends_below ranks (suc (get_or ranks f 0)) f (omega arith)

-- What ends among all terms ends among those over the arities.
among_ends : (arities : List ℕ) {◌≻◌ : Term → Term → Type 0} {t : Term} → Ends ◌≻◌ t → Ends (Among arities ◌≻◌) t
among_ends arities (ends lower) = ends (λ u among. among_ends arities (lower u among.above))

pub path_order : {above : ℕ → ℕ → Type 0} (arities : List ℕ) → ((f : ℕ) → Ends above f) → ReductionOrder arities (Exceeds above)
path_order arities symbols =
    record {
      comes_to_rest = λ t o. among_ends arities (path_ends symbols t);
      kept_under_replacement = λ σ s t among o. kept_under_replacement_lem σ s t among.above;
      kept_in_contexts = λ f ss ts o p one. kept_in_contexts_lem f ss ts one;
      no_new_variable = no_new_variable_lem;
    }

pub ranks_order : (arities ranks : List ℕ) → ReductionOrder arities (Exceeds (Above ranks))
ranks_order arities ranks = path_order arities (ranks_end ranks)

pub exceeds_irreflexive : (ranks : List ℕ) (t : Term) → Exceeds (Above ranks) t t → ⊥
exceeds_irreflexive ranks t = never_itself (path_ends (ranks_end ranks) t)
