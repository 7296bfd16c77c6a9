-- The term that a run reaches is again one that a record can hold: over the book's symbols, without variables, of at most 256 nodes. A
-- rule that decreases brings no new variable, and a step to a larger term is not made. Assumes nothing.
use Prim.Native.Nat.{ℕ, ◌≤◌}
use mathlib.Core.List.{List, Memᴰ}
use lib.Dec.{T, leb→le}
use Rattle.reply.proofs.Tests.{passed, and_left, and_right}
use Rattle.term.specs.Term.{Term, Args, size, over, variable_free, variables_free}
use Rattle.term.specs.Replacement.{Occurs, OccursIn, it, under, first, later}
use Rattle.term.proofs.Prefix.{no-variable→free}
use Rattle.book.specs.Book.{Rule}
use Rattle.order.specs.ReductionOrder.{Among, ReductionOrder}
use Rattle.steps.specs.Run.{run_from}
use Rattle.steps.specs.Step.{Step}
use Rattle.steps.proofs.Bound.{step_among}
use Rattle.steps.proofs.OwnStep.{own_step_is_free}
use Rattle.steps.proofs.Run.{every_run}

-- No variable occurs in a term without variables.
mutual
  unfolding variable_free

  free→no-variable : {t : Term} {x : ℕ} → Occurs x t → T (variable_free t) → ⊥
  free→no-variable it free = free
  free→no-variable (under i) free = free→no-variable-in i free

  free→no-variable-in : {ts : Args} {x : ℕ} → OccursIn x ts → T (variables_free ts) → ⊥
  free→no-variable-in (first {t = t} {ts = ts} i) free = free→no-variable i (and_left (variable_free t) (variables_free ts) free)
  free→no-variable-in (later {t = t} {ts = ts} i) free = free→no-variable-in i (and_right (variable_free t) (variables_free ts) free)

-- A term that a record can hold.
pub record Recordable (arities : List ℕ) (t : Term) : Type 0 where
  pub over_symbols : T (over arities t)
  pub ground : T (variable_free t)
  pub few : size t ≤ 256

module _
    {arities : List ℕ} {◌≻◌ : Term → Term → Type 0} (order : ReductionOrder arities ◌≻◌) (rules : List Rule)
    (decrease : (rule : Rule) → Memᴰ rule rules → Among arities ◌≻◌ rule.left rule.right) where
  step_recordable : (s t : Term) → Step rules s t → size t ≤ 256 → Recordable arities s → Recordable arities t
  step_recordable s t st few r =
      let down = step_among order decrease st r.over_symbols in
      record {
        over_symbols = down.right_over;
        ground = no-variable→free t (λ x o. free→no-variable (order.no_new_variable s t down.above x o) r.ground);
        few = few;
      }

  pub run_recordable : (budget made : ℕ) (t : Term) → Recordable arities t → Recordable arities (run_from rules budget made t).reached
  run_recordable =
      every_run rules (λ budget made t ran. Recordable arities t → Recordable arities ran.reached)
      record {
        is_done = λ budget made t p r. r;
        is_spent = λ made t t' p r. r;
        is_too_large = λ budget made t t' p q r. r;
        goes_on = λ budget made t t' ran p q later r.
            later (step_recordable t t' ((own_step_is_free rules t).0 t' p) (leb→le (size t') 256 (passed q)) r);
      }
