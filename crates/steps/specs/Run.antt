-- The run: document 01's steps against a budget.
use Rattle.std.specs.Prelude.{ℕ, zero, suc, ◌≤◌, ◌<◌, true, false, List, ◌≡◌, leb}
use Rattle.std.proofs.Math.Option.{none, some}
use Rattle.reply.specs.Reply.{Reply, given, unless, ◌>>◌, ◌>>=◌, ◌at◌}
use Rattle.term.specs.Term.{Term, size}
use Rattle.book.specs.Book.{Book, Rule}
use Rattle.book.specs.Reading.{read_book}
use Rattle.record.specs.Record.{record_bytes, read_record}
use Rattle.order.specs.Clearing.{ranks_clear}
use Rattle.steps.specs.Step.{step_of, OwnSteps}

-- How a run ends: "Done", "Spent", "Too large".
pub data Outcome : Type 0 where
  done spent too_large : Outcome

-- "In all three the count is that of the steps made", with the term reached.
pub record Ran : Type 0 where
  pub outcome : Outcome
  pub steps : ℕ
  pub reached : Term

-- "Done: no rule fits the term reached. Spent: the budget is used and a rule still fits. Too large: steps remain, a rule fits, and the
-- next term would have more than 256 nodes." `made` steps led to t.
unfoldable pub run_from : List Rule → (budget made : ℕ) → Term → Ran
run_from rules zero made t =
    elim (step_of rules t) [
      | none ↦ record { outcome = done; steps = made; reached = t }
      | some t' ↦ record { outcome = spent; steps = made; reached = t }
    ]
run_from rules (suc budget) made t =
    elim (step_of rules t) [
      | none ↦ record { outcome = done; steps = made; reached = t }
      | some t' ↦
          elim (leb (size t') 256) [
            | true ↦ run_from rules budget (suc made) t'
            | false ↦ record { outcome = too_large; steps = made; reached = t }
          ]
    ]

-- What each outcome says of the term reached: "Done: no rule fits"; "Spent: the budget is used and a rule still fits"; "Too large: steps
-- remain, a rule fits, and the next term would have more than 256 nodes".
unfoldable pub Means : Outcome → List Rule → (budget steps : ℕ) → Term → Type 0
Means done rules budget steps t = step_of rules t ≡ none
Means spent rules budget steps t = (steps ≡ budget) × ((t' : Term) × (step_of rules t ≡ some t'))
Means too_large rules budget steps t = (steps < budget) × ((t' : Term) × (step_of rules t ≡ some t') × (256 < size t'))

-- "A run yields the term and the step count of the rewriting rules": a run of t answers this exactly if so many own steps, no more than the
-- budget, lead from t to the term reached, and the outcome is the one that this term has.
pub record Yields (rules : List Rule) (budget : ℕ) (t : Term) (ran : Ran) : Type 0 where
  pub steps : OwnSteps rules ran.steps t ran.reached
  pub within : ran.steps ≤ budget
  pub means : Means ran.outcome rules budget ran.steps ran.reached

-- The run of a cleared book: "11, 9", 9 for a "lent buffer under .. 513"; `room` is the lent buffer's length. How the book was cleared is asked
-- before.
unfoldable pub ran_cleared : Book → (record' : List ℕ) (budget room : ℕ) → Reply Ran
ran_cleared book record' budget room = do
  t ← read_record book.arities record'
  unless (leb 513 room) (9 at 0)
  given (run_from book.rules budget 0 t)

-- ENTRY POINT: run. "The run checks the ranks itself"; "run 7, 8, 11, 9".
unfoldable pub run : (book ranks record' : List ℕ) (budget room : ℕ) → Reply Ran
run book ranks record' budget room = do
  b ← read_book book
  ranks_clear b ranks
  ran_cleared b record' budget room

-- "the start of the lent buffer holds the term reached with its end record"
unfoldable pub ran_bytes : Reply Ran → Reply (List ℕ)
ran_bytes reply = do
  ran ← reply
  given (record_bytes ran.reached)
