-- The place of a step, and the rule that the step takes there, where they stand in bytes.
use Rattle.std.specs.Prelude.{ℕ, List, ◌≡◌, length, Option, Some, None}
use Rattle.std.proofs.Math.Option.{none, some}
use Rattle.term.specs.Term.{Term}
use Rattle.term.specs.Replacement.{Occurs}
use Rattle.term.specs.At.{At}
use Rattle.book.specs.Book.{Rule}
use Rattle.steps.specs.Fits.{matching}
use Rattle.steps.specs.Step.{rule_of}
use Rattle.steps.specs.NextStep.{lowest, taken_in}
use Rattle.building.specs.Right.{start_of, TermAt}
use Rattle.building.specs.declared.Fit.{Fit}
use Rattle.building.specs.declared.Place.{Place}
use Rattle.matching.specs.Table.{table_of}

-- The bytes are those of a term.
pub record Whole (bytes arities : List ℕ) : Type 0 where
  pub term : Term
  pub stands : At bytes arities 0 term (length bytes)

-- The rule that the step takes at s, which starts at a place, and the table that holds its match.
pub record Applies (bytes arities : List ℕ) (rules : List Rule) (s : Term) (place : ℕ) (fit : Fit) : Type 0 where
  pub is_lowest : lowest rules s ≡ some fit.rule
  pub table : fit.table ≡ table_of (rule_of rules fit.rule).left s place
  pub variables :
      (x : ℕ) → Occurs x (rule_of rules fit.rule).left →
      TermAt bytes arities (start_of fit.table x) (matching (rule_of rules fit.rule).left s x)

-- Whether some rule fits s, and then which.
unfoldable pub FirstRule : (bytes arities : List ℕ) (rules : List Rule) (s : Term) (place : ℕ) → Option Fit → Type 0
FirstRule bytes arities rules s place None = lowest rules s ≡ none
FirstRule bytes arities rules s place (Some fit) = Applies bytes arities rules s place fit

-- The rule and the place are those that the step of t takes; the subterm there stands from `at` to `end`.
pub record StepAt (bytes arities : List ℕ) (rules : List Rule) (t : Term) (place : Place) : Type 0 where
  pub is_taken : taken_in rules 0 t ≡ some (record { rule = place.fit.rule; place = place.at })
  pub subterm : Term
  pub stands : At bytes arities place.at subterm place.end
  pub applies : Applies bytes arities rules subterm place.at place.fit

-- "the first place in postorder at which some rule fits", if there is one.
unfoldable pub FirstPlace : (bytes arities : List ℕ) (rules : List Rule) (t : Term) → Option Place → Type 0
FirstPlace bytes arities rules t None = taken_in rules 0 t ≡ none
FirstPlace bytes arities rules t (Some place) = StepAt bytes arities rules t place
