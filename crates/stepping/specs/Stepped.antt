-- What one turn of a run tells: the run ends at the term at hand, or the next term lies in the buffer.
use Rattle.std.specs.Prelude.{ℕ, ◌<◌, ◌≤◌, List, ◌≡◌, take, drop, Result, Ok, Err}
use Rattle.std.proofs.Math.Option.{some}
use Rattle.term.specs.Term.{Term, size}
use Rattle.term.specs.At.{At}
use Rattle.book.specs.Book.{Rule}
use Rattle.steps.specs.Step.{step_of}
use Rattle.steps.specs.Run.{Outcome, done, spent, too_large, Means}
use Rattle.stepping.specs.declared.Outcome.{Outcome as Ending}
use Rattle.stepping.specs.declared.Outcome.TheVariants.{Done, Spent, TooLarge}

-- The outcome on paper.
unfoldable pub outcome_of : Ending → Outcome
outcome_of Done = done
outcome_of Spent = spent
outcome_of TooLarge = too_large

-- The next term stands in the first `length` bytes of the buffer; later bytes keep their values.
pub record NextIn (arities : List ℕ) (rules : List Rule) (t : Term) (left length : ℕ) (before buffer : List ℕ) : Type 0 where
  pub remain : 0 < left
  pub next : Term
  pub is_next : step_of rules t ≡ some next
  pub nodes : size next ≤ 256
  pub stands : At (take length buffer) arities 0 next length
  pub kept : drop length buffer ≡ drop length before

-- With so many steps left and none made. Where the run ends, the buffer is left as it was.
unfoldable pub Tells : Result ℕ Ending → (arities : List ℕ) → List Rule → Term → (left : ℕ) (before buffer : List ℕ) → Type 0
Tells (Err outcome) arities rules t left before buffer = Means (outcome_of outcome) rules left 0 t × (buffer ≡ before)
Tells (Ok length) arities rules t left before buffer = NextIn arities rules t left length before buffer
