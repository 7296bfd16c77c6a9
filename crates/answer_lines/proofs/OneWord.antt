-- One more word of the values, by the stage and the table that hold the values so far. Assumes nothing.
use Prim.Native.Nat.{ℕ}
use mathlib.Core.Bool.{Bool}
use mathlib.Core.List.{List}
use mathlib.Core.Path.{◌≡◌, refl}
use Rattle.std.specs.Prelude.{Option, Result, Err}
use Rattle.reply.specs.Reply.{Refusal}
use Rattle.clauses.specs.Cnf.{Literal}
use Rattle.clauses.specs.Item.{Item}
use Rattle.answer_lines.specs.Values.{Values, unclosed, closed, item_after}
use Rattle.answer_lines.specs.Progress.{HoldsValues, Tells}
use Rattle.answer_lines.specs.declared.reader.Stage.{Stage}
use Rattle.answer_lines.specs.declared.reader.Stage.TheVariants.{Open}
use Rattle.answer_lines.specs.declared.reader.BadLine.{BadLine}

module _ (fault : Refusal) (rank_variables : ℕ) {i j : Item} (same : i ≡ j) (stage : Stage) (table : List (Option Bool)) where
  -- Behind the closing 0 no word is taken.
  pub word_late :
      (stage ≡ Open → ⊥) → (bad : BadLine) (vs : Values) → HoldsValues vs stage table →
      Tells HoldsValues fault (item_after fault rank_variables vs j) (Err bad) stage table
  unfolding item_after
  word_late d bad (unclosed ls) held = absurd (d held.0)
  word_late d bad (closed ls) held = refl

  -- While the values are open, what the word's item comes to is all that is told.
  pub word_taken :
      stage ≡ Open → (r : Result (Unit {0}) BadLine) (stage' : Stage) (table' : List (Option Bool)) →
      ((ls : List Literal) → HoldsValues (unclosed ls) stage table → Tells HoldsValues fault (item_after fault rank_variables (unclosed ls) i) r stage' table') →
      (vs : Values) → HoldsValues vs stage table → Tells HoldsValues fault (item_after fault rank_variables vs j) r stage' table'
  word_taken o r stage' table' behind (unclosed ls) held = rw (← same) (behind ls held)
  word_taken o r stage' table' behind (closed ls) held = cc
