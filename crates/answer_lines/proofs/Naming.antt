-- One more literal, by the table: a variable that is no rank variable, a rank variable that was named before, and one that was not.
-- Assumes nothing.
use Prim.Native.Nat.{ℕ, ◌-◌, ◌≤◌, ◌<◌}
use mathlib.Core.Bool.{Bool, true, false}
use mathlib.Core.List.{List, ◌∷◌}
use mathlib.Core.Path.{◌≡◌, refl, sym, ap, ◌∙◌}
use native.Mathlib.Omega.{arith}
use lib.ListN.{get_or, set}
use borrow.Author.Tests.{le-leb, lt-leb}
use Rattle.std.specs.Prelude.{Option, Some, None, is_some, Ok, Err}
use Rattle.reply.specs.Reply.{Refusal, given, refused, unless, ◌>>◌}
use Rattle.clauses.specs.Cnf.{Literal, variable_of}
use Rattle.answer_lines.specs.Values.{unclosed, names, named}
use Rattle.answer_lines.specs.Marks.{sign}
use Rattle.answer_lines.specs.Progress.{HoldsValues, Tells}
use Rattle.answer_lines.specs.declared.reader.Stage.{Stage}
use Rattle.answer_lines.specs.declared.reader.BadLine.{BadLine}
use Rattle.answer_lines.proofs.Marks.{named_by_mark, table_at, table_named}

module _ (fault : Refusal) (rank_variables : ℕ) (l : Literal) (ls : List Literal) where
  pub other : rank_variables < variable_of l → named fault rank_variables l ls ≡ given (unclosed ls)
  unfolding named
  other h = rw (named, lt-leb _ _ h)

  pub once : variable_of l ≤ rank_variables → names (variable_of l) ls ≡ false → named fault rank_variables l ls ≡ given (unclosed (l ∷ ls))
  unfolding named unless ◌>>◌
  once h e = rw (named, le-leb _ _ h, e)

  twice : variable_of l ≤ rank_variables → names (variable_of l) ls ≡ true → named fault rank_variables l ls ≡ refused fault
  unfolding named unless ◌>>◌
  twice h e = rw (named, le-leb _ _ h, e)

  -- The variable is v, the stage and the table hold the values so far, and the table leaves room for the rank variables.
  module _ {v : ℕ} {stage : Stage} {table : List (Option Bool)} (var : variable_of l ≡ v) (held : HoldsValues (unclosed ls) stage table) where
    pub other_variable : rank_variables < v → Tells HoldsValues fault (named fault rank_variables l ls) (Ok tt) stage table
    other_variable h = rw (other (omega arith)) held

    module _ (low : 1 ≤ v) (room : rank_variables ≤ 64) (within : v ≤ rank_variables) where
      marked : is_some (get_or table (v - 1) None) ≡ names (variable_of l) ls
      marked = ap is_some (rw (held.1, ← var) (table_at ls (variable_of l) (omega arith) (omega arith))) ∙ named_by_mark ls (variable_of l)

      pub named_twice :
          (bad : BadLine) (stage' : Stage) (table' : List (Option Bool)) → is_some (get_or table (v - 1) None) ≡ true →
          Tells HoldsValues fault (named fault rank_variables l ls) (Err bad) stage' table'
      named_twice bad stage' table' e = rw (twice (omega arith) (sym marked ∙ e)) refl

      pub named_once :
          {b : Bool} → sign l ≡ b → is_some (get_or table (v - 1) None) ≡ false →
          Tells HoldsValues fault (named fault rank_variables l ls) (Ok tt) stage (set table (v - 1) (Some b))
      named_once s e = rw (once (omega arith) new) (held.0, rw (held.1, ← var, ← s) (table_named l ls (omega arith) (omega arith) new))
        where
          new : names (variable_of l) ls ≡ false
          new = sym marked ∙ e
