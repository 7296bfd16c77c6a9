-- One more line of an answer, by the stage and the table that hold what the lines so far have said. Assumes nothing.
use Prim.Native.Nat.{ℕ}
use mathlib.Core.Bool.{Bool, true, false, ◌||◌}
use mathlib.Core.List.{List, [], ◌∷◌}
use mathlib.Core.Path.{◌≡◌, refl}
use Rattle.std.specs.Prelude.{Option, Result, Err}
use Rattle.reply.specs.Reply.{Refusal, refused, ◌>>=◌}
use Rattle.text.specs.Text.{ascii, same_text, space, words}
use Rattle.clauses.specs.Cnf.{Literal}
use Rattle.answer_lines.specs.Values.{unclosed, closed, item_after, items_after}
use Rattle.answer_lines.specs.Lines.{Line, verdict, no_line, Said, nothing, satisfied, no_model, item_line, value_line, verdict_line, verdict_after, values_after, line_after}
use Rattle.answer_lines.specs.Marks.{table_of}
use Rattle.answer_lines.specs.Progress.{HoldsValues, HoldsSaid, Tells}
use Rattle.answer_lines.specs.declared.reader.Stage.{Stage}
use Rattle.answer_lines.specs.declared.reader.Stage.TheVariants.{Silent, Open}
use Rattle.answer_lines.specs.declared.reader.BadLine.{BadLine}

-- What was said, by the stage.
module _ (stage : Stage) (table : List (Option Bool)) where
  silent_said : (said : Said) → HoldsSaid said stage table → stage ≡ Silent → ((said ≡ nothing) × (table ≡ table_of []))
  silent_said nothing held e = (refl, held.1)
  silent_said (satisfied (unclosed ls)) held e = cc
  silent_said (satisfied (closed ls)) held e = cc
  silent_said no_model held e = cc

  open_said :
      (said : Said) → HoldsSaid said stage table → stage ≡ Open →
      ((ls : List Literal) × (said ≡ satisfied (unclosed ls)) × HoldsValues (unclosed ls) stage table)
  open_said nothing held e = cc
  open_said (satisfied (unclosed ls)) held e = (ls, refl, held)
  open_said (satisfied (closed ls)) held e = cc
  open_said no_model held e = cc

module _ (fault : Refusal) (variables rank_variables : ℕ) where
  -- A verdict is taken only before every other.
  module _ (line : List ℕ) (stage : Stage) (table : List (Option Bool)) where
    late_verdict : (said : Said) → HoldsSaid said stage table → (stage ≡ Silent → ⊥) → (b : Bool) → verdict_after fault said b ≡ refused fault
    unfolding verdict_after
    late_verdict nothing held d b = absurd (d held.0)
    late_verdict (satisfied vs) held d b = refl
    late_verdict no_model held d b = refl

    pub verdict_late :
        (stage ≡ Silent → ⊥) → (bad : BadLine) (said : Said) → HoldsSaid said stage table →
        Tells HoldsSaid fault (line_after fault variables rank_variables said (verdict_line line)) (Err bad) stage table
    unfolding line_after verdict_line
    verdict_late d bad said held = rw (go (same_text line (ascii "s SATISFIABLE")) (same_text line (ascii "s UNSATISFIABLE") || same_text line (ascii "s UNKNOWN"))) refl
      where
        go :
            (a b : Bool) →
            line_after fault variables rank_variables said (elim a [ true ↦ verdict true | false ↦ elim b [ true ↦ verdict false | false ↦ no_line ] ])
            ≡ refused fault
        go true b = late_verdict said held d true
        go false true = late_verdict said held d false
        go false false = refl

    pub verdict_first :
        stage ≡ Silent → (x : Line) → verdict_line line ≡ x → (r : Result (Unit {0}) BadLine) (stage' : Stage) →
        (table ≡ table_of [] → Tells HoldsSaid fault (line_after fault variables rank_variables nothing x) r stage' table) →
        (said : Said) → HoldsSaid said stage table →
        Tells HoldsSaid fault (line_after fault variables rank_variables said (verdict_line line)) r stage' table
    verdict_first silent x e r stage' t said held = let (none, empty) = silent_said stage table said held silent in rw (none, e) (t empty)

  -- Values are taken only while they are open.
  module _ (bytes : List ℕ) (stage : Stage) (table : List (Option Bool)) where
    late_items :
        (said : Said) → HoldsSaid said stage table → (stage ≡ Open → ⊥) → (w : List ℕ) (ws : List (List ℕ)) →
        values_after fault variables rank_variables said (w ∷ ws) ≡ refused fault
    unfolding values_after items_after item_after ◌>>=◌
    late_items nothing held d w ws = refl
    late_items (satisfied (unclosed ls)) held d w ws = absurd (d held.0)
    late_items (satisfied (closed ls)) held d w ws = refl
    late_items no_model held d w ws = refl

    late_line :
        (said : Said) → HoldsSaid said stage table → (stage ≡ Open → ⊥) → (ws : List (List ℕ)) →
        line_after fault variables rank_variables said (item_line ws) ≡ refused fault
    unfolding line_after item_line
    late_line said held d [] = refl
    late_line said held d (w ∷ ws) = late_items said held d w ws

    late_values :
        (l : List ℕ) (said : Said) → HoldsSaid said stage table → (stage ≡ Open → ⊥) → line_after fault variables rank_variables said (value_line l) ≡ refused fault
    unfolding line_after value_line
    late_values [] said held d = refl
    late_values (b ∷ bs) said held d = go (space b)
      where
        go : (t : Bool) → line_after fault variables rank_variables said (elim t [ true ↦ item_line (words space bs) | false ↦ no_line ]) ≡ refused fault
        go true = late_line said held d (words space bs)
        go false = refl

    pub values_late :
        (stage ≡ Open → ⊥) → (bad : BadLine) (said : Said) → HoldsSaid said stage table →
        Tells HoldsSaid fault (line_after fault variables rank_variables said (value_line bytes)) (Err bad) stage table
    values_late d bad said held = rw (late_values bytes said held d) refl

    pub values_open :
        stage ≡ Open → (x : Line) → value_line bytes ≡ x → (r : Result (Unit {0}) BadLine) (stage' : Stage) (table' : List (Option Bool)) →
        ((ls : List Literal) → HoldsValues (unclosed ls) stage table →
        Tells HoldsSaid fault (line_after fault variables rank_variables (satisfied (unclosed ls)) x) r stage' table') →
        (said : Said) → HoldsSaid said stage table →
        Tells HoldsSaid fault (line_after fault variables rank_variables said (value_line bytes)) r stage' table'
    values_open open-now x e r stage' table' t said held = let (ls, known, values) = open_said stage table said held open-now in rw (known, e) (t ls values)
