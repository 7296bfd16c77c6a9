-- What the reader of an answer holds of it on the way: how far its lines have come, and the marks of the rank variables.
use Rattle.std.specs.Prelude.{Bool, List, [], ◌≡◌, Option, Result, Ok, Err}
use Rattle.reply.specs.Reply.{Refusal, Reply, given, refused}
use Rattle.answer_lines.specs.Values.{Values, unclosed, closed}
use Rattle.answer_lines.specs.Lines.{Line, Said, nothing, satisfied, no_model, line_after}
use Rattle.answer_lines.specs.Marks.{table_of}
use Rattle.answer_lines.specs.declared.reader.Stage.{Stage}
use Rattle.answer_lines.specs.declared.reader.Stage.TheVariants.{Silent, Open, Closed, NoModel}
use Rattle.answer_lines.specs.declared.reader.BadLine.{BadLine}
use Rattle.answer_lines.specs.declared.reader.Reader.{Reader}

-- The stage and the table are those of the values so far, or of what the lines so far have said.
abbrev pub HoldsValues : Values → Stage → List (Option Bool) → Type 0
HoldsValues (unclosed ls) stage table = (stage ≡ Open) × (table ≡ table_of ls)
HoldsValues (closed ls) stage table = (stage ≡ Closed) × (table ≡ table_of ls)

abbrev pub HoldsSaid : Said → Stage → List (Option Bool) → Type 0
HoldsSaid nothing stage table = (stage ≡ Silent) × (table ≡ table_of [])
HoldsSaid (satisfied vs) stage table = HoldsValues vs stage table
HoldsSaid no_model stage table = (stage ≡ NoModel) × (table ≡ table_of [])

-- They tell a reply: they hold what was given, or the line is bad and the reply is its refusal.
abbrev pub Tells :
    {A : Type 0} (Holds : A → Stage → List (Option Bool) → Type 0) (fault : Refusal) → Reply A → Result (Unit {0}) BadLine → Stage →
    List (Option Bool) → Type 0
Tells Holds fault (given a) (Ok u) stage table = Holds a stage table
Tells Holds fault (given a) (Err bad) stage table = ⊥
Tells Holds fault (refused r) (Ok u) stage table = ⊥
Tells Holds fault (refused r) (Err bad) stage table = r ≡ fault

-- Reading changes neither number of variables.
abbrev pub SameCounts : Reader → Reader → Type 0
SameCounts before after = (after.variables ≡ before.variables) × (after.rank_variables ≡ before.rank_variables)

-- A line is taken: what the reader held before and the line make what it holds behind it, or the line is bad.
abbrev pub TakesLine : Line → Reader → Result (Unit {0}) BadLine → Reader → Type 0
TakesLine line before result after =
    (fault : Refusal) (said : Said) → HoldsSaid said before.stage before.table →
    Tells HoldsSaid fault (line_after fault before.variables before.rank_variables said line) result after.stage after.table
