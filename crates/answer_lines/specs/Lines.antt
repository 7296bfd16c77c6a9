-- A solver's answer, line by line: refusals 13 and 14.
use Rattle.std.specs.Prelude.{ℕ, ◌+◌, Bool, true, false, ◌||◌, List, [], ◌∷◌, length}
use Rattle.reply.specs.Reply.{Refusal, Reply, given, refused, ◌>>=◌, ◌at◌}
use Rattle.text.specs.Text.{ascii, same_text, pieces, newline, space, words}
use Rattle.clauses.specs.Cnf.{Literal}
use Rattle.answer_lines.specs.Values.{Values, unclosed, closed, items_after}

-- The lines that are taken, and all others.
pub data Line : Type 0 where
  comment : Line
  verdict : (satisfiable : Bool) → Line
  values : (items : List (List ℕ)) → Line
  no_line : Line

-- "one or more items"
unfoldable pub item_line : (items : List (List ℕ)) → Line
item_line [] = no_line
item_line (i ∷ items) = values (i ∷ items)

-- "A v line is v, then one or more items, each after one or more spaces, and perhaps spaces at the end": the bytes behind the v.
unfoldable pub value_line : List ℕ → Line
value_line [] = no_line
value_line (b ∷ bs) = elim (space b) [ true ↦ item_line (words space bs) | false ↦ no_line ]

-- "`s SATISFIABLE`, `s UNSATISFIABLE` or `s UNKNOWN`"
unfoldable pub verdict_line : List ℕ → Line
verdict_line line =
    elim (same_text line (ascii "s SATISFIABLE")) [
      | true ↦ verdict true
      | false ↦
          elim (same_text line (ascii "s UNSATISFIABLE") || same_text line (ascii "s UNKNOWN")) [
            | true ↦ verdict false
            | false ↦ no_line
          ]
    ]

-- "Lines starting with c are passed over .. No other line, empty lines included, is taken."
unfoldable pub line_of : List ℕ → Line
line_of [] = no_line
line_of (b ∷ bs) =
    elim (same_text (b ∷ []) (ascii "c")) [
      | true ↦ comment
      | false ↦ elim (same_text (b ∷ []) (ascii "v")) [ true ↦ value_line bs | false ↦ verdict_line (b ∷ bs) ]
    ]

-- What the lines so far have said.
pub data Said : Type 0 where
  nothing : Said
  satisfied : Values → Said
  no_model : Said

-- "Exactly one line `s ..`, before any v line."
unfoldable pub verdict_after : (fault : Refusal) → Said → (satisfiable : Bool) → Reply Said
verdict_after fault nothing true = given (satisfied (unclosed []))
verdict_after fault nothing false = given no_model
verdict_after fault (satisfied vs) b = refused fault
verdict_after fault no_model b = refused fault

-- "Values stand only after SATISFIABLE".
unfoldable pub values_after : (fault : Refusal) (variables rank_variables : ℕ) → Said → (items : List (List ℕ)) → Reply Said
values_after fault variables rank_variables nothing items = refused fault
values_after fault variables rank_variables (satisfied vs) items = do
  vs' ← items_after fault variables rank_variables vs items
  given (satisfied vs')
values_after fault variables rank_variables no_model items = refused fault

unfoldable pub line_after : (fault : Refusal) (variables rank_variables : ℕ) → Said → Line → Reply Said
line_after fault variables rank_variables said comment = given said
line_after fault variables rank_variables said (verdict b) = verdict_after fault said b
line_after fault variables rank_variables said (values items) = values_after fault variables rank_variables said items
line_after fault variables rank_variables said no_line = refused fault

-- Refusal 13, "answer malformed", at the "start of the first faulty line"; `p` is where these lines start.
unfoldable pub lines_after : (variables rank_variables p : ℕ) → Said → (lines : List (List ℕ)) → Reply Said
lines_after variables rank_variables p said [] = given said
lines_after variables rank_variables p said (line ∷ lines) = do
  said' ← line_after (13 at p) variables rank_variables said (line_of line)
  lines_after variables rank_variables (p + length line + 1) said' lines

-- 13 at "the text's length if something is missing"; then 14, "UNSATISFIABLE or UNKNOWN, well formed".
unfoldable pub whole : (len : ℕ) → Said → Reply (List Literal)
whole len nothing = refused (13 at len)
whole len (satisfied (unclosed ls)) = refused (13 at len)
whole len (satisfied (closed ls)) = given ls
whole len no_model = refused (14 at 0)

-- The rank variables' literals of an answer: "lines ended by newline, the last newline optional".
unfoldable pub read_answer : (variables rank_variables : ℕ) (text : List ℕ) → Reply (List Literal)
read_answer variables rank_variables text = do
  said ← lines_after variables rank_variables 0 nothing (pieces newline text)
  whole (length text) said
