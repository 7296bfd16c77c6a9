-- A solver's answer that is well formed and says SATISFIABLE: what stands on its lines, their bytes, and what it names.
use Rattle.std.specs.Prelude.{ℕ, suc, ◌≤◌, true, false, ◌↔◌, ◌≢◌, ◌≡◌, eqb, replicate}
use mathlib.Core.List.{List, [], ◌∷◌, ◌++◌, map, flat_map, Memᴰ}
use Rattle.text.specs.Decimal.{decimal}
use Rattle.text.specs.Text.{ascii}
use Rattle.clauses.specs.Cnf.{Literal, is, is_not, Assignment, variable_of}

-- "Lines starting with c": the bytes behind the c, none of them a newline.
pub record Remark : Type 0 where
  pub text : List ℕ
  pub one_line : (b : ℕ) → Memᴰ b text → b ≢ 10

-- A literal "after one or more spaces": one, and so many more.
pub record Spaced : Type 0 where
  pub more : ℕ
  pub literal : Literal

-- A line between the s line and the closing 0: a c line, or a v line of "one or more items .. and perhaps spaces at the end".
pub data AnswerLine : Type 0 where
  remark : Remark → AnswerLine
  literals : (first : Spaced) (others : List Spaced) (at_end : ℕ) → AnswerLine

-- "A single 0 closes the values; only spaces and c lines may follow": the v line with the 0, which may have no literals.
pub record ClosingLine : Type 0 where
  pub literals : List Spaced
  pub more : ℕ
  pub at_end : ℕ

-- All lines in their order: c lines, the s line, c and v lines, the v line with the 0, c lines.
pub record Answer : Type 0 where
  pub before : List Remark
  pub lines : List AnswerLine
  pub closing : ClosingLine
  pub behind : List Remark

unfoldable pub remark_text : Remark → List ℕ
remark_text r = ascii "c" ++ r.text

-- "A literal is an optional minus and a number .. without leading zeros."
unfoldable pub literal_text : Literal → List ℕ
literal_text (is v) = decimal v
literal_text (is_not v) = ascii "-" ++ decimal v

unfoldable pub spaces : ℕ → List ℕ
spaces many = replicate many 32

-- An item "after one or more spaces".
unfoldable pub item_text : (more : ℕ) (item : List ℕ) → List ℕ
item_text more item = ascii " " ++ (spaces more ++ item)

unfoldable pub spaced_text : Spaced → List ℕ
spaced_text s = item_text s.more (literal_text s.literal)

unfoldable pub line_text : AnswerLine → List ℕ
line_text (remark r) = remark_text r
line_text (literals first others at_end) = ascii "v" ++ (flat_map spaced_text (first ∷ others) ++ spaces at_end)

unfoldable pub closing_text : ClosingLine → List ℕ
closing_text line = ascii "v" ++ (flat_map spaced_text line.literals ++ (item_text line.more (ascii "0") ++ spaces line.at_end))

unfoldable pub remark_texts : List Remark → List (List ℕ)
remark_texts remarks = map remark_text remarks

unfoldable pub answer_lines : Answer → List (List ℕ)
answer_lines a =
    remark_texts a.before ++ (ascii "s SATISFIABLE" ∷ map line_text a.lines ++ closing_text a.closing ∷ remark_texts a.behind)

-- "lines ended by newline, the last newline optional"
unfoldable pub ended : (lines : List (List ℕ)) → List ℕ
ended lines = flat_map (λ line. line ++ ascii "\n") lines

pub data Lines (lines : List (List ℕ)) (text : List ℕ) : Type 0 where
  all_ended : text ≡ ended lines → Lines lines text
  last_open : text ++ ascii "\n" ≡ ended lines → Lines lines text

-- All its literals.
unfoldable pub line_literals : AnswerLine → List Spaced
line_literals (remark r) = []
line_literals (literals first others at_end) = first ∷ others

unfoldable pub all_literals : Answer → List Literal
all_literals a = map (λ (s : Spaced). s.literal) (flat_map line_literals a.lines ++ a.closing.literals)

unfoldable pub times_named : (v : ℕ) → List Literal → ℕ
times_named v [] = 0
times_named v (l ∷ ls) = elim (eqb (variable_of l) v) [ true ↦ suc (times_named v ls) | false ↦ times_named v ls ]

-- What is asked of its literals, for a clause file of so many variables of which 1 to n·k are rank variables; and the values that they give
-- those. Of the others nothing is asked, and nobody need name them.
pub record Names (variables rank_variables : ℕ) (values : Assignment) (ls : List Literal) : Type 0 where
  -- "a number from 1 to V"
  pub within : (l : Literal) → Memᴰ l ls → (1 ≤ variable_of l) × (variable_of l ≤ variables)
  -- "A rank variable (a bit's) may be named once; one not named counts as 0."
  pub once : (v : ℕ) → v ≤ rank_variables → times_named v ls ≤ 1
  pub counts : (v : ℕ) → 1 ≤ v → v ≤ rank_variables → (values v ≡ true) ↔ Memᴰ (is v) ls

pub record WellFormed (variables rank_variables : ℕ) (text : List ℕ) (values : Assignment) : Type 0 where
  pub answer : Answer
  pub written : Lines (answer_lines answer) text
  pub names : Names variables rank_variables values (all_literals answer)
