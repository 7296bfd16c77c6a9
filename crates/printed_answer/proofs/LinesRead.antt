-- The lines of a well-formed answer are full lines, and each v line is read as the words of its items. Assumes nothing.
use Prim.Native.Nat.{ℕ, zero, suc}
use mathlib.Core.Bool.{Bool, true, false, ◌||◌}
use mathlib.Core.List.{List, [], ◌∷◌, ◌++◌, map, flat_map, append_assoc, cons≢nil}
use mathlib.Core.Path.{◌≡◌, refl, sym, ap, ◌∙◌}
use native.Mathlib.Omega.{arith}
use borrow.Author.Tests.{ne_eqb}
use Rattle.reply.proofs.Every.{Every, every_append, every_implied, every_of_members, every_flat_map}
use Rattle.text.specs.Text.{ascii, same_text, newline, space, words}
use Rattle.clauses.specs.Cnf.{Literal, is, is_not}
use Rattle.clauses.specs.Dimacs.{blank}
use Rattle.clauses.proofs.Items.{literal_word, word_nonempty, word_no_blank}
use Rattle.answer_lines.specs.Lines.{comment, values, item_line, line_of}
use Rattle.printed_answer.specs.WellFormed.{
  Remark,
  Spaced,
  AnswerLine,
  remark,
  literals,
  ClosingLine,
  Answer,
  remark_text,
  literal_text,
  spaces,
  item_text,
  spaced_text,
  line_text,
  closing_text,
  remark_texts,
  answer_lines,
}
use Rattle.printed_answer.specs.Computing.{computing}
use Rattle.printed_answer.proofs.Spaces.{Word, Parted, spaces_parted, no_words, item_word}
use Rattle.printed_answer.proofs.LinesOfText.{NoNewline, FullLine}

-- A literal's text is a word without a newline.
pub literal_word_lem : (l : Literal) → literal_text l ≡ literal_word l
unfolding literal_text ascii
literal_word_lem (is v) = refl
literal_word_lem (is_not v) = refl

not_blank : (b : ℕ) → blank b ≡ false → (space b ≡ false) × (newline b ≡ false)
unfolding blank
not_blank b e = go (space b) (newline b) e
  where
    go : (x y : Bool) → (x || y) ≡ false → (x ≡ false) × (y ≡ false)
    go true y e = absurd (let z : ◌≡◌ {A = ℕ} 0 1 = cc in omega arith)
    go false y e = (refl, e)

literal_is_word : (l : Literal) → Word (literal_text l)
literal_is_word l = record {
  full = λ e. word_nonempty l (sym (literal_word_lem l) ∙ e);
  no_space = rw (literal_word_lem l)
      (every_implied (λ b. blank b ≡ false) (λ b. space b ≡ false) (λ b e. (not_blank b e).0) (literal_word l) (word_no_blank l));
}

literal_no_newline : (l : Literal) → NoNewline (literal_text l)
literal_no_newline l =
    rw (literal_word_lem l) (every_implied (λ b. blank b ≡ false) (λ b. newline b ≡ false) (λ b e. (not_blank b e).1) (literal_word l) (word_no_blank l))

zero_is_word : Word (ascii "0")
unfolding ascii space
zero_is_word = record { full = cons≢nil; no_space = (refl, tt) }

-- The words of a v line.
abbrev pub spaced_word : Spaced → List ℕ
spaced_word s = literal_text s.literal

literals_parted : (ss : List Spaced) (rest : List ℕ) → Parted rest → Parted (flat_map spaced_text ss ++ rest)
unfolding flat_map spaced_text item_text ascii
literals_parted [] rest p = p
literals_parted (s ∷ ss) rest p = refl

literals_words : (ss : List Spaced) (rest : List ℕ) → Parted rest → words space (flat_map spaced_text ss ++ rest) ≡ map spaced_word ss ++ words space rest
unfolding flat_map spaced_text
literals_words [] rest p = refl
literals_words (s ∷ ss) rest p =
    ap (words space) (append_assoc (spaced_text s) (flat_map spaced_text ss) rest)
    ∙ item_word s.more (spaced_word s) (flat_map spaced_text ss ++ rest) (literal_is_word s.literal) (literals_parted ss rest p)
    ∙ ap (λ (ws : List (List ℕ)). spaced_word s ∷ ws) (literals_words ss rest p)

zero_words : (more at_end : ℕ) → words space (item_text more (ascii "0") ++ spaces at_end) ≡ ascii "0" ∷ []
zero_words more at_end =
    item_word more (ascii "0") (spaces at_end) zero_is_word (spaces_parted at_end) ∙ ap (λ (ws : List (List ℕ)). ascii "0" ∷ ws) (no_words at_end)

-- What each line is read as.
pub remark_line : (r : Remark) → line_of (remark_text r) ≡ comment
unfolding line_of remark_text ascii same_text
remark_line r = refl

value_line : (bytes : List ℕ) (w : List ℕ) (ws : List (List ℕ)) → words space (32 ∷ bytes) ≡ w ∷ ws → line_of (118 ∷ 32 ∷ bytes) ≡ values (w ∷ ws)
value_line bytes w ws e = first ∙ ap item_line e ∙ unfold item_line in refl
  where
    first : line_of (118 ∷ 32 ∷ bytes) ≡ item_line (words space (32 ∷ bytes))
    first = unfold computing in refl

pub literals_line :
    (s : Spaced) (ss : List Spaced) (at_end : ℕ) → line_of (line_text (literals s ss at_end)) ≡ values (map spaced_word (s ∷ ss) ++ [])
unfolding line_text flat_map spaced_text item_text ascii
literals_line s ss at_end =
    value_line _ (spaced_word s) (map spaced_word ss ++ [])
    (literals_words (s ∷ ss) (spaces at_end) (spaces_parted at_end) ∙ ap (λ (ws : List (List ℕ)). map spaced_word (s ∷ ss) ++ ws) (no_words at_end))

closing_parted : (more at_end : ℕ) → Parted (item_text more (ascii "0") ++ spaces at_end)
unfolding item_text ascii
closing_parted more at_end = refl

pub closing_line : (line : ClosingLine) → line_of (closing_text line) ≡ values (map spaced_word line.literals ++ (ascii "0" ∷ []))
unfolding closing_text flat_map spaced_text item_text ascii
closing_line line = go line.literals line.more line.at_end
  where
    go :
        (ss : List Spaced) (more at_end : ℕ) →
        line_of (118 ∷ (flat_map spaced_text ss ++ (item_text more (ascii "0") ++ spaces at_end))) ≡ values (map spaced_word ss ++ (ascii "0" ∷ []))
    go [] more at_end = value_line _ (ascii "0") [] (zero_words more at_end)
    go (s ∷ ss) more at_end =
        value_line _ (spaced_word s) (map spaced_word ss ++ (ascii "0" ∷ []))
        (literals_words (s ∷ ss) (item_text more (ascii "0") ++ spaces at_end) (closing_parted more at_end)
        ∙ ap (λ (ws : List (List ℕ)). map spaced_word (s ∷ ss) ++ ws) (zero_words more at_end))

-- None is empty or has a newline in it.
spaces_no_newline : (many : ℕ) → NoNewline (spaces many)
unfolding spaces
spaces_no_newline zero = tt
spaces_no_newline (suc many) = (unfold newline in refl, spaces_no_newline many)

item_no_newline : (more : ℕ) (item : List ℕ) → NoNewline item → NoNewline (item_text more item)
unfolding item_text ascii newline
item_no_newline more item none = (refl, every_append (λ b. newline b ≡ false) (spaces more) item (spaces_no_newline more) none)

literals_no_newline : (ss : List Spaced) → NoNewline (flat_map spaced_text ss)
literals_no_newline ss =
    every_flat_map (λ s. Unit {0}) (λ b. newline b ≡ false) spaced_text
    (λ s u. unfold spaced_text in item_no_newline s.more (spaced_word s) (literal_no_newline s.literal)) ss
    (every_of_members (λ s. Unit {0}) ss (λ s m. tt))

remark_full : (r : Remark) → FullLine (remark_text r)
unfolding remark_text ascii newline
remark_full r = record {
  no_newline = (refl, every_of_members (λ b. newline b ≡ false) r.text (λ b m. ne_eqb b 10 (r.one_line b m)));
  full = cons≢nil;
}

pub remarks_full : (rs : List Remark) → Every FullLine (remark_texts rs)
unfolding remark_texts
remarks_full [] = tt
remarks_full (r ∷ rs) = (remark_full r, remarks_full rs)

value_line_full : (bytes : List ℕ) → NoNewline bytes → FullLine (ascii "v" ++ bytes)
unfolding ascii newline
value_line_full bytes none = record { no_newline = (refl, none); full = cons≢nil }

line_full : (line : AnswerLine) → FullLine (line_text line)
unfolding line_text
line_full (remark r) = remark_full r
line_full (literals s ss at_end) =
    value_line_full (flat_map spaced_text (s ∷ ss) ++ spaces at_end)
    (every_append (λ b. newline b ≡ false) (flat_map spaced_text (s ∷ ss)) (spaces at_end) (literals_no_newline (s ∷ ss)) (spaces_no_newline at_end))

lines_full : (lines : List AnswerLine) → Every FullLine (map line_text lines)
lines_full [] = tt
lines_full (line ∷ lines) = (line_full line, lines_full lines)

closing_full : (line : ClosingLine) → FullLine (closing_text line)
unfolding closing_text
closing_full line =
    value_line_full _
    (every_append (λ b. newline b ≡ false) (flat_map spaced_text line.literals) _ (literals_no_newline line.literals)
    (every_append (λ b. newline b ≡ false) (item_text line.more (ascii "0")) _
    (item_no_newline line.more (ascii "0") (unfold ascii newline in (refl, tt)))
    (spaces_no_newline line.at_end)))

verdict_full : FullLine (ascii "s SATISFIABLE")
unfolding ascii newline
verdict_full = record { no_newline = (refl, (refl, (refl, (refl, (refl, (refl, (refl, (refl, (refl, (refl, (refl, (refl, (refl, tt))))))))))))); full = cons≢nil }

pub answer_full : (a : Answer) → Every FullLine (answer_lines a)
unfolding answer_lines
answer_full a =
    every_append FullLine (remark_texts a.before) _ (remarks_full a.before) (
      verdict_full,
      every_append FullLine (map line_text a.lines) _ (lines_full a.lines) (closing_full a.closing, remarks_full a.behind),
    )
