-- A well-formed answer is read, to literals that give every rank variable the value that it has: its c lines are passed over, and each v line
-- is read word by word. Assumes nothing.
use Prim.Native.Nat.{ℕ, ◌+◌, ◌≤◌}
use mathlib.Core.List.{List, [], ◌∷◌, ◌++◌, map, flat_map, append_assoc, append-nil}
use mathlib.Core.Path.{◌≡◌, refl, sym, ap, subst, ◌∙◌}
use lib.ListN.{length}
use Rattle.reply.specs.Reply.{Refusal, given, ◌>>=◌, ◌at◌}
use Rattle.text.specs.Text.{ascii}
use Rattle.reply.proofs.Given.{given_bind}
use Rattle.clauses.specs.Cnf.{Literal, Assignment}
use Rattle.answer_lines.specs.Values.{Values, unclosed, closed, items_after}
use Rattle.answer_lines.specs.Lines.{Said, nothing, satisfied, values, line_of, values_after, line_after, lines_after, whole, read_answer}
use Rattle.answer_lines.specs.Values.{valued}
use Rattle.printed_answer.specs.WellFormed.{
  Remark,
  Spaced,
  AnswerLine,
  remark,
  literals,
  ClosingLine,
  Answer,
  remark_text,
  literal_text,
  line_text,
  closing_text,
  remark_texts,
  answer_lines,
  line_literals,
  all_literals,
  Names,
  WellFormed,
}
use Rattle.printed_answer.specs.Computing.{computing}
use Rattle.printed_answer.proofs.LinesOfText.{text_lines}
use Rattle.printed_answer.proofs.LinesRead.{spaced_word, remark_line, literals_line, closing_line, answer_full}
use Rattle.printed_answer.proofs.NamesRead.{Sofar, none_yet, all_read, literals_read}

-- Literals without their spaces.
abbrev pub literals_of : List Spaced → List Literal
literals_of ss = map (λ (s : Spaced). s.literal) ss

words_of : (ss : List Spaced) → map spaced_word ss ≡ map literal_text (literals_of ss)
words_of [] = refl
words_of (s ∷ ss) = ap (λ (ws : List (List ℕ)). spaced_word s ∷ ws) (words_of ss)

pub literals_append : (ss ts : List Spaced) → literals_of (ss ++ ts) ≡ literals_of ss ++ literals_of ts
literals_append [] ts = refl
literals_append (s ∷ ss) ts = ap (λ (ls : List Literal). s.literal ∷ ls) (literals_append ss ts)

module _ (variables rank_variables : ℕ) (α : Assignment) where
  -- From here on the lines are read to closed values, and these give every rank variable its value.
  record Ends (p : ℕ) (said : Said) (lines : List (List ℕ)) : Type 0 where
    had : List Literal
    so : lines_after variables rank_variables p said lines ≡ given (satisfied (closed had))
    told : (v : ℕ) → 1 ≤ v → v ≤ rank_variables → valued had v ≡ α v

  one_line :
      (p : ℕ) (said said' : Said) (line : List ℕ) (lines : List (List ℕ)) →
      line_after (13 at p) variables rank_variables said (line_of line) ≡ given said' → Ends (p + length line + 1) said' lines → Ends p said (line ∷ lines)
  unfolding lines_after
  one_line p said said' line lines e ends =
      record { had = ends.had; so = given_bind (line_after (13 at p) variables rank_variables said (line_of line)) _ said' e ∙ ends.so; told = ends.told }

  remark_passed : (fault : Refusal) (said : Said) (r : Remark) → line_after fault variables rank_variables said (line_of (remark_text r)) ≡ given said
  unfolding line_after
  remark_passed fault said r = rw (remark_line r)

  remarks_passed :
      (rs : List Remark) (said : Said) (lines : List (List ℕ)) → ((p : ℕ) → Ends p said lines) → (p : ℕ) → Ends p said (remark_texts rs ++ lines)
  unfolding remark_texts
  remarks_passed [] said lines ends p = ends p
  remarks_passed (r ∷ rs) said lines ends p =
      one_line p said said (remark_text r) (remark_texts rs ++ lines) (remark_passed (13 at p) said r)
      (remarks_passed rs said lines ends (p + length (remark_text r) + 1))

  -- The items of a v line.
  items_taken :
      (fault : Refusal) (had : List Literal) (vs : Values) (line : List ℕ) (ws : List (List ℕ)) → line_of line ≡ values ws →
      items_after fault variables rank_variables (unclosed had) ws ≡ given vs →
      line_after fault variables rank_variables (satisfied (unclosed had)) (line_of line) ≡ given (satisfied vs)
  unfolding line_after values_after ◌>>=◌
  items_taken fault had vs line ws l e = rw (l, e)

  closed_there : (fault : Refusal) (had : List Literal) → items_after fault variables rank_variables (unclosed had) (ascii "0" ∷ []) ≡ given (closed had)
  unfolding computing
  closed_there fault had = refl

  unclosed_there : (fault : Refusal) (had : List Literal) → items_after fault variables rank_variables (unclosed had) [] ≡ given (unclosed had)
  unfolding items_after
  unclosed_there fault had = refl

  spaced_read :
      (fault : Refusal) (ss : List Spaced) (had rest : List Literal) → Sofar variables rank_variables α had (literals_of ss ++ rest) →
      (ws : List (List ℕ)) →
      (had' : List Literal)
      × (items_after fault variables rank_variables (unclosed had) (map spaced_word ss ++ ws) ≡ items_after fault variables rank_variables (unclosed had') ws)
      × Sofar variables rank_variables α had' rest
  spaced_read fault ss had rest sofar ws = rw (words_of ss) (literals_read variables rank_variables α fault (literals_of ss) had rest sofar ws)

  nothing_behind : (had : List Literal) → Sofar variables rank_variables α had [] → (p : ℕ) → Ends p (satisfied (closed had)) []
  unfolding lines_after
  nothing_behind had sofar p = record { had = had; so = refl; told = all_read variables rank_variables α had sofar }

  module _ (closing : ClosingLine) (behind : List Remark) where
    closing_read :
        (had : List Literal) → Sofar variables rank_variables α had (literals_of closing.literals) → (p : ℕ) →
        Ends p (satisfied (unclosed had)) (closing_text closing ∷ remark_texts behind ++ [])
    closing_read had sofar p =
        let (had', e, sofar') =
        spaced_read (13 at p) closing.literals had []
        (subst (Sofar variables rank_variables α had) (sym (append-nil (literals_of closing.literals))) sofar)
        (ascii "0" ∷ []) in
        one_line p (satisfied (unclosed had)) (satisfied (closed had')) (closing_text closing) (remark_texts behind ++ [])
        (items_taken (13 at p) had (closed had') (closing_text closing) _ (closing_line closing) (e ∙ closed_there (13 at p) had'))
        (remarks_passed behind (satisfied (closed had')) [] (nothing_behind had' sofar') (p + length (closing_text closing) + 1))

    lines_read :
        (lines : List AnswerLine) (had : List Literal) →
        Sofar variables rank_variables α had (literals_of (flat_map line_literals lines ++ closing.literals)) → (p : ℕ) →
        Ends p (satisfied (unclosed had)) (map line_text lines ++ (closing_text closing ∷ remark_texts behind ++ []))
    unfolding flat_map line_literals
    lines_read [] had sofar p = closing_read had sofar p
    lines_read (remark r ∷ lines) had sofar p =
        one_line p (satisfied (unclosed had)) (satisfied (unclosed had)) (line_text (remark r)) _ (unfold line_text in remark_passed (13 at p) _ r)
        (lines_read lines had sofar (p + length (line_text (remark r)) + 1))
    lines_read (literals s ss at_end ∷ lines) had sofar p =
        let (had', e, sofar') =
        spaced_read (13 at p) (s ∷ ss) had (literals_of (flat_map line_literals lines ++ closing.literals))
        (subst (Sofar variables rank_variables α had)
        (ap literals_of (append_assoc (s ∷ ss) (flat_map line_literals lines) closing.literals)
        ∙ literals_append (s ∷ ss) (flat_map line_literals lines ++ closing.literals)) sofar) [] in
        one_line p (satisfied (unclosed had)) (satisfied (unclosed had')) (line_text (literals s ss at_end)) _
        (items_taken (13 at p) had (unclosed had') (line_text (literals s ss at_end)) _ (literals_line s ss at_end) (e ∙ unclosed_there (13 at p) had'))
        (lines_read lines had' sofar' (p + length (line_text (literals s ss at_end)) + 1))

  verdict_read : (fault : Refusal) → line_after fault variables rank_variables nothing (line_of (ascii "s SATISFIABLE")) ≡ given (satisfied (unclosed []))
  unfolding computing
  verdict_read fault = refl

  answer_read : (a : Answer) → Names variables rank_variables α (all_literals a) → Ends 0 nothing (answer_lines a)
  unfolding answer_lines all_literals
  answer_read a names =
      subst (λ (rs : List (List ℕ)). Ends 0 nothing (remark_texts a.before ++ (ascii "s SATISFIABLE" ∷ map line_text a.lines ++ closing_text a.closing ∷ rs)))
      (append-nil (remark_texts a.behind))
      (remarks_passed a.before nothing _
      (λ p.
      one_line p nothing (satisfied (unclosed [])) (ascii "s SATISFIABLE") _ (verdict_read (13 at p))
      (lines_read a.closing a.behind a.lines [] (none_yet variables rank_variables α (all_literals a) names) (p + length (ascii "s SATISFIABLE") + 1)))
      0)

  pub well_formed_read :
      (text : List ℕ) → WellFormed variables rank_variables text α →
      (ls : List Literal)
      × (read_answer variables rank_variables text ≡ given ls)
      × ((v : ℕ) → 1 ≤ v → v ≤ rank_variables → valued ls v ≡ α v)
  well_formed_read text w = (ends.had, read, ends.told)
    where
      ends : Ends 0 nothing (answer_lines w.answer)
      ends = answer_read w.answer w.names

      read : read_answer variables rank_variables text ≡ given ends.had
      read =
          unfold read_answer whole in
          (ap (λ (lines : List (List ℕ)). ◌>>=◌ (lines_after variables rank_variables 0 nothing lines) (whole (length text)))
          (text_lines (answer_lines w.answer) text (answer_full w.answer) w.written)
          ∙ given_bind (lines_after variables rank_variables 0 nothing (answer_lines w.answer)) _ (satisfied (closed ends.had)) ends.so)
