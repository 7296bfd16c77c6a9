-- What a line is, by what it is read as; and so an answer that is read to values is a well-formed one, and one that is read to no model says
-- so in a well-formed way. Line by line, from the last to the first. Assumes nothing.
use Prim.Native.Nat.{ℕ, ◌+◌, ◌≤◌}
use mathlib.Core.Bool.{Bool, true, false, ◌||◌}
use mathlib.Core.List.{List, [], ◌∷◌, ◌++◌, map, flat_map, append_assoc, append-nil}
use mathlib.Core.Logic.{◌⊎◌, inl, inr}
use mathlib.Core.Path.{◌≡◌, refl, sym, ap, ap₂, subst, ◌∙◌}
use native.Mathlib.Omega.{arith}
use lib.Dec.{eqb→eq}
use lib.ListN.{length}
use Rattle.reply.specs.Reply.{Refusal, Reply, given, refused, ◌>>=◌, ◌at◌}
use Rattle.reply.proofs.Tests.{passed, or_cases, differ}
use Rattle.reply.proofs.Given.{refused_not_given, bind_given}
use Rattle.reply.proofs.Every.{Every, every_member}
use Rattle.text.specs.Text.{ascii, same_text, pieces, newline, space, words}
use Rattle.text.proofs.Words.{same_text_lem}
use Rattle.clauses.specs.Cnf.{Literal, Assignment}
use Rattle.answer_lines.specs.Values.{Values, unclosed, closed, item_after, items_after}
use Rattle.answer_lines.specs.Lines.{
  Line,
  comment,
  verdict,
  values,
  no_line,
  item_line,
  value_line,
  verdict_line,
  line_of,
  Said,
  nothing,
  satisfied,
  no_model,
  verdict_after,
  values_after,
  line_after,
  lines_after,
  whole,
  read_answer,
}
use Rattle.answer_lines.specs.Values.{valued}
use Rattle.printed_answer.specs.WellFormed.{Remark, Spaced, AnswerLine, remark, literals, ClosingLine, remark_text, spaces, item_text, spaced_text, line_text, closing_text, remark_texts, answer_lines, Lines, line_literals, all_literals, WellFormed}
use Rattle.printed_answer.proofs.Spaces.{Gap, gap_text, gaps_in}
use Rattle.printed_answer.proofs.LinesOfText.{NoNewline, lines_of, pieces_no_newline}
use Rattle.printed_answer.proofs.Taken.{literals_of, literals_append}
use Rattle.printed_answer.proofs.NamesBack.{TakenBehind, none_taken, ItemsAre, no_zero, a_zero, items_back, taken_names}

abbrev words_of : List Gap → List (List ℕ)
words_of gaps = map (λ (g : Gap). g.word) gaps

-- What a line is, and what it is read as.
data Kind (line : List ℕ) : Type 0 where
  is_remark : (bytes : List ℕ) → line ≡ ascii "c" ++ bytes → line_of line ≡ comment → Kind line
  is_model : line ≡ ascii "s SATISFIABLE" → line_of line ≡ verdict true → Kind line
  is_no_model : (line ≡ ascii "s UNSATISFIABLE") ⊎ (line ≡ ascii "s UNKNOWN") → line_of line ≡ verdict false → Kind line
  is_values :
      (g : Gap) (gaps : List Gap) (at_end : ℕ) → line ≡ ascii "v" ++ (flat_map gap_text (g ∷ gaps) ++ spaces at_end) →
      line_of line ≡ values (words_of (g ∷ gaps)) → Kind line
  is_none : line_of line ≡ no_line → Kind line

verdict_kind : (line : List ℕ) → line_of line ≡ verdict_line line → Kind line
unfolding verdict_line
verdict_kind line same = go (same_text line (ascii "s SATISFIABLE")) refl
  where
    other :
        (t : Bool) → (same_text line (ascii "s UNSATISFIABLE") || same_text line (ascii "s UNKNOWN")) ≡ t →
        line_of line ≡ elim t [ true ↦ verdict false | false ↦ no_line ] → Kind line
    other true e q =
        is_no_model
        (or_cases (same_text line (ascii "s UNSATISFIABLE")) (same_text line (ascii "s UNKNOWN")) (passed e)
        (λ t. inl (same_text_lem line (ascii "s UNSATISFIABLE") t)) (λ t. inr (same_text_lem line (ascii "s UNKNOWN") t)))
        q
    other false e q = is_none q

    go : (t : Bool) → same_text line (ascii "s SATISFIABLE") ≡ t → Kind line
    go true e = is_model (same_text_lem line (ascii "s SATISFIABLE") (passed e)) (same ∙ rw (verdict_line, e) refl)
    go false e =
        other (same_text line (ascii "s UNSATISFIABLE") || same_text line (ascii "s UNKNOWN")) refl (same ∙ rw (verdict_line, e) refl)

values_kind : (line bytes : List ℕ) → line ≡ ascii "v" ++ bytes → line_of line ≡ value_line bytes → Kind line
unfolding value_line
values_kind line [] text same = is_none same
values_kind line (b ∷ bs) text same = go (space b) refl same
  where
    found : b ≡ 32 → (gaps : List Gap) (at_end : ℕ) → 32 ∷ bs ≡ flat_map gap_text gaps ++ spaces at_end → line_of line ≡ item_line (words_of gaps) → Kind line
    found sp [] at_end parts q = is_none (q ∙ unfold item_line in refl)
    found sp (g ∷ gaps) at_end parts q =
        is_values g gaps at_end (text ∙ ap (λ (c : ℕ). ascii "v" ++ (c ∷ bs)) sp ∙ ap (λ (l : List ℕ). ascii "v" ++ l) parts) (q ∙ unfold item_line in refl)

    go : (t : Bool) → space b ≡ t → line_of line ≡ elim t [ true ↦ item_line (words space bs) | false ↦ no_line ] → Kind line
    go true e q =
        let inside = gaps_in bs in
        found (unfold space in eqb→eq b 32 (passed e)) inside.gaps inside.at_end inside.parts (q ∙ ap item_line (sym inside.same))
    go false e q = is_none q

kind : (line : List ℕ) → Kind line
unfolding line_of
kind [] = is_none refl
kind (b ∷ bs) = go (same_text (b ∷ []) (ascii "c")) refl refl
  where
    other :
        (t : Bool) → same_text (b ∷ []) (ascii "v") ≡ t → line_of (b ∷ bs) ≡ elim t [ true ↦ value_line bs | false ↦ verdict_line (b ∷ bs) ] → Kind (b ∷ bs)
    other true e q = values_kind (b ∷ bs) bs (ap (λ (l : List ℕ). l ++ bs) (same_text_lem (b ∷ []) (ascii "v") (passed e))) q
    other false e q = verdict_kind (b ∷ bs) q

    go :
        (t : Bool) → same_text (b ∷ []) (ascii "c") ≡ t →
        line_of (b ∷ bs)
        ≡ elim t [
          | true ↦ comment
          | false ↦ elim (same_text (b ∷ []) (ascii "v")) [ true ↦ value_line bs | false ↦ verdict_line (b ∷ bs) ]
        ] →
        Kind (b ∷ bs)
    go true e q = is_remark bs (ap (λ (l : List ℕ). l ++ bs) (same_text_lem (b ∷ []) (ascii "c") (passed e))) q
    go false e q = other (same_text (b ∷ []) (ascii "v")) refl q

-- A c line without a newline is a remark.
a_remark : (line bytes : List ℕ) → line ≡ ascii "c" ++ bytes → NoNewline line → (r : Remark) × (line ≡ remark_text r)
unfolding remark_text ascii newline
a_remark line bytes e none = (
  record { text = bytes; one_line = λ b m. differ b 10 (every_member (λ c. newline c ≡ false) m (subst NoNewline e none).1) },
  e,
)

nothing_before : (lines : List (List ℕ)) → lines ≡ remark_texts [] ++ lines
unfolding remark_texts
nothing_before lines = refl

module _ (variables rank_variables : ℕ) where
  abbrev After : (p : ℕ) → Said → List (List ℕ) → Reply Said
  After p said lines = lines_after variables rank_variables p said lines

  -- One more line is taken.
  first_line :
      (p : ℕ) (said : Said) (line : List ℕ) (lines : List (List ℕ)) (end : Said) → After p said (line ∷ lines) ≡ given end →
      (said' : Said)
      × (line_after (13 at p) variables rank_variables said (line_of line) ≡ given said')
      × (After (p + length line + 1) said' lines ≡ given end)
  unfolding lines_after
  first_line p said line lines end e = bind_given _ _ _ e

  no_lines : (p : ℕ) (said end : Said) → After p said [] ≡ given end → end ≡ said
  unfolding lines_after
  no_lines p said end e = cc e

  not_taken :
      {C : Type 0} (fault : Refusal) (said said' : Said) (line : List ℕ) (l : Line) → line_of line ≡ l →
      line_after fault variables rank_variables said l ≡ refused fault →
      line_after fault variables rank_variables said (line_of line) ≡ given said' → C
  not_taken fault said said' line l is refusal e =
      absurd (refused_not_given fault said' (sym (ap (line_after fault variables rank_variables said) is ∙ refusal) ∙ e))

  remark_taken :
      (fault : Refusal) (said said' : Said) (line : List ℕ) → line_of line ≡ comment → line_after fault variables rank_variables said (line_of line) ≡ given said' →
      said' ≡ said
  unfolding line_after
  remark_taken fault said said' line is e = cc (sym (ap (line_after fault variables rank_variables said) is) ∙ e)

  -- Only c lines stand, and what was said stays.
  abbrev AllRemarks : List (List ℕ) → (said end : Said) → Type 0
  AllRemarks lines said end = (remarks : List Remark) × (lines ≡ remark_texts remarks) × (end ≡ said)

  -- Where neither an s line nor a v line is taken, only c lines stand.
  module _
      (said : Said)
      (no_verdict : (fault : Refusal) (b : Bool) → line_after fault variables rank_variables said (verdict b) ≡ refused fault)
      (no_values : (fault : Refusal) (w : List ℕ) (ws : List (List ℕ)) → line_after fault variables rank_variables said (values (w ∷ ws)) ≡ refused fault)
    where
      only_remarks :
          (lines : List (List ℕ)) (p : ℕ) (end : Said) → Every NoNewline lines → After p said lines ≡ given end →
          AllRemarks lines said end
      only_remarks [] p end none e = ([], unfold remark_texts in refl, no_lines p said end e)
      only_remarks (line ∷ lines) p end none e =
          let (said', taken, rest) = first_line p said line lines end e in
          go said' taken (kind line)
          (λ (same : said' ≡ said).
          only_remarks lines (p + length line + 1) end none.1 (subst (λ (x : Said). After (p + length line + 1) x lines ≡ given end) same rest))
        where
          onto : (r : Remark) → line ≡ remark_text r → AllRemarks lines said end → AllRemarks (line ∷ lines) said end
          onto r is (remarks, all, same) = (
            r ∷ remarks,
            unfold remark_texts in ap₂ (λ (l : List ℕ) (ls : List (List ℕ)). l ∷ ls) is all,
            same,
          )

          go :
              (said' : Said) → line_after (13 at p) variables rank_variables said (line_of line) ≡ given said' → Kind line →
              (said' ≡ said → AllRemarks lines said end) → AllRemarks (line ∷ lines) said end
          go said' taken (is_remark bytes text is) behind =
              let (r, same) = a_remark line bytes text none.0 in
              onto r same (behind (remark_taken (13 at p) said said' line is taken))
          go said' taken (is_model text is) behind = not_taken (13 at p) said said' line (verdict true) is (no_verdict (13 at p) true) taken
          go said' taken (is_no_model text is) behind = not_taken (13 at p) said said' line (verdict false) is (no_verdict (13 at p) false) taken
          go said' taken (is_values g gaps at_end text is) behind =
              not_taken (13 at p) said said' line (values (words_of (g ∷ gaps))) is (no_values (13 at p) g.word (words_of gaps)) taken
          go said' taken (is_none is) behind = not_taken (13 at p) said said' line no_line is (unfold line_after in refl) taken

  -- Behind the closing 0, and behind UNSATISFIABLE or UNKNOWN.
  closed_back :
      (had : List Literal) (lines : List (List ℕ)) (p : ℕ) (end : Said) → Every NoNewline lines → After p (satisfied (closed had)) lines ≡ given end →
      AllRemarks lines (satisfied (closed had)) end
  unfolding line_after verdict_after values_after items_after item_after ◌>>=◌
  closed_back had = only_remarks (satisfied (closed had)) (λ fault b. refl) (λ fault w ws. refl)

  no_model_back :
      (lines : List (List ℕ)) (p : ℕ) (end : Said) → Every NoNewline lines → After p no_model lines ≡ given end →
      AllRemarks lines no_model end
  unfolding line_after verdict_after values_after
  no_model_back = only_remarks no_model (λ fault b. refl) (λ fault w ws. refl)

  -- Behind SATISFIABLE: lines up to the closing 0, and the c lines behind it.
  record UpToTheZero (had : List Literal) (lines : List (List ℕ)) (left : List Literal) : Type 0 where
    up_to : List AnswerLine
    closing : ClosingLine
    behind : List Remark
    written : lines ≡ map line_text up_to ++ closing_text closing ∷ remark_texts behind
    taken : TakenBehind variables rank_variables had (literals_of (flat_map line_literals up_to ++ closing.literals)) left

  items_of :
      (fault : Refusal) (had : List Literal) (said : Said) (line : List ℕ) (gaps : List Gap) → line_of line ≡ values (words_of gaps) →
      line_after fault variables rank_variables (satisfied (unclosed had)) (line_of line) ≡ given said →
      (vs : Values) × (items_after fault variables rank_variables (unclosed had) (words_of gaps) ≡ given vs) × (said ≡ satisfied vs)
  unfolding line_after values_after
  items_of fault had said line gaps is e =
      let (vs, items, same) = bind_given _ _ _ (sym (ap (line_after fault variables rank_variables (satisfied (unclosed had))) is) ∙ e) in
      (vs, items, cc same)

  remark_onto :
      (had left : List Literal) (line : List ℕ) (lines : List (List ℕ)) (r : Remark) → line ≡ remark_text r → UpToTheZero had lines left →
      UpToTheZero had (line ∷ lines) left
  unfolding line_text flat_map line_literals
  remark_onto had left line lines r is z = record {
    up_to = remark r ∷ z.up_to;
    closing = z.closing;
    behind = z.behind;
    written = ap₂ (λ (l : List ℕ) (ls : List (List ℕ)). l ∷ ls) is z.written;
    taken = z.taken;
  }

  literals_onto :
      (had had' left : List Literal) (line : List ℕ) (lines : List (List ℕ)) (s : Spaced) (ss : List Spaced) (at_end : ℕ) →
      line ≡ ascii "v" ++ (flat_map spaced_text (s ∷ ss) ++ spaces at_end) →
      ((ls : List Literal) → TakenBehind variables rank_variables had' ls left → TakenBehind variables rank_variables had (literals_of (s ∷ ss) ++ ls) left) →
      UpToTheZero had' lines left → UpToTheZero had (line ∷ lines) left
  unfolding line_text flat_map line_literals
  literals_onto had had' left line lines s ss at_end text onto z = record {
    up_to = literals s ss at_end ∷ z.up_to;
    closing = z.closing;
    behind = z.behind;
    written = ap₂ (λ (l : List ℕ) (ls : List (List ℕ)). l ∷ ls) text z.written;
    taken =
        subst (λ (ls : List Literal). TakenBehind variables rank_variables had ls left)
        (sym (ap literals_of (append_assoc (s ∷ ss) (flat_map line_literals z.up_to) z.closing.literals)
        ∙ literals_append (s ∷ ss) (flat_map line_literals z.up_to ++ z.closing.literals)))
        (onto (literals_of (flat_map line_literals z.up_to ++ z.closing.literals)) z.taken);
  }

  closing_taken :
      (had : List Literal) (ss : List Spaced) (left : List Literal) → TakenBehind variables rank_variables had (literals_of ss ++ []) left →
      TakenBehind variables rank_variables had (literals_of (flat_map line_literals [] ++ ss)) left
  unfolding flat_map
  closing_taken had ss left taken = subst (λ (ls : List Literal). TakenBehind variables rank_variables had ls left) (append-nil (literals_of ss)) taken

  abbrev Rest : (p : ℕ) (line : List ℕ) (lines : List (List ℕ)) (left : List Literal) → Said → Type 0
  Rest p line lines left said = After (p + length line + 1) said lines ≡ given (satisfied (closed left))

  model_back :
      (lines : List (List ℕ)) (p : ℕ) (had left : List Literal) → Every NoNewline lines →
      After p (satisfied (unclosed had)) lines ≡ given (satisfied (closed left)) → UpToTheZero had lines left
  model_back [] p had left none e = absurd (let z : ◌≡◌ {A = ℕ} 0 1 = cc (no_lines p (satisfied (unclosed had)) _ e) in omega arith)
  model_back (line ∷ lines) p had left none e =
      let (said', taken, rest) = first_line p (satisfied (unclosed had)) line lines (satisfied (closed left)) e in
      go said' taken (kind line) rest (λ had' h. model_back lines (p + length line + 1) had' left none.1 h)
    where
      values_first :
          (said' : Said) (g : Gap) (gaps : List Gap) (at_end : ℕ) → line ≡ ascii "v" ++ (flat_map gap_text (g ∷ gaps) ++ spaces at_end) → (vs : Values) →
          said' ≡ satisfied vs → ItemsAre variables rank_variables (13 at p) (g ∷ gaps) had vs → Rest p line lines left said' →
          ((had' : List Literal) → Rest p line lines left (satisfied (unclosed had')) → UpToTheZero had' lines left) → UpToTheZero had (line ∷ lines) left
      values_first said' g gaps at_end text vs same (no_zero [] had' stays count parts onto) rest behind = absurd (omega (arith, count))
      values_first said' g gaps at_end text vs same (no_zero (s ∷ ss) had' stays count parts onto) rest behind =
          literals_onto had had' left line lines s ss at_end (text ∙ ap (λ (t : List ℕ). ascii "v" ++ (t ++ spaces at_end)) parts) (λ ls. onto ls left)
          (behind had' (subst (Rest p line lines left) (same ∙ ap (λ (x : Values). satisfied x) stays) rest))
      values_first said' g gaps at_end text vs same (a_zero ss more had' shut parts onto) rest behind =
          let (remarks, all, end) =
          closed_back had' lines (p + length line + 1) (satisfied (closed left)) none.1 (subst (Rest p line lines left) (same ∙ ap (λ (x : Values). satisfied x) shut) rest) in
          let left_so : left ≡ had' = cc end in
          record {
            up_to = [];
            closing = record { literals = ss; more = more; at_end = at_end };
            behind = remarks;
            written = ap₂ (λ (l : List ℕ) (ls : List (List ℕ)). l ∷ ls)
                (unfold closing_text in
                (text ∙ ap (λ (t : List ℕ). ascii "v" ++ (t ++ spaces at_end)) parts
                ∙ ap (λ (t : List ℕ). ascii "v" ++ t) (append_assoc (flat_map spaced_text ss) (item_text more (ascii "0")) (spaces at_end))))
                all;
            taken = closing_taken had ss left
                (onto [] left (subst (λ (h : List Literal). TakenBehind variables rank_variables h [] left) left_so (none_taken variables rank_variables left)));
          }

      go :
          (said' : Said) → line_after (13 at p) variables rank_variables (satisfied (unclosed had)) (line_of line) ≡ given said' → Kind line → Rest p line lines left said' →
          ((had' : List Literal) → Rest p line lines left (satisfied (unclosed had')) → UpToTheZero had' lines left) → UpToTheZero had (line ∷ lines) left
      go said' taken (is_remark bytes text is) rest behind =
          let (r, same) = a_remark line bytes text none.0 in
          remark_onto had left line lines r same
          (behind had (subst (Rest p line lines left) (remark_taken (13 at p) (satisfied (unclosed had)) said' line is taken) rest))
      go said' taken (is_model text is) rest behind =
          not_taken (13 at p) (satisfied (unclosed had)) said' line (verdict true) is (unfold line_after verdict_after in refl) taken
      go said' taken (is_no_model text is) rest behind =
          not_taken (13 at p) (satisfied (unclosed had)) said' line (verdict false) is (unfold line_after verdict_after in refl) taken
      go said' taken (is_values g gaps at_end text is) rest behind =
          let (vs, items, same) = items_of (13 at p) had said' line (g ∷ gaps) is taken in
          values_first said' g gaps at_end text vs same (items_back variables rank_variables (13 at p) (g ∷ gaps) had vs items) rest behind
      go said' taken (is_none is) rest behind =
          not_taken (13 at p) (satisfied (unclosed had)) said' line no_line is (unfold line_after in refl) taken

  -- Before the s line: c lines alone.
  pub data Began (lines : List (List ℕ)) (end : Said) : Type 0 where
    silent : end ≡ nothing → Began lines end
    model :
        (before : List Remark) (rest : List (List ℕ)) (p : ℕ) → lines ≡ remark_texts before ++ (ascii "s SATISFIABLE" ∷ rest) → Every NoNewline rest →
        After p (satisfied (unclosed [])) rest ≡ given end → Began lines end
    none_found :
        (before : List Remark) (line : List ℕ) (behind : List Remark) → (line ≡ ascii "s UNSATISFIABLE") ⊎ (line ≡ ascii "s UNKNOWN") →
        lines ≡ remark_texts before ++ (line ∷ remark_texts behind) → end ≡ no_model → Began lines end

  verdict_taken :
      (fault : Refusal) (said' : Said) (line : List ℕ) (b : Bool) → line_of line ≡ verdict b →
      line_after fault variables rank_variables nothing (line_of line) ≡ given said' → verdict_after fault nothing b ≡ given said'
  unfolding line_after
  verdict_taken fault said' line b is e = sym (ap (line_after fault variables rank_variables nothing) is) ∙ e

  pub begun : (lines : List (List ℕ)) (p : ℕ) (end : Said) → Every NoNewline lines → After p nothing lines ≡ given end → Began lines end
  begun [] p end none e = silent (no_lines p nothing end e)
  begun (line ∷ lines) p end none e =
      let (said', taken, rest) = first_line p nothing line lines end e in
      go said' taken (kind line) rest (λ h. begun lines (p + length line + 1) end none.1 h)
    where
      onto : (r : Remark) → line ≡ remark_text r → Began lines end → Began (line ∷ lines) end
      onto r is (silent same) = silent same
      onto r is (model before rest p' all none' goes) =
          model (r ∷ before) rest p' (unfold remark_texts in ap₂ (λ (l : List ℕ) (ls : List (List ℕ)). l ∷ ls) is all) none' goes
      onto r is (none_found before s behind says all same) =
          none_found (r ∷ before) s behind says (unfold remark_texts in ap₂ (λ (l : List ℕ) (ls : List (List ℕ)). l ∷ ls) is all) same

      go :
          (said' : Said) → line_after (13 at p) variables rank_variables nothing (line_of line) ≡ given said' → Kind line →
          After (p + length line + 1) said' lines ≡ given end → (After (p + length line + 1) nothing lines ≡ given end → Began lines end) →
          Began (line ∷ lines) end
      go said' taken (is_remark bytes text is) rest behind =
          let (r, same) = a_remark line bytes text none.0 in
          onto r same
          (behind (subst (λ (x : Said). After (p + length line + 1) x lines ≡ given end) (remark_taken (13 at p) nothing said' line is taken) rest))
      go said' taken (is_model text is) rest behind =
          let same : said' ≡ satisfied (unclosed []) = unfold verdict_after in cc (verdict_taken (13 at p) said' line true is taken) in
          model [] lines (p + length line + 1) (ap (λ (l : List ℕ). l ∷ lines) text ∙ nothing_before (ascii "s SATISFIABLE" ∷ lines)) none.1
          (subst (λ (x : Said). After (p + length line + 1) x lines ≡ given end) same rest)
      go said' taken (is_no_model text is) rest behind =
          let same : said' ≡ no_model = unfold verdict_after in cc (verdict_taken (13 at p) said' line false is taken) in
          let (remarks, all, ends) =
          no_model_back lines (p + length line + 1) end none.1 (subst (λ (x : Said). After (p + length line + 1) x lines ≡ given end) same rest) in
          none_found [] line remarks text (ap (λ (ls : List (List ℕ)). line ∷ ls) all ∙ nothing_before (line ∷ remark_texts remarks)) ends
      go said' taken (is_values g gaps at_end text is) rest behind =
          not_taken (13 at p) nothing said' line (values (words_of (g ∷ gaps))) is (unfold line_after values_after in refl) taken
      go said' taken (is_none is) rest behind = not_taken (13 at p) nothing said' line no_line is (unfold line_after in refl) taken

  -- What is given in the end was closed.
  whole_given : (len : ℕ) (said : Said) (left : List Literal) → whole len said ≡ given left → said ≡ satisfied (closed left)
  unfolding whole
  whole_given len nothing left e = absurd (refused_not_given (13 at len) left e)
  whole_given len (satisfied (unclosed ls)) left e = absurd (refused_not_given (13 at len) left e)
  whole_given len (satisfied (closed ls)) left e = cc e
  whole_given len no_model left e = absurd (refused_not_given (14 at 0) left e)

  pub read_well_formed :
      (text : List ℕ) (left : List Literal) (α : Assignment) → read_answer variables rank_variables text ≡ given left →
      ((v : ℕ) → 1 ≤ v → v ≤ rank_variables → valued left v ≡ α v) → WellFormed variables rank_variables text α
  unfolding read_answer answer_lines all_literals
  read_well_formed text left α read told =
      let (said, lines-so, end) = bind_given _ _ _ read in
      let shut : said ≡ satisfied (closed left) = whole_given (length text) said left end in
      go (begun (pieces newline text) 0 said (pieces_no_newline text) lines-so) shut
    where
      go : {said : Said} → Began (pieces newline text) said → said ≡ satisfied (closed left) → WellFormed variables rank_variables text α
      go (silent same) shut = absurd (let z : ◌≡◌ {A = ℕ} 0 1 = cc (sym same ∙ shut) in omega arith)
      go (none_found before line behind says all same) shut = absurd (let z : ◌≡◌ {A = ℕ} 0 1 = cc (sym same ∙ shut) in omega arith)
      go (model before rest p all none goes) shut =
          let z = model_back rest p [] left none (goes ∙ ap (λ (x : Said). given x) shut) in
          record {
            answer = record { before = before; lines = z.up_to; closing = z.closing; behind = z.behind };
            written =
                subst (λ (ls : List (List ℕ)). Lines ls text)
                (all ∙ ap (λ (ls : List (List ℕ)). remark_texts before ++ (ascii "s SATISFIABLE" ∷ ls)) z.written) (lines_of text);
            names = taken_names variables rank_variables _ left α z.taken told;
          }
