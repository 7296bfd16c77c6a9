-- An answer is refused by 14 exactly if it says UNSATISFIABLE or UNKNOWN and is well formed, and by 13 exactly if it is well formed in neither
-- way. Lines are refused by 13 alone, and what they said once stays said. Assumes nothing.
use Prim.Native.Nat.{ℕ, ◌+◌}
use mathlib.Core.Bool.{Bool, true, false, not}
use mathlib.Core.List.{List, [], ◌∷◌, ◌++◌, append-nil}
use mathlib.Core.Logic.{◌↔◌, ◌⊎◌, inl, inr}
use mathlib.Core.Path.{◌≡◌, refl, sym, ap, subst, ◌∙◌}
use native.Mathlib.Omega.{arith}
use lib.Dec.{leb}
use lib.ListN.{length}
use Rattle.reply.specs.Reply.{Refusal, Reply, given, refused, unless, ◌>>◌, ◌>>=◌, ◌at◌}
use Rattle.reply.proofs.Given.{refused_not_given, given_not_refused, bind_given, given_bind}
use Rattle.reply.proofs.Every.{Every, every_append}
use Rattle.text.specs.Text.{ascii, pieces, newline}
use Rattle.clauses.specs.Cnf.{Literal, Assignment, variable_of}
use Rattle.clauses.specs.Item.{Item, closing, literal, faulty, item}
use Rattle.answer_lines.specs.Values.{Values, unclosed, closed, names, named, item_after, items_after}
use Rattle.answer_lines.specs.Lines.{
  Line,
  comment,
  verdict,
  values,
  no_line,
  line_of,
  Said,
  nothing,
  satisfied,
  no_model,
  verdict_after,
  values_after,
  line_after,
  lines_after,
  whole,
  read_answer,
}
use Rattle.answer_lines.specs.Values.{valued}
use Rattle.printed_answer.specs.WellFormed.{Remark, remark_text, remark_texts, Lines, WellFormed}
use Rattle.printed_answer.specs.NoModel.{SaysNoModel}
use Rattle.printed_answer.specs.Computing.{computing}
use Rattle.printed_answer.proofs.LinesOfText.{FullLine, text_lines, lines_of, pieces_no_newline}
use Rattle.printed_answer.proofs.LinesRead.{remark_line, remarks_full}
use Rattle.printed_answer.proofs.Taken.{well_formed_read}
use Rattle.printed_answer.proofs.LinesBack.{Began, silent, model, none_found, begun, read_well_formed}

-- A line is refused by its own refusal.
abbrev Refuses : {A : Type 0} (fault : Refusal) → Reply A → Type 0
Refuses fault (given a) = Unit {0}
Refuses fault (refused r) = r ≡ fault

module _ {A B : Type 0} (fault : Refusal) where
  refuses_after : (first : Reply A) (next : A → Reply B) → Refuses fault first → ((a : A) → Refuses fault (next a)) → Refuses fault (◌>>=◌ first next)
  unfolding ◌>>=◌
  refuses_after (given a) next h k = k a
  refuses_after (refused r) next h k = h

module _ (fault : Refusal) (variables rank_variables : ℕ) where
  named_refuses : (l : Literal) (ls : List Literal) → Refuses fault (named fault rank_variables l ls)
  unfolding named unless ◌>>◌
  named_refuses l ls = go (leb (variable_of l) rank_variables) (not (names (variable_of l) ls))
    where
      go :
          (a b : Bool) →
          Refuses {A = Values} fault (elim a [ true ↦ ◌>>◌ (unless b fault) (given (unclosed (l ∷ ls))) | false ↦ given (unclosed ls) ])
      go true true = tt
      go true false = refl
      go false b = tt

  item_refuses : (vs : Values) (i : Item) → Refuses fault (item_after fault rank_variables vs i)
  unfolding item_after
  item_refuses (closed ls) closing = refl
  item_refuses (closed ls) (literal l) = refl
  item_refuses (closed ls) faulty = refl
  item_refuses (unclosed ls) closing = tt
  item_refuses (unclosed ls) (literal l) = named_refuses l ls
  item_refuses (unclosed ls) faulty = refl

  items_refuse : (items : List (List ℕ)) (vs : Values) → Refuses fault (items_after fault variables rank_variables vs items)
  unfolding items_after
  items_refuse [] vs = tt
  items_refuse (i ∷ items) vs =
      refuses_after fault (item_after fault rank_variables vs (item variables i)) _ (item_refuses vs (item variables i)) (λ vs'. items_refuse items vs')

  line_refuses : (said : Said) (line : Line) → Refuses fault (line_after fault variables rank_variables said line)
  unfolding line_after verdict_after values_after
  line_refuses said comment = tt
  line_refuses nothing (verdict true) = tt
  line_refuses nothing (verdict false) = tt
  line_refuses (satisfied vs) (verdict b) = refl
  line_refuses no_model (verdict b) = refl
  line_refuses nothing (values items) = refl
  line_refuses (satisfied vs) (values items) =
      refuses_after fault (items_after fault variables rank_variables vs items) _ (items_refuse items vs) (λ vs'. tt)
  line_refuses no_model (values items) = refl
  line_refuses said no_line = refl

  -- SATISFIABLE stays said.
  line_satisfied :
      (vs : Values) (line : Line) (said : Said) → line_after fault variables rank_variables (satisfied vs) line ≡ given said →
      (vs' : Values) × (said ≡ satisfied vs')
  unfolding line_after verdict_after values_after
  line_satisfied vs comment said e = (vs, cc e)
  line_satisfied vs (verdict b) said e = absurd (refused_not_given fault said e)
  line_satisfied vs (values items) said e = let (vs', items-so, same) = bind_given _ _ _ e in (vs', cc same)
  line_satisfied vs no_line said e = absurd (refused_not_given fault said e)

module _ (variables rank_variables : ℕ) where
  abbrev After : (p : ℕ) → Said → List (List ℕ) → Reply Said
  After p said lines = lines_after variables rank_variables p said lines

  lines_refused : (lines : List (List ℕ)) (p : ℕ) (said : Said) (r : Refusal) → After p said lines ≡ refused r → (q : ℕ) × (r ≡ 13 at q)
  unfolding lines_after
  lines_refused [] p said r e = absurd (given_not_refused said r e)
  lines_refused (line ∷ lines) p said r e =
      go (line_after (13 at p) variables rank_variables said (line_of line)) (line_refuses (13 at p) variables rank_variables said (line_of line)) e
      (λ said' h. lines_refused lines (p + length line + 1) said' r h)
    where
      go :
          (first : Reply Said) → Refuses (13 at p) first → ◌>>=◌ first (λ said'. After (p + length line + 1) said' lines) ≡ refused r →
          ((said' : Said) → After (p + length line + 1) said' lines ≡ refused r → (q : ℕ) × (r ≡ 13 at q)) → (q : ℕ) × (r ≡ 13 at q)
      go (given said') h k behind = behind said' (unfold ◌>>=◌ in k)
      go (refused s) h k behind = (p, let same : s ≡ r = unfold ◌>>=◌ in cc k in sym same ∙ h)

  satisfied_stays :
      (lines : List (List ℕ)) (p : ℕ) (vs : Values) (end : Said) → After p (satisfied vs) lines ≡ given end → (vs' : Values) × (end ≡ satisfied vs')
  unfolding lines_after
  satisfied_stays [] p vs end e = (vs, cc e)
  satisfied_stays (line ∷ lines) p vs end e =
      let (said, first, rest) = bind_given _ _ _ e in
      let (vs', same) = line_satisfied (13 at p) variables rank_variables vs (line_of line) said first in
      satisfied_stays lines (p + length line + 1) vs' end (subst (λ (x : Said). After (p + length line + 1) x lines ≡ given end) same rest)

  -- A text without a model is read so.
  abbrev Ends : Said → List (List ℕ) → Type 0
  Ends said lines = (p : ℕ) → After p said lines ≡ given no_model

  one_line :
      (said said' : Said) (line : List ℕ) (lines : List (List ℕ)) →
      ((fault : Refusal) → line_after fault variables rank_variables said (line_of line) ≡ given said') → Ends said' lines → Ends said (line ∷ lines)
  unfolding lines_after
  one_line said said' line lines taken ends p =
      given_bind (line_after (13 at p) variables rank_variables said (line_of line)) _ said' (taken (13 at p)) ∙ ends (p + length line + 1)

  remarks_passed : (rs : List Remark) (said : Said) (lines : List (List ℕ)) → Ends said lines → Ends said (remark_texts rs ++ lines)
  unfolding remark_texts
  remarks_passed [] said lines ends = ends
  remarks_passed (r ∷ rs) said lines ends =
      one_line said said (remark_text r) (remark_texts rs ++ lines) (λ fault. unfold line_after in rw (remark_line r) refl) (remarks_passed rs said lines ends)

  no_model_line :
      (line : List ℕ) → (line ≡ ascii "s UNSATISFIABLE") ⊎ (line ≡ ascii "s UNKNOWN") →
      ((fault : Refusal) → line_after fault variables rank_variables nothing (line_of line) ≡ given no_model) × FullLine line
  no_model_line line (inl e) =
      subst (λ (l : List ℕ). ((fault : Refusal) → line_after fault variables rank_variables nothing (line_of l) ≡ given no_model) × FullLine l) (sym e)
      (unsatisfiable, unfold ascii newline in record { no_newline = (refl, (refl, (refl, (refl, (refl, (refl, (refl, (refl, (refl, (refl, (refl, (refl, (refl, (refl, (refl, tt))))))))))))))); full = λ e'. let z : ◌≡◌ {A = ℕ} 0 1 = cc e' in omega arith })
    where
      unsatisfiable : (fault : Refusal) → line_after fault variables rank_variables nothing (line_of (ascii "s UNSATISFIABLE")) ≡ given no_model
      unsatisfiable fault = unfold computing in refl
  no_model_line line (inr e) =
      subst (λ (l : List ℕ). ((fault : Refusal) → line_after fault variables rank_variables nothing (line_of l) ≡ given no_model) × FullLine l) (sym e)
      (unknown, unfold ascii newline in record { no_newline = (refl, (refl, (refl, (refl, (refl, (refl, (refl, (refl, (refl, tt))))))))); full = λ e'. let z : ◌≡◌ {A = ℕ} 0 1 = cc e' in omega arith })
    where
      unknown : (fault : Refusal) → line_after fault variables rank_variables nothing (line_of (ascii "s UNKNOWN")) ≡ given no_model
      unknown fault = unfold computing in refl

  no_model_read : (text : List ℕ) → SaysNoModel text → read_answer variables rank_variables text ≡ refused (14 at 0)
  no_model_read text s = read
    where
      at_the_end : Ends no_model []
      at_the_end p = unfold lines_after in refl

      behind : Ends no_model (remark_texts s.behind)
      behind = subst (Ends no_model) (append-nil (remark_texts s.behind)) (remarks_passed s.behind no_model [] at_the_end)

      ends : Ends nothing (remark_texts s.before ++ (s.verdict ∷ remark_texts s.behind))
      ends =
          remarks_passed s.before nothing (s.verdict ∷ remark_texts s.behind)
          (one_line nothing no_model s.verdict (remark_texts s.behind) (no_model_line s.verdict s.says).0 behind)

      full : Every FullLine (remark_texts s.before ++ (s.verdict ∷ remark_texts s.behind))
      full =
          every_append FullLine (remark_texts s.before) _ (remarks_full s.before)
          ((no_model_line s.verdict s.says).1, remarks_full s.behind)

      read : read_answer variables rank_variables text ≡ refused (14 at 0)
      read =
          unfold read_answer whole in
          (ap (λ (ls : List (List ℕ)). ◌>>=◌ (lines_after variables rank_variables 0 nothing ls) (whole (length text)))
          (text_lines (remark_texts s.before ++ (s.verdict ∷ remark_texts s.behind)) text full s.written)
          ∙ given_bind (lines_after variables rank_variables 0 nothing (remark_texts s.before ++ (s.verdict ∷ remark_texts s.behind))) _ no_model (ends 0))

  -- What was said, by the reply.
  says_so : (text : List ℕ) → lines_after variables rank_variables 0 nothing (pieces newline text) ≡ given no_model → SaysNoModel text
  says_so text e = go (begun variables rank_variables (pieces newline text) 0 no_model (pieces_no_newline text) e)
    where
      go : Began variables rank_variables (pieces newline text) no_model → SaysNoModel text
      go (silent same) = absurd (let z : ◌≡◌ {A = ℕ} 0 1 = cc same in omega arith)
      go (model before rest p all none goes) =
          let (vs, same) = satisfied_stays rest p (unclosed []) no_model goes in
          absurd (let z : ◌≡◌ {A = ℕ} 0 1 = cc same in omega arith)
      go (none_found before line behind says all same) = record {
        before = before;
        verdict = line;
        behind = behind;
        says = says;
        written = subst (λ (ls : List (List ℕ)). Lines ls text) all (lines_of text);
      }

  -- Refused by 13 at some place, or by 14 for no model.
  data Refused (text : List ℕ) (r : Refusal) : Type 0 where
    malformed : (p : ℕ) → r ≡ 13 at p → Refused text r
    no_model_lem : SaysNoModel text → r ≡ 14 at 0 → Refused text r

  refused_as : (text : List ℕ) (r : Refusal) → read_answer variables rank_variables text ≡ refused r → Refused text r
  unfolding read_answer
  refused_as text r e = go (lines_after variables rank_variables 0 nothing (pieces newline text)) refl e
    where
      ended : (said : Said) → lines_after variables rank_variables 0 nothing (pieces newline text) ≡ given said → whole (length text) said ≡ refused r → Refused text r
      ended nothing so k = malformed (length text) (let same : 13 at (length text) ≡ r = unfold whole in cc k in sym same)
      ended (satisfied (unclosed ls)) so k = malformed (length text) (let same : 13 at (length text) ≡ r = unfold whole in cc k in sym same)
      ended (satisfied (closed ls)) so k = absurd (given_not_refused ls r (unfold whole in k))
      ended no_model so k = no_model_lem (says_so text so) (let same : 14 at 0 ≡ r = unfold whole in cc k in sym same)

      go :
          (first : Reply Said) → lines_after variables rank_variables 0 nothing (pieces newline text) ≡ first → ◌>>=◌ first (whole (length text)) ≡ refused r →
          Refused text r
      go (given said) so k = ended said so (unfold ◌>>=◌ in k)
      go (refused s) so k =
          let (p, is13) = lines_refused (pieces newline text) 0 nothing s so in
          malformed p (let same : s ≡ r = unfold ◌>>=◌ in cc k in sym same ∙ is13)

  pub no_model_exactly : (text : List ℕ) → (read_answer variables rank_variables text ≡ refused (14 at 0)) ↔ SaysNoModel text
  no_model_exactly text = (λ e. go (refused_as text (14 at 0) e), no_model_read text)
    where
      go : Refused text (14 at 0) → SaysNoModel text
      go (malformed p same) = absurd (let z : ◌≡◌ {A = ℕ} 14 13 = ap (λ (r : Refusal). r.number) same in omega arith)
      go (no_model_lem says same) = says

  pub malformed_exactly :
      (text : List ℕ) →
      ((p : ℕ) × (read_answer variables rank_variables text ≡ refused (13 at p)))
      ↔ (((α : Assignment) → WellFormed variables rank_variables text α → ⊥) × (SaysNoModel text → ⊥))
  malformed_exactly text = (neither, λ h. refuses h (read_answer variables rank_variables text) refl)
    where
      neither :
          ((p : ℕ) × (read_answer variables rank_variables text ≡ refused (13 at p))) →
          (((α : Assignment) → WellFormed variables rank_variables text α → ⊥) × (SaysNoModel text → ⊥))
      neither (p, e) = (
        λ α w. let (ls, read, told) = well_formed_read variables rank_variables α text w in given_not_refused ls (13 at p) (sym read ∙ e),
        λ s.
            let both : refused (13 at p) ≡ refused (14 at 0) = sym e ∙ no_model_read text s in
            let same : 13 at p ≡ 14 at 0 = cc both in
            let z : ◌≡◌ {A = ℕ} 13 14 = ap (λ (r : Refusal). r.number) same in omega arith,
      )

      refuses :
          ((α : Assignment) → WellFormed variables rank_variables text α → ⊥) × (SaysNoModel text → ⊥) →
          (reply : Reply (List Literal)) → read_answer variables rank_variables text ≡ reply →
          (p : ℕ) × (read_answer variables rank_variables text ≡ refused (13 at p))
      refuses h (given ls) e = absurd (h.0 (valued ls) (read_well_formed variables rank_variables text ls (valued ls) e (λ v low high. refl)))
      refuses h (refused r) e = go (refused_as text r e)
        where
          go : Refused text r → (p : ℕ) × (read_answer variables rank_variables text ≡ refused (13 at p))
          go (malformed p same) = (p, e ∙ ap (λ (q : Refusal). refused q) same)
          go (no_model_lem says same) = absurd (h.1 says)
