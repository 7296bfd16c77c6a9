-- "lines ended by newline, the last newline optional": a text written so falls into its lines again, and every text is written so from the
-- lines into which it falls. Assumes nothing.
use Prim.Native.Nat.{ℕ}
use mathlib.Core.Bool.{Bool, true, false}
use mathlib.Core.List.{List, [], ◌∷◌, ◌++◌, flat_map, append_assoc, append-ne-nil_of_right_ne-nil, cons≢nil}
use mathlib.Core.Logic.{◌≢◌, ◌⊎◌, inl, inr}
use mathlib.Core.Path.{◌≡◌, refl, sym, ap, ap₂, subst, ◌∙◌}
use lib.Dec.{eqb→eq}
use Rattle.reply.proofs.Tests.{passed}
use Rattle.reply.proofs.Every.{Every, every_implied}
use Rattle.text.specs.Text.{ascii, pieces, newline, onto_first}
use Rattle.text.proofs.Words.{piece_first}
use Rattle.printed_answer.specs.WellFormed.{ended, Lines, all_ended, last_open}

abbrev pub NoNewline : List ℕ → Type 0
NoNewline = Every (λ b. newline b ≡ false)

-- A line that has no newline in it and is not empty.
pub record FullLine (line : List ℕ) : Type 0 where
  pub no_newline : NoNewline line
  pub full : line ≢ []

lines_again : (lines : List (List ℕ)) → Every NoNewline lines → pieces newline (ended lines) ≡ lines
unfolding ended flat_map
lines_again [] none = unfold pieces in refl
lines_again (line ∷ lines) none =
    ap (pieces newline) (append_assoc line (ascii "\n") (ended lines)) ∙ first ∙ ap (λ (ls : List (List ℕ)). line ∷ ls) (lines_again lines none.1)
  where
    first : pieces newline (line ++ (ascii "\n" ++ ended lines)) ≡ line ∷ pieces newline (ended lines)
    first = unfold ascii in piece_first newline line none.0 10 (ended lines) (unfold newline in refl)

-- A newline at the end is a line's, or ends an empty one.
abbrev Behind : (text : List ℕ) (with_it without : List (List ℕ)) → Type 0
Behind text with_it without = (with_it ≡ without) ⊎ (with_it ≡ without ++ ([] ∷ []))

newline_behind : (text : List ℕ) → Behind text (pieces newline (text ++ ascii "\n")) (pieces newline text)
unfolding pieces ascii
newline_behind [] = inr (unfold newline in refl)
newline_behind (b ∷ bs) = go (newline b) refl (newline_behind bs)
  where
    onto : (ps qs : List (List ℕ)) → (ps ≡ qs) ⊎ (ps ≡ qs ++ ([] ∷ [])) → Behind (b ∷ bs) (onto_first b ps) (onto_first b qs)
    onto ps qs (inl e) = inl (ap (onto_first b) e)
    onto ps [] (inr e) = inl (unfold onto_first in ap (onto_first b) e)
    onto ps (q ∷ qs) (inr e) = inr (unfold onto_first in ap (onto_first b) e)

    further : (ps qs : List (List ℕ)) → (ps ≡ qs) ⊎ (ps ≡ qs ++ ([] ∷ [])) → Behind (b ∷ bs) ([] ∷ ps) ([] ∷ qs)
    further ps qs (inl e) = inl (ap (λ (ls : List (List ℕ)). [] ∷ ls) e)
    further ps qs (inr e) = inr (ap (λ (ls : List (List ℕ)). [] ∷ ls) e)

    go :
        (t : Bool) → newline b ≡ t → Behind bs (pieces newline (bs ++ (10 ∷ []))) (pieces newline bs) →
        Behind (b ∷ bs) (pieces newline (b ∷ bs ++ (10 ∷ []))) (pieces newline (b ∷ bs))
    go true e behind = rw (pieces, e) (further (pieces newline (bs ++ (10 ∷ []))) (pieces newline bs) behind)
    go false e behind = rw (pieces, e) (onto (pieces newline (bs ++ (10 ∷ []))) (pieces newline bs) behind)

no_empty_line : (lines : List (List ℕ)) → Every FullLine (lines ++ ([] ∷ [])) → ⊥
no_empty_line [] all = all.0.full refl
no_empty_line (line ∷ lines) all = no_empty_line lines all.1

pub text_lines : (lines : List (List ℕ)) (text : List ℕ) → Every FullLine lines → Lines lines text → pieces newline text ≡ lines
text_lines lines text all (all_ended e) =
    ap (pieces newline) e ∙ lines_again lines (every_implied FullLine NoNewline (λ line (f : FullLine line). f.no_newline) lines all)
text_lines lines text all (last_open e) = go (newline_behind text)
  where
    whole : pieces newline (text ++ ascii "\n") ≡ lines
    whole = ap (pieces newline) e ∙ lines_again lines (every_implied FullLine NoNewline (λ line (f : FullLine line). f.no_newline) lines all)

    go : Behind text (pieces newline (text ++ ascii "\n")) (pieces newline text) → pieces newline text ≡ lines
    go (inl q) = sym q ∙ whole
    go (inr q) = absurd (no_empty_line (pieces newline text) (subst (Every FullLine) (sym whole ∙ q) all))

-- The other way round.
pub lines_of : (text : List ℕ) → Lines (pieces newline text) text
unfolding pieces ended flat_map ascii
lines_of [] = all_ended refl
lines_of (b ∷ bs) = go (newline b) refl (lines_of bs)
  where
    further : b ≡ 10 → Lines (pieces newline bs) bs → Lines ([] ∷ pieces newline bs) (b ∷ bs)
    further n (all_ended e) = all_ended (ap₂ (λ (c : ℕ) (l : List ℕ). c ∷ l) n e)
    further n (last_open e) = last_open (ap₂ (λ (c : ℕ) (l : List ℕ). c ∷ l) n e)

    onto : (ps : List (List ℕ)) → Lines ps bs → Lines (onto_first b ps) (b ∷ bs)
    onto [] (all_ended e) = unfold onto_first in last_open (ap (λ (l : List ℕ). b ∷ l ++ (10 ∷ [])) e)
    onto [] (last_open e) = absurd (append-ne-nil_of_right_ne-nil bs cons≢nil e)
    onto (p ∷ ps) (all_ended e) = unfold onto_first in all_ended (ap (λ (l : List ℕ). b ∷ l) e)
    onto (p ∷ ps) (last_open e) = unfold onto_first in last_open (ap (λ (l : List ℕ). b ∷ l) e)

    go : (t : Bool) → newline b ≡ t → Lines (pieces newline bs) bs → Lines (pieces newline (b ∷ bs)) (b ∷ bs)
    go true e behind = rw (pieces, e) (further (unfold newline in eqb→eq b 10 (passed e)) behind)
    go false e behind = rw (pieces, e) (onto (pieces newline bs) behind)

pub pieces_no_newline : (text : List ℕ) → Every NoNewline (pieces newline text)
unfolding pieces
pieces_no_newline [] = tt
pieces_no_newline (b ∷ bs) = go (newline b) refl (pieces_no_newline bs)
  where
    onto : newline b ≡ false → (ps : List (List ℕ)) → Every NoNewline ps → Every NoNewline (onto_first b ps)
    onto e [] all = unfold onto_first in ((e, tt), tt)
    onto e (p ∷ ps) all = unfold onto_first in ((e, all.0), all.1)

    go : (t : Bool) → newline b ≡ t → Every NoNewline (pieces newline bs) → Every NoNewline (pieces newline (b ∷ bs))
    go true e behind = rw (pieces, e) (tt, behind)
    go false e behind = rw (pieces, e) (onto e (pieces newline bs) behind)
