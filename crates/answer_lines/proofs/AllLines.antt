-- The lines of an answer, one by one: what is left of them, behind what the lines so far have said, is read as the whole answer is.
-- Assumes nothing.
use Prim.Native.Nat.{ℕ, ◌+◌, ◌-◌, ◌≤◌, ◌<◌}
use mathlib.Core.List.{List, ◌∷◌}
use mathlib.Core.Path.{◌≡◌, refl, sym, ap, ◌∙◌}
use native.Mathlib.Omega.{arith}
use lib.Dec.{eqb}
use lib.ListN.{length, take, drop, replicate, length-drop, drop_of_length-le}
use lib.Seq.{length-take-le}
use Rattle.std.specs.Prelude.{Bool, Option, None, Result, Ok, Err}
use Rattle.std.specs.Result.{result_or}
use Rattle.reply.specs.Reply.{Refusal, Reply, given, refused, ◌>>=◌, ◌at◌}
use Rattle.reply.specs.Refusals.{numbered}
use Rattle.reply.specs.declared.Refusal.{Refusal as Named}
use Rattle.reply.specs.declared.Refusal.TheVariants as Refusals
use Rattle.text.specs.Text.{pieces, newline, up_to}
use Rattle.clauses.specs.Cnf.{Literal}
use Rattle.answer_lines.specs.Values.{unclosed, closed}
use Rattle.answer_lines.specs.Lines.{Said, nothing, satisfied, no_model, line_of, line_after, lines_after, whole, read_answer}
use Rattle.answer_lines.specs.Marks.{table_of}
use Rattle.answer_lines.specs.Progress.{HoldsSaid, Tells}
use Rattle.answer_lines.specs.declared.reader.Stage.{Stage}
use Rattle.answer_lines.specs.declared.reader.Stage.TheVariants.{Silent, Closed, NoModel}
use Rattle.answer_lines.specs.declared.reader.BadLine.{BadLine}
use Rattle.words.proofs.Pieces.{next_within, piece_at}
use Rattle.answer_lines.proofs.Marks.{no_marks}

-- Where all lines were read, the stage tells what is left to say.
module _ (len : ℕ) (stage : Stage) (table : List (Option Bool)) where
  whole_closed :
      (said : Said) → HoldsSaid said stage table → stage ≡ Closed → (ls : List Literal) × (whole len said ≡ given ls) × (table ≡ table_of ls)
  unfolding whole
  whole_closed nothing h e = cc
  whole_closed (satisfied (unclosed ls)) h e = cc
  whole_closed (satisfied (closed ls)) h e = (ls, refl, h.1)
  whole_closed no_model h e = cc

  whole_no_model : (said : Said) → HoldsSaid said stage table → stage ≡ NoModel → whole len said ≡ refused (numbered Refusals.NoModel)
  unfolding whole numbered
  whole_no_model nothing h e = cc
  whole_no_model (satisfied (unclosed ls)) h e = cc
  whole_no_model (satisfied (closed ls)) h e = cc
  whole_no_model no_model h e = refl

  whole_missing :
      (said : Said) → HoldsSaid said stage table → (stage ≡ Closed → ⊥) → (stage ≡ NoModel → ⊥) →
      whole len said ≡ refused (numbered (Refusals.BadAnswer len))
  unfolding whole numbered
  whole_missing nothing h c n = refl
  whole_missing (satisfied (unclosed ls)) h c n = refl
  whole_missing (satisfied (closed ls)) h c n = absurd (c h.0)
  whole_missing no_model h c n = absurd (n h.0)

module _ (text : List ℕ) (variables rank_variables : ℕ) where
  -- From place p on, the stage and the table hold what was said before.
  pub record From (stage : Stage) (table : List (Option Bool)) (p : ℕ) : Type 0 where
    pub said : Said
    pub holds : HoldsSaid said stage table
    pub rest :
        lines_after variables rank_variables p said (pieces newline (drop p text))
        ≡ lines_after variables rank_variables 0 nothing (pieces newline text)

  pub at_first : From Silent (replicate 64 None) 0
  at_first = record { said = nothing; holds = (refl, no_marks); rest = refl }

  lines_on : (p : ℕ) (said : Said) (line : List ℕ) (lines : List (List ℕ)) (q : ℕ) → p + length line + 1 ≡ q →
      lines_after variables rank_variables p said (line ∷ lines)
      ≡ ◌>>=◌ (line_after (13 at p) variables rank_variables said (line_of line)) (λ said'. lines_after variables rank_variables q said' lines)
  unfolding lines_after
  lines_on p said line lines q e = rw e refl

  module _ {stage : Stage} {table : List (Option Bool)} {p : ℕ} (f : From stage table p) where
    module _ (end : ℕ) (here : p < length text) (next : end ≡ p + up_to (λ b. eqb b 10) (drop p text)) where
      long : p + length (take (end - p) (drop p text)) + 1 ≡ end + 1
      long = omega (arith, length-take-le (end - p) (drop p text) (omega (arith, length-drop p text, within)))
        where
          within : end ≤ length text
          within = next_within (λ b. eqb b 10) text p end here next

      one_line :
          ◌>>=◌ (line_after (13 at p) variables rank_variables f.said (line_of (take (end - p) (drop p text))))
          (λ said'. lines_after variables rank_variables (end + 1) said' (pieces newline (drop (end + 1) text)))
          ≡ lines_after variables rank_variables 0 nothing (pieces newline text)
      unfolding newline
      one_line =
          sym (lines_on p f.said (take (end - p) (drop p text)) (pieces newline (drop (end + 1) text)) (end + 1) long)
          ∙ ap (lines_after variables rank_variables p f.said) (sym (piece_at newline text p end here next))
          ∙ f.rest

      -- The line was taken, or it is the first faulty one.
      module _ (stage' : Stage) (table' : List (Option Bool)) where
        pub line_on :
            (u : Unit {0}) →
            Tells HoldsSaid (13 at p) (line_after (13 at p) variables rank_variables f.said (line_of (take (end - p) (drop p text)))) (Ok u) stage' table' →
            From stage' table' (end + 1)
        unfolding ◌>>=◌
        line_on u t = go (line_after (13 at p) variables rank_variables f.said (line_of (take (end - p) (drop p text)))) t one_line
          where
            go :
                (x : Reply Said) → Tells HoldsSaid (13 at p) x (Ok u) stage' table' →
                ◌>>=◌ x (λ said'. lines_after variables rank_variables (end + 1) said' (pieces newline (drop (end + 1) text)))
                ≡ lines_after variables rank_variables 0 nothing (pieces newline text) →
                From stage' table' (end + 1)
            go (given said) t e = record { said = said; holds = t; rest = e }
            go (refused r) t e = absurd t

        pub line_bad :
            (bad : BadLine) →
            Tells HoldsSaid (13 at p) (line_after (13 at p) variables rank_variables f.said (line_of (take (end - p) (drop p text)))) (Err bad) stage' table' →
            read_answer variables rank_variables text ≡ refused (numbered (Refusals.BadAnswer p))
        unfolding ◌>>=◌ read_answer numbered
        line_bad bad t = go (line_after (13 at p) variables rank_variables f.said (line_of (take (end - p) (drop p text)))) t one_line
          where
            go :
                (x : Reply Said) → Tells HoldsSaid (13 at p) x (Err bad) stage' table' →
                ◌>>=◌ x (λ said'. lines_after variables rank_variables (end + 1) said' (pieces newline (drop (end + 1) text)))
                ≡ lines_after variables rank_variables 0 nothing (pieces newline text) →
                read_answer variables rank_variables text ≡ refused (numbered (Refusals.BadAnswer p))
            go (given said) t e = absurd t
            go (refused r) t e = ap (λ (x : Reply Said). ◌>>=◌ x (whole (length text))) (sym e) ∙ ap (λ (r : Refusal). refused r) t

        -- The same, by what the code does with the line's answer.
        module _ (r : Result (Unit {0}) BadLine)
            (t : Tells HoldsSaid (13 at p) (line_after (13 at p) variables rank_variables f.said (line_of (take (end - p) (drop p text)))) r stage' table') where
          pub line_taken : (u : Unit {0}) → Ok u ≡ result_or r (Err (Refusals.BadAnswer p)) → From stage' table' (end + 1)
          line_taken u e = go r e t
            where
              go :
                  (r : Result (Unit {0}) BadLine) → Ok u ≡ result_or r (Err (Refusals.BadAnswer p)) →
                  Tells HoldsSaid (13 at p) (line_after (13 at p) variables rank_variables f.said (line_of (take (end - p) (drop p text)))) r stage' table' →
                  From stage' table' (end + 1)
              go (Ok v) e t = line_on v t
              go (Err bad) e t = cc

          pub line_refused :
              (why : Named) → Err why ≡ result_or r (Err (Refusals.BadAnswer p)) →
              read_answer variables rank_variables text ≡ refused (numbered why)
          line_refused why e = go r e t
            where
              go :
                  (r : Result (Unit {0}) BadLine) → Err why ≡ result_or r (Err (Refusals.BadAnswer p)) →
                  Tells HoldsSaid (13 at p) (line_after (13 at p) variables rank_variables f.said (line_of (take (end - p) (drop p text)))) r stage' table' →
                  read_answer variables rank_variables text ≡ refused (numbered why)
              go (Ok v) e t = cc
              go (Err bad) e t = let same : Refusals.BadAnswer p ≡ why = cc in line_bad bad t ∙ ap (λ (x : Named). refused (numbered x)) same

    -- No line is left.
    all_read : length text ≤ p → read_answer variables rank_variables text ≡ whole (length text) f.said
    unfolding read_answer lines_after pieces ◌>>=◌
    all_read over = ap (λ (x : Reply Said). ◌>>=◌ x (whole (length text))) (sym f.rest ∙ ap (λ (l : List ℕ). lines_after variables rank_variables p f.said (pieces newline l)) (drop_of_length-le text over))

    pub read_closed :
        length text ≤ p → stage ≡ Closed →
        (ls : List Literal) × (read_answer variables rank_variables text ≡ given ls) × (table ≡ table_of ls)
    read_closed over e = let (ls, so, marks) = whole_closed (length text) stage table f.said f.holds e in (ls, all_read over ∙ so, marks)

    pub read_no_model : length text ≤ p → stage ≡ NoModel → read_answer variables rank_variables text ≡ refused (numbered Refusals.NoModel)
    read_no_model over e = all_read over ∙ whole_no_model (length text) stage table f.said f.holds e

    pub read_missing :
        length text ≤ p → (stage ≡ Closed → ⊥) → (stage ≡ NoModel → ⊥) →
        read_answer variables rank_variables text ≡ refused (numbered (Refusals.BadAnswer (length text)))
    read_missing over c n = all_read over ∙ whole_missing (length text) stage table f.said f.holds c n
