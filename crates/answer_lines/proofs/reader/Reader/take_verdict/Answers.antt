-- `answer_lines::reader::Reader::take_verdict` meets its contract: a verdict was said before, or the line is one of the three texts, or
-- none of them.
use mathlib.Core.Bool.{false}
use mathlib.Core.Path.{◌≡◌, refl, sym, ◌∙◌}
use Rattle.text.specs.Text.{ascii}
use Rattle.answer_lines.specs.Lines.{verdict, no_line, verdict_line, line_after, verdict_after}
use Rattle.answer_lines.proofs.OneLine.{verdict_late, verdict_first}
use Rattle.answer_lines.proofs.LineKinds.{says_satisfiable, says_unsatisfiable, says_unknown, says_nothing}
use Rattle.answer_lines.proofs.reader.Reader.take_verdict.Goals as goal
use Rattle.answer_lines.proofs.reader.Reader.take_verdict.Goals.{then-same, else-same+then-same-3, then-same-2, else-same-2}

pub returns-in_default-clause-told : goal.returns-in_default-clause-told
returns-in_default-clause-told c = λ fault. verdict_late fault _ _ _ _ _ c.in_default.not-Silent _

pub returns-else-same-3-clause-told : goal.returns-else-same-3-clause-told
unfolding ascii line_after verdict_after
returns-else-same-3-clause-told c =
    λ fault. verdict_first fault _ _ _ _ _ c.in-Silent.is _ none _ _ (λ t. refl)
  where
    none : verdict_line c.args.line.now ≡ no_line
    none =
        elim c.if-same-2.branch [
          | then-same-2 w ↦ cc
          | else-same-2 w ↦
              says_nothing _ (sym c.if-same.ensures) (sym w.if-same-2.ensures) (sym w.same-else-same-2.ensures ∙ sym w.value-is ∙ c.if-same-3.false)
        ]

pub returns-clause-told : goal.returns-clause-told
unfolding ascii line_after verdict_after
returns-clause-told c =
    elim c.if-same.branch [
      | then-same w ↦
          rw w.self-is (λ fault. verdict_first fault _ _ _ _ _ c.in-Silent.is _ (says_satisfiable _ (sym w.if-same.ensures)) _ _ (λ t. (refl, t)))
      | else-same+then-same-3 w ↦
          let said : verdict_line c.args.line.now ≡ verdict false =
          elim w.if-same-2.branch [
            | then-same-2 w' ↦ says_unsatisfiable _ (sym w.if-same.ensures) (sym w'.if-same-2.ensures)
            | else-same-2 w' ↦
                says_unknown _ (sym w.if-same.ensures) (sym w'.if-same-2.ensures)
                (sym w'.same-else-same-2.ensures ∙ sym w'.value-is ∙ w.if-same-3.true)
          ]
          in
          rw w.self-is (λ fault. verdict_first fault _ _ _ _ _ c.in-Silent.is _ said _ _ (λ t. (refl, t)))
    ]
