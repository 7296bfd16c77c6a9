-- `answer_lines::reader::Reader::take_line` meets its contract, by the line's first byte.
use Rattle.std.proofs.Common.{◌≡◌, ◌<◌, length, get_or, arith}
use Rattle.answer_lines.specs.Lines.{line_after}
use Rattle.answer_lines.proofs.LineKinds.{line_comment, line_values, line_verdict}
use Rattle.answer_lines.proofs.reader.Reader.take_line.Goals as goal
use Rattle.answer_lines.proofs.reader.Reader.take_line.Goals.{in_default-via-then-line-lt1, in_default-via-else-line-lt1+in_default-1}

pub returns-in-99-clause-told : goal.returns-in-99-clause-told
unfolding line_after
returns-in-99-clause-told c = λ fault said held. rw (line_comment c.args.line.now (omega arith) (omega arith)) held

pub returns-in-118-clause-told : goal.returns-in-118-clause-told
returns-in-118-clause-told c =
    λ fault said held. rw (line_values c.args.line.now (omega arith) (omega arith)) (c.take_values.ensures.told fault said held)

pub returns-in_default-clause-told : goal.returns-in_default-clause-told
returns-in_default-clause-told c =
    λ fault said held. rw (line_verdict c.args.line.now no_comment no_values) (c.take_verdict.ensures.told fault said held)
  where
    no_comment : 0 < length c.args.line.now → get_or c.args.line.now 0 0 ≡ 99 → ⊥
    no_comment some e = elim c.in_default.branch [ in_default-via-then-line-lt1 w ↦ grind arith | in_default-via-else-line-lt1+in_default-1 w ↦ grind arith ]

    no_values : 0 < length c.args.line.now → get_or c.args.line.now 0 0 ≡ 118 → ⊥
    no_values some e = elim c.in_default.branch [ in_default-via-then-line-lt1 w ↦ grind arith | in_default-via-else-line-lt1+in_default-1 w ↦ grind arith ]
