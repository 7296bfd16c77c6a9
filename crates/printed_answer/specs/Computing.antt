-- A key for computed cases: what opens it may compute with every definition of this crate and of those below.
use Rattle.answer.specs.Computing
use Rattle.printed_answer.specs.WellFormed.{
  remark_text,
  literal_text,
  spaces,
  item_text,
  spaced_text,
  line_text,
  closing_text,
  remark_texts,
  answer_lines,
  ended,
  line_literals,
  all_literals,
  times_named,
}
use Rattle.printed_answer.specs.Usual.{true_literal, usual_answer}

-- Of an answer's bytes.
unfoldable pub writing : Unit {0}
unfolding remark_text literal_text spaces item_text spaced_text line_text closing_text remark_texts answer_lines ended
writing = tt

unfoldable pub computing : Unit {0}
unfolding Computing.computing writing line_literals all_literals times_named true_literal usual_answer
computing = tt
