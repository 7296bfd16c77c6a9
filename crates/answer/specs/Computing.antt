-- A key for computed cases: what opens it may compute with every definition of this crate and of those below.
use Rattle.answer_lines.specs.Computing
use Rattle.answer.specs.Ranks.{ranks_checked, answered, ranks_from_answer}
use Rattle.answer.specs.PaddedRanks.{padded_ranks}

unfoldable pub computing : Unit {0}
unfolding Computing.computing ranks_checked answered ranks_from_answer padded_ranks
computing = tt
