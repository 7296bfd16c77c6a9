-- Both ways, with the signs of the whole.
use Rattle.clause_bytes.specs.Meaning.{meant}
use Rattle.clause_bytes.proofs.BothWays.{some_parts_both}
use Rattle.clause_bytes.proofs.parts.write_some_parts.Goals as goal

pub returns : goal.returns
unfolding meant
returns c = rw (some_parts_both, ← c.as_slice.ensures) c.write_both_ways.ensures
