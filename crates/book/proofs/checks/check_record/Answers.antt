-- A body that the bytes cut off.
use Rattle.std.proofs.Common.{arith, ap, ◌∙◌}
use Rattle.term.specs.Kinds.{kind_read}
use Rattle.term.specs.Tables.{kind_of, body_length}
use Rattle.book.specs.Checks.{tested}
use Rattle.book.proofs.Tests.{body_cut}
use Rattle.book.proofs.checks.check_record.Goals as goal

pub returns-then-bytes-at-clause-checked : goal.returns-then-bytes-at-clause-checked
unfolding tested kind_read
returns-then-bytes-at-clause-checked c =
    body_cut _ _ _ _ _ c.in-Ok.kind (c.in-Ok.ensures ∙ ap kind_of c.requires.kind_value) c.requires.at_in_bounds
    (omega (arith, c.body_length.ensures, ap body_length c.requires.kind_value))
