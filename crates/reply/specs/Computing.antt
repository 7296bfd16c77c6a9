-- A key for computed cases: what opens it may compute with every definition of this crate.
use Rattle.reply.specs.Reply.{◌>>=◌, ◌>>◌, unless, told_as}
use Rattle.reply.specs.Refusals.{numbered, rows, named}
use Rattle.reply.specs.Lent.{laid, length_of}
use Rattle.reply.specs.Replied.{attempted, result_of, replied, replied_as}

unfoldable pub computing : Unit {0}
unfolding ◌>>=◌ ◌>>◌ unless told_as numbered rows named laid length_of attempted result_of replied replied_as
computing = tt
