-- What the answers of the argument question mean.
use Rattle.std.specs.Prelude.{ℕ, List, take, drop, Result}
use Rattle.reply.specs.Reply.{Reply, given, refused}
use Rattle.reply.specs.Replied.{replied_as}
use Rattle.reply.specs.declared.Refusal.{Refusal as Named}
use Rattle.steps.specs.Argument.{Part}
use Rattle.asking.specs.declared.Found.{Found}

-- The part of the record that was found.
unfoldable pub part_of : Found → Part
part_of found = record { start = found.start; length = found.length }

-- The argument's part, or the refusal's number and place.
unfoldable pub argument_meaning : Result Found Named → Reply Part
argument_meaning = replied_as part_of

-- "It returns an empty part for every refusal": which part of the record's bytes is handed out.
unfoldable pub handed_out : Reply Part → Part
handed_out (given part) = part
handed_out (refused refusal) = record { start = 0; length = 0 }

-- The bytes of a part.
unfoldable pub part_bytes : Part → List ℕ → List ℕ
part_bytes part bytes = take part.length (drop part.start bytes)
