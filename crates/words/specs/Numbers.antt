-- What a number that the code has read is on paper.
use Rattle.std.specs.Prelude.{ℕ, zero, suc, Option as Maybe, Some, None}
use Rattle.std.proofs.Math.Option.{Option, none, some}

abbrev pub told : Maybe ℕ → Option ℕ
told (Some v) = some v
told None = none

-- A number from 1 on, or none for 0.
unfoldable pub from_one : ℕ → Maybe ℕ
from_one zero = None
from_one (suc v) = Some (suc v)
