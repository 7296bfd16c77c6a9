-- What a writer promises of the buffer that is lent to it: its text stands at the buffer's start as far as it fits, and the later bytes
-- keep their values.
use Rattle.std.specs.Prelude.{ℕ, min, List, ◌++◌, ◌≡◌, length, take, drop}

-- So many bytes of the text were laid onto the buffer's start.
pub record Lays (text before : List ℕ) (many : ℕ) (after : List ℕ) : Type 0 where
  pub count : many ≡ min (length text) (length before)
  pub bytes : after ≡ take many text ++ drop many before
