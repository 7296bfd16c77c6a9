-- What the copier lays down.
use Rattle.std.specs.Prelude.{ℕ, ◌-◌, List, take, drop}

-- The bytes from start to end, as far as there are such, as many as there is room for.
unfoldable pub copied : (bytes : List ℕ) (start end room : ℕ) → List ℕ
copied bytes start end room = take room (take (end - start) (drop start bytes))
