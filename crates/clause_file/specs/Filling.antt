-- Blocks laid one behind another into one buffer.
use Rattle.std.specs.Prelude.{ℕ, ◌+◌, ◌-◌, Bool, true, false, ◌≡◌, leb, length}
use mathlib.Core.List.{List, [], ◌∷◌, flatten}
use Rattle.reply.specs.Reply.{given}
use Rattle.reply.specs.Lent.{laid}
use Rattle.clause_file.specs.declared.Filled.{Filled}

-- These texts, where there is room.
unfoldable pub if_room : Bool → List (List ℕ) → List (List ℕ)
if_room true texts = texts
if_room false texts = []

-- As many texts as find 512 bytes of room left, what a block may need.
unfoldable pub fitting : (room : ℕ) → List (List ℕ) → List (List ℕ)
fitting room [] = []
fitting room (text ∷ texts) = if_room (leb 512 room) (text ∷ fitting (room - length text) texts)

-- These texts were laid, the first of them block `first`.
pub record FilledWith (texts : List (List ℕ)) (first : ℕ) (r : Filled) (before after : List ℕ) : Type 0 where
  pub count : r.«length» ≡ length (flatten texts)
  pub number : r.next ≡ first + length texts
  pub bytes : after ≡ laid (given (flatten texts)) before
