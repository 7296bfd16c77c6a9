-- What a lent buffer holds after a reply.
use Rattle.std.specs.Prelude.{ℕ, List, ◌++◌, length, drop}
use Rattle.reply.specs.Reply.{Reply, given, refused}

-- Cells at the start of a buffer; its later cells keep their values. A buffer's cells are bytes, or rows of a kind of their own.
abbrev pub overlaid : {Cell : Type 0} → (cells buffer : List Cell) → List Cell
overlaid cells buffer = cells ++ drop (length cells) buffer

-- "written at the start of the lent buffer .. and keeps the later bytes"; "A refusal leaves lent buffers untouched".
unfoldable pub laid : {Cell : Type 0} → Reply (List Cell) → List Cell → List Cell
laid (given cells) buffer = overlaid cells buffer
laid (refused r) buffer = buffer

-- "replies with its length": of a reply with cells, their number.
unfoldable pub length_of : {Cell : Type 0} → Reply (List Cell) → Reply ℕ
length_of (given cells) = given (length cells)
length_of (refused r) = refused r
