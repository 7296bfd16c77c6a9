-- The tests of one record of a book, and of what stands behind its end. The reading to trees and the reading to places ask the same.
use Rattle.std.specs.Prelude.{ℕ, ◌+◌, Bool, true, false, not, List, [], ◌∷◌, leb, ltb, length, get_or, take, drop, Result, Ok, Err}
use Rattle.reply.specs.Reply.{Attempt, given, refused, unless, ◌>>◌}
use Rattle.reply.specs.declared.Refusal.{Refusal as Named}
use Rattle.reply.specs.declared.Refusal.TheVariants.{BookEnded, UnknownKind, NotAllowed, BadBody, TooMany, AfterEnd}
use Rattle.term.specs.Tables.{Kind, unknown, symbol, rule, symbol_node, variable_node, end, kind_of, body_length}
use Rattle.book.specs.Sides.{side_open, no_rule_yet}
use Rattle.book.specs.declared.sides.Side.{Side}
use Rattle.book.specs.declared.sides.Stage.{Stage}

-- Refusal 2, "unknown kind".
unfoldable pub known : Kind → Bool
known unknown = false
known symbol = true
known rule = true
known symbol_node = true
known variable_node = true
known end = true

-- Refusal 3, "record not allowed here: symbol after a rule, node outside a side still open, rule or end while a side is open".
unfoldable pub allowed : Kind → Stage → Bool
allowed unknown stage = false
allowed symbol stage = no_rule_yet stage
allowed rule stage = not (side_open stage)
allowed symbol_node stage = side_open stage
allowed variable_node stage = side_open stage
allowed end stage = not (side_open stage)

-- Refusal 4, "arity above 6, variable above 15, symbol not declared", of a byte of the body.
unfoldable pub body_fits : Kind → (symbols byte : ℕ) → Bool
body_fits unknown symbols b = true
body_fits symbol symbols b = leb b 6
body_fits rule symbols b = true
body_fits symbol_node symbols b = ltb b symbols
body_fits variable_node symbols b = leb b 15
body_fits end symbols b = true

-- "the body byte": the first that does not fit, of a body whose first byte is at p.
unfoldable pub body_checked : Kind → (symbols p : ℕ) → (body : List ℕ) → Attempt Named (Unit {0})
body_checked kind symbols p [] = given tt
body_checked kind symbols p (b ∷ body) = do
  unless (body_fits kind symbols b) (BadBody p)
  body_checked kind symbols (p + 1) body

-- Refusal 5, "17th symbol, 33rd rule, 11th node of a side".
unfoldable pub room_left : Kind → (symbols rules nodes : ℕ) → Bool
room_left unknown symbols rules nodes = true
room_left symbol symbols rules nodes = ltb symbols 16
room_left rule symbols rules nodes = ltb rules 32
room_left symbol_node symbols rules nodes = ltb nodes 10
room_left variable_node symbols rules nodes = ltb nodes 10
room_left end symbols rules nodes = true

-- "in one record the order is 2, 1, 3, 4, 5." The book has len bytes, so many symbols and rules came and this side is being read; the
-- kind byte k stands at p, and behind it the body, as far as the bytes go.
unfoldable pub checked : (len p k : ℕ) (body : List ℕ) → Side → (symbols rules : ℕ) → Attempt Named (Unit {0})
checked len p k body side symbols rules = do
  unless (known (kind_of k)) (UnknownKind p)
  unless (leb (body_length k) (length body)) (BookEnded len)
  unless (allowed (kind_of k) side.stage) (NotAllowed p)
  body_checked (kind_of k) symbols (p + 1) body
  unless (room_left (kind_of k) symbols rules side.nodes) (TooMany p)

-- The body of the record at p, as far as the bytes go.
unfoldable pub body_at : (bytes : List ℕ) (p : ℕ) → List ℕ
body_at bytes p = take (body_length (get_or bytes p 0)) (drop (p + 1) bytes)

-- The same tests of the record that stands at p.
abbrev pub checked_at : (bytes : List ℕ) (p : ℕ) → Side → (symbols rules : ℕ) → Attempt Named (Unit {0})
checked_at bytes p = checked (length bytes) p (get_or bytes p 0) (body_at bytes p)

-- "Then kind 5 and nothing more": 6 at the first byte after the end, which is at p.
unfoldable pub nothing_more : (len p : ℕ) → Attempt Named (Unit {0})
nothing_more len p = unless (leb len p) (AfterEnd p)

-- What testing a record found: nothing to refuse, whatever is given with that, or its first refusal.
unfoldable pub tested : {A : Type 0} → Result A Named → Attempt Named (Unit {0})
tested (Ok a) = given tt
tested (Err r) = refused r
