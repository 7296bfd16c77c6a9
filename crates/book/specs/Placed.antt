-- Reading a book to places: the machine of Reading.antt over where each side stands and how many nodes it has, instead of trees. It
-- settles every field of the book that is answered, and the refusal.
use Rattle.std.specs.Prelude.{ℕ, zero, suc, ◌+◌, true, false, List, ltb, eqb, length, get_or, Result}
use Rattle.reply.specs.Reply.{Attempt, given, refused, ◌>>◌}
use Rattle.reply.specs.Replied.{result_of}
use Rattle.reply.specs.declared.Refusal.{Refusal as Named}
use Rattle.reply.specs.declared.Refusal.TheVariants.{BookEnded}
use Rattle.term.specs.Tables.{Kind, unknown, symbol, rule, symbol_node, variable_node, end, kind_of, body_length}
use Rattle.term.specs.Prefix.{Node, symbolic, variable, arity_of}
use Rattle.book.specs.Checks.{body_at, checked_at, nothing_more}
use Rattle.book.specs.Entries.{nothing_read, with_symbol, with_left, with_right, with_rule}
use Rattle.book.specs.Sides.{left_open, no_side, opened, with_node}
use Rattle.book.specs.declared.Book.{Book as PlacedBook}
use Rattle.book.specs.declared.sides.Side.{Side}
use Rattle.book.specs.declared.sides.Stage.{Stage}
use Rattle.book.specs.declared.sides.Stage.TheVariants.{BeforeRules, InLeft, InRight, RuleWhole}

-- What was read so far, and the side that is being read.
pub record Reader : Type 0 where
  pub book : PlacedBook
  pub side : Side

abbrev pub so_far : PlacedBook → Side → Reader
so_far b side = record { book = b; side = side }

-- A left side that is whole gives way to the right, which starts at e, and a right side that is whole ends its rule.
unfoldable pub side_whole : PlacedBook → (e : ℕ) → Stage → (nodes : ℕ) → Reader
side_whole b e stage nodes =
    elim (left_open stage) [
      | true ↦ record { book = with_right b nodes e; side = opened InRight }
      | false ↦ record { book = with_rule b nodes; side = no_side RuleWhole }
    ]

-- A side is whole when no subterm is missing.
unfoldable pub side_after : PlacedBook → (e : ℕ) → Stage → (missing nodes : ℕ) → Reader
side_after b e stage zero nodes = side_whole b e stage nodes
side_after b e stage (suc missing) nodes = record { book = b; side = record { stage = stage; missing = suc missing; nodes = nodes } }

-- A node that opens so many subterms is taken, and the next record is at e.
unfoldable pub behind_node : Reader → (e opens : ℕ) → Reader
behind_node q e opens = let side = with_node q.side opens in side_after q.book e side.stage side.missing side.nodes

unfoldable pub node_taken : Reader → (e : ℕ) → Node → Reader
node_taken q e node = behind_node q e (arity_of q.book.arities node)

-- A record of this kind and with this body is taken; the next one is at e.
unfoldable pub next : Kind → Reader → (e : ℕ) (body : List ℕ) → Reader
next unknown q e body = q
next symbol q e body = record { book = with_symbol q.book (get_or body 0 0); side = q.side }
next rule q e body = record { book = with_left q.book e; side = opened InLeft }
next symbol_node q e body = node_taken q e (symbolic (get_or body 0 0))
next variable_node q e body = node_taken q e (variable (get_or body 0 0))
next end q e body = q

-- The end record stands right before p.
unfoldable pub ended : (len : ℕ) → PlacedBook → (p : ℕ) → Attempt Named PlacedBook
ended len b p = do
  nothing_more len p
  given b

-- "Book records are read left to right", from the one at p on. Each record has a byte at least, so the book's length is fuel enough.
unfoldable pub placed_from : (fuel : ℕ) (bytes : List ℕ) → Reader → (p : ℕ) → Attempt Named PlacedBook
placed_from zero bytes q p = refused (BookEnded (length bytes))
placed_from (suc fuel) bytes q p =
    let k = get_or bytes p 0 in
    let e = p + 1 + body_length k in
    elim (ltb p (length bytes)) [
      | true ↦ do
        checked_at bytes p q.side q.book.symbols q.book.rules
        elim (eqb k 5) [
          | true ↦ ended (length bytes) q.book e
          | false ↦ placed_from fuel bytes (next (kind_of k) q e (body_at bytes p)) e
        ]
      | false ↦ refused (BookEnded (length bytes))
    ]

unfoldable pub start : Reader
start = record { book = nothing_read; side = no_side BeforeRules }

-- The answer for a book, from its bytes: the places that were read, or the refusal.
unfoldable pub placed : List ℕ → Result PlacedBook Named
placed bytes = result_of (placed_from (length bytes) bytes start 0)
