-- Reading a book: a machine over its records, left to right, with the refusals 1 to 6.
use Rattle.std.specs.Prelude.{ℕ, zero, suc, ◌+◌, pred, true, false, List, [], ◌∷◌, ◌++◌, eqb, length, get_or, take, drop}
use Rattle.reply.specs.Reply.{Attempt, Reply, given, refused, told_as, ◌>>◌, ◌>>=◌}
use Rattle.reply.specs.Refusals.{numbered}
use Rattle.reply.specs.declared.Refusal.{Refusal as Named}
use Rattle.reply.specs.declared.Refusal.TheVariants.{BookEnded}
use Rattle.term.specs.Tables.{Kind, unknown, symbol, rule, symbol_node, variable_node, end, kind_of, body_length}
use Rattle.term.specs.Term.{Term}
use Rattle.term.specs.Prefix.{Node, symbolic, variable, arity_of, tree}
use Rattle.book.specs.Book.{Book, Rule}
use Rattle.book.specs.Checks.{checked, nothing_more}
use Rattle.book.specs.Sides.{no_side}
use Rattle.book.specs.declared.sides.Side.{Side}
use Rattle.book.specs.declared.sides.Stage.TheVariants.{BeforeRules, InLeft, InRight, RuleWhole}

-- Where the machine stands. A side that is open has `missing` subterms still to come. The left side is open from the start
-- of its rule on, the right side as soon as the left is whole, and none once the right is whole.
pub data Stage : Type 0 where
  before_rules : Stage
  in_left : (missing : ℕ) (nodes : List Node) → Stage
  in_right : (left : Term) (missing : ℕ) (nodes : List Node) → Stage
  rule_whole : Stage

-- What came before the record that is next. A rule is among the rules only once it is whole; until then its sides are the stage's.
pub record State : Type 0 where
  pub arities : List ℕ
  pub rules : List Rule
  pub stage : Stage

-- The side that is being read, in numbers.
unfoldable pub side_of : Stage → Side
side_of before_rules = no_side BeforeRules
side_of (in_left m ns) = record { stage = InLeft; missing = m; nodes = length ns }
side_of (in_right l m ns) = record { stage = InRight; missing = m; nodes = length ns }
side_of rule_whole = no_side RuleWhole

-- A side is whole when no subterm is missing: the left side gives way to the right, the right ends its rule.
unfoldable pub left_after : State → (missing : ℕ) → List Node → State
left_after s zero ns =
    record { arities = s.arities; rules = s.rules; stage = in_right (tree s.arities ns) 1 [] }
left_after s (suc m) ns = record { arities = s.arities; rules = s.rules; stage = in_left (suc m) ns }

unfoldable pub right_after : State → (left : Term) (missing : ℕ) → List Node → State
right_after s l zero ns =
    record {
      arities = s.arities;
      rules = s.rules ++ (record { left = l; right = tree s.arities ns } ∷ []);
      stage = rule_whole;
    }
right_after s l (suc m) ns = record { arities = s.arities; rules = s.rules; stage = in_right l (suc m) ns }

-- A node fills one place of its side and opens as many as its arity.
unfoldable pub node_at : Stage → State → Node → State
node_at before_rules s node = s
node_at (in_left m ns) s node = left_after s (pred m + arity_of s.arities node) (ns ++ (node ∷ []))
node_at (in_right l m ns) s node = right_after s l (pred m + arity_of s.arities node) (ns ++ (node ∷ []))
node_at rule_whole s node = s

-- A record of this kind and with this body is taken.
unfoldable pub next : Kind → State → (body : List ℕ) → State
next unknown s body = s
next symbol s body = record { arities = s.arities ++ (get_or body 0 0 ∷ []); rules = s.rules; stage = s.stage }
next rule s body = record { arities = s.arities; rules = s.rules; stage = in_left 1 [] }
next symbol_node s body = node_at s.stage s (symbolic (get_or body 0 0))
next variable_node s body = node_at s.stage s (variable (get_or body 0 0))
next end s body = s

-- `len` is the book's length, `p` the place of the kind byte k, `body` what stands behind it.
unfoldable pub record_at : (len : ℕ) → State → (p k : ℕ) (body : List ℕ) → Attempt Named State
record_at len s p k body = do
  checked len p k body (side_of s.stage) (length s.arities) (length s.rules)
  given (next (kind_of k) s body)

-- The end record stands right before p.
unfoldable pub ended : (len : ℕ) → State → (p : ℕ) → Attempt Named Book
ended len s p = do
  nothing_more len p
  given (record { arities = s.arities; rules = s.rules })

-- "Book records are read left to right", from the bytes that stand at p on. Each record has a byte at least, so the book's
-- length is fuel enough.
unfoldable pub read_from : (fuel len : ℕ) → State → (p : ℕ) → List ℕ → Attempt Named Book
read_from zero len s p bytes = refused (BookEnded len)
read_from (suc fuel) len s p [] = refused (BookEnded len)
read_from (suc fuel) len s p (k ∷ bytes) = do
  s' ← record_at len s p k (take (body_length k) bytes)
  elim (eqb k 5) [
    | true ↦ ended len s' (p + 1 + body_length k)
    | false ↦ read_from fuel len s' (p + 1 + body_length k) (drop (body_length k) bytes)
  ]

unfoldable pub start : State
start = record { arities = []; rules = []; stage = before_rules }

-- ENTRY POINT: read a book.
unfoldable pub read_book : List ℕ → Reply Book
read_book bytes = told_as numbered (read_from (length bytes) (length bytes) start 0 bytes)
