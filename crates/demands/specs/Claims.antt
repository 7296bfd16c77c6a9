-- What a case of "Examples at the edges" can say, and when it holds. What is expected stands in the case as data.
use Rattle.std.specs.Prelude.{ℕ, zero, suc, Bool, true, false, ◌&&◌, eqb}
use mathlib.Core.List.{List, [], ◌∷◌, map, flat_map}
use Rattle.reply.specs.Reply.{Refusal, Reply, given, refused, ◌at◌}
use Rattle.text.specs.Text.{same_text}
use Rattle.record.specs.Record.{record_bytes}
use Rattle.order.specs.Clearing.{check_ranks}
use Rattle.clauses.specs.Numbering.{numbers}
use Rattle.clauses.specs.File.{block, clause_program}
use Rattle.steps.specs.Run.{Outcome, done, spent, too_large, Ran, run}
use Rattle.demands.specs.EntryPoints.{Bytes}

-- A table of ranks, and what the rank check is to reply to it.
pub record Row : Type 0 where
  pub ranks : Bytes
  pub expected : Reply (Unit {0})

infix 25 ◌gives◌
abbrev pub ◌gives◌ : Bytes → Reply (Unit {0}) → Row
ranks gives expected = record { ranks = ranks; expected = expected }

-- "clears", and "8 at" the lowest rule that does not decrease.
abbrev pub clearance : Reply (Unit {0})
clearance = given tt

abbrev pub failure_at : (rule : ℕ) → Reply (Unit {0})
failure_at rule = refused (8 at rule)

-- A case: a book, what is asked of it, and what is expected, all as data.
pub data Case : Type 0 where
  -- the rank check, for some tables of ranks
  for_ranks : (book : Bytes) → List Row → Case
  -- the rank check, for every table of ranks 0 to n−1
  for_all_ranks : (book : Bytes) (n : ℕ) → List Row → Case
  -- a book that is refused, by whatever entry point
  unreadable : (book : Bytes) → Refusal → Case
  -- the clause file's header
  headed : (book header : Bytes) → Case
  -- all that the clause program prints
  prints : (book text : Bytes) → Case
  -- a run of a record: its outcome, its steps, and the record of the term reached
  runs : (book ranks record' : Bytes) (budget : ℕ) → Outcome → (steps : ℕ) (reached : Bytes) → Case

-- All tables of so many ranks below a bound: "there "any", "no" and "exactly if" range over ranks 0 to n−1".
unfoldable pub tables : (count bound : ℕ) → List Bytes
tables zero bound = [] ∷ []
tables (suc count) bound = flat_map (λ rank. map (λ (ranks : Bytes). rank ∷ ranks) (tables count bound)) (numbers 0 bound)

unfoldable pub every : {A : Type 0} → (A → Bool) → List A → Bool
every test [] = true
every test (a ∷ as') = test a && every test as'

unfoldable pub same_reply : (expected : Reply (Unit {0})) → Reply (Unit {0}) → Bool
same_reply (given accepted) (given accepted') = true
same_reply (given accepted) (refused r) = false
same_reply (refused r) (given accepted) = false
same_reply (refused r) (refused q) = eqb r.number q.number && eqb r.place q.place

-- The rows have these tables, in this order.
unfoldable pub are_tables : List Row → List Bytes → Bool
are_tables [] [] = true
are_tables [] (table ∷ tables') = false
are_tables (row ∷ rows) [] = false
are_tables (row ∷ rows) (table ∷ tables') = same_text row.ranks table && are_tables rows tables'

unfoldable pub same_outcome : Outcome → Outcome → Bool
same_outcome done done = true
same_outcome done spent = false
same_outcome done too_large = false
same_outcome spent done = false
same_outcome spent spent = true
same_outcome spent too_large = false
same_outcome too_large done = false
same_outcome too_large spent = false
same_outcome too_large too_large = true

-- The run was answered so.
unfoldable pub ran_as : Outcome → (steps : ℕ) (reached : Bytes) → Reply Ran → Bool
ran_as outcome steps reached (given ran) =
    same_outcome ran.outcome outcome && eqb ran.steps steps && same_text (record_bytes ran.reached) reached
ran_as outcome steps reached (refused r) = false

-- The reply is these bytes.
unfoldable pub is_text : (text : Bytes) → Reply Bytes → Bool
is_text text (given bytes) = same_text bytes text
is_text text (refused r) = false

-- The rank check replies to each table as it is expected.
unfoldable pub replies : (book : Bytes) → List Row → Bool
replies book rows = every (λ (row : Row). same_reply row.expected (check_ranks book row.ranks)) rows

-- Whether a case holds of the definitions.
unfoldable pub holds : Case → Bool
holds (for_ranks book rows) = replies book rows
holds (for_all_ranks book n rows) = are_tables rows (tables n n) && replies book rows
holds (unreadable book r) = same_reply (refused r) (check_ranks book [])
holds (headed book header) = is_text header (block book 0 512)
holds (prints book text) = same_text (clause_program book) text
holds (runs book ranks record' budget outcome steps reached) = ran_as outcome steps reached (run book ranks record' budget 513)
