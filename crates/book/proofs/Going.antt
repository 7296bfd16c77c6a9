-- What holds before each record while a book is read to places: the reading goes on, and the counts keep to the limits. It holds again
-- behind a record that was taken, whatever its kind. Assumes nothing.
use Prim.Native.Nat.{ℕ, zero, suc, ◌+◌, ◌*◌, pred, ◌≤◌, ◌<◌}
use mathlib.Core.List.{List}
use mathlib.Core.Path.{◌≡◌, refl, sym, ap, subst, subst₂, ◌∙◌}
use native.Mathlib.Decide.{ℕ_discrete}
use native.Mathlib.Omega.{arith}
use lib.Dec.{T, leb→le, ltb→lt}
use lib.ListN.{length, get_or, set, replicate, length-set}
use lib.Seq.{get_or-set_same, get_or-set_other}
use Rattle.std.proofs.Common.{Ok, Err}
use Rattle.reply.specs.Reply.{given}
use Rattle.reply.specs.declared.Refusal.TheVariants.{AfterEnd}
use Rattle.term.specs.Kinds.{on_paper}
use Rattle.term.specs.declared.kinds.Kind.{Kind as Named}
use Rattle.term.specs.declared.kinds.Kind.TheVariants.{Symbol, Rule as Starts, SymbolNode, VariableNode}
use Rattle.term.specs.Tables.{Kind, kind_of, body_length, body_lengths}
use Rattle.term.specs.Prefix.{Node, symbolic, variable, arity_of}
use Rattle.book.specs.Checks.{body_at, allowed, body_fits, room_left, tested}
use Rattle.book.specs.Entries.{nothing_read, with_symbol, with_left, with_right, with_rule}
use Rattle.book.specs.Placed.{side_whole, side_after, behind_node, node_taken, next, start, placed}
use Rattle.book.specs.Placed.{Reader}
use Rattle.book.specs.Sides.{side_open, left_open, no_side, opened, with_node}
use Rattle.book.specs.declared.Book.{Book as PlacedBook}
use Rattle.book.specs.declared.sides.Stage.{Stage}
use Rattle.book.specs.declared.sides.Stage.TheVariants.{BeforeRules, InLeft, InRight, RuleWhole}
use Rattle.book.proofs.Bodies.{body_whole, body_byte}
use Rattle.book.proofs.Tests.{Passed, passed}
use Rattle.book.proofs.KindNumbers.{by_kind, number_of, its_number}
use Rattle.book.proofs.Steps.{tests_of, behind, next_at, Continues, at_start, taken_here, after_end, all_read}

-- What the tables that are filled keep to.
pub record TablesKept (b : PlacedBook) : Type 0 where
  pub symbols : b.symbols ≤ 16
  pub rules : b.rules ≤ 32
  pub table : length b.arities ≡ 16
  pub arities : (f : ℕ) → get_or b.arities f 0 ≤ 6

-- What the reader keeps to. A side that is open lacks a subterm and belongs to a rule for which there is room.
pub record ReaderKept (q : Reader) : Type 0 where
  pub tables : TablesKept q.book
  pub nodes : q.side.nodes ≤ 10
  pub missing : q.side.missing ≤ 1 + 6 * q.side.nodes
  pub opened : T (side_open q.side.stage) → (q.book.rules < 32) × (0 < q.side.missing)

pub record Going (bytes : List ℕ) (q : Reader) (p : ℕ) : Type 0 where
  pub continues : Continues bytes q p
  pub kept : ReaderKept q

-- A turn of the reading: a record of this kind stands at p, and it passed its tests.
pub record Turn (bytes : List ℕ) (q : Reader) (p : ℕ) (this : Named) : Type 0 where
  pub going : Going bytes q p
  pub here : p < length bytes
  pub taken : tests_of bytes q p ≡ given tt
  pub number : get_or bytes p 0 ≡ number_of this

pub turn :
    {bytes : List ℕ} {q : Reader} {p : ℕ} {kind this : Named} → Going bytes q p → p < length bytes → tested (Ok kind) ≡ tests_of bytes q p →
    on_paper kind ≡ kind_of (get_or bytes p 0) → kind ≡ this → Turn bytes q p this
unfolding tested
turn going here told read is = record { going = going; here = here; taken = sym told; number = its_number read is }

-- Nothing was read.
no_arity : (n f : ℕ) → ◌≡◌ {A = ℕ} (get_or (replicate n 0) f 0) 0
no_arity zero f = refl
no_arity (suc n) zero = refl
no_arity (suc n) (suc f) = no_arity n f

pub going_start : (bytes : List ℕ) → Going bytes start 0
unfolding start nothing_read no_side side_open
going_start bytes =
    record {
      continues = at_start bytes;
      kept =
          record {
            tables = record { symbols = omega arith; rules = omega arith; table = refl; arities = λ f. omega (arith, no_arity 16 f) };
            nodes = omega arith;
            missing = omega arith;
            opened = λ o. absurd o;
          };
    }

-- One arity more.
arity_stored : (l : List ℕ) (n a : ℕ) → ((f : ℕ) → get_or l f 0 ≤ 6) → n < length l → a ≤ 6 → (f : ℕ) → get_or (set l n a) f 0 ≤ 6
arity_stored l n a each room small f =
    elim (ℕ_discrete f n) [
      | yes same ↦ omega (arith, ap (λ (i : ℕ). get_or (set l n a) i 0) same, get_or-set_same l n a 0 room)
      | no other ↦ omega (arith, each f, get_or-set_other l n f a 0 other)
    ]

-- A node's arity.
node_arity : (b : PlacedBook) (node : Node) → TablesKept b → arity_of b.arities node ≤ 6
unfolding arity_of
node_arity b (symbolic f) tables = tables.arities f
node_arity b (variable x) tables = omega arith

-- A side that is open, behind a node.
side_kept :
    (b : PlacedBook) (e : ℕ) (stage : Stage) (m n : ℕ) → TablesKept b → T (side_open stage) → b.rules < 32 → n ≤ 10 → m ≤ 1 + 6 * n →
    ReaderKept (side_after b e stage m n)
unfolding side_open side_after side_whole left_open with_right with_rule opened no_side
side_kept b e BeforeRules m n tables o room few bound = absurd o
side_kept b e InLeft zero n tables o room few bound =
    record {
      tables = record { symbols = tables.symbols; rules = tables.rules; table = tables.table; arities = tables.arities };
      nodes = omega arith;
      missing = omega arith;
      opened = λ o. (room, omega arith);
    }
side_kept b e InLeft (suc m) n tables o room few bound = record { tables = tables; nodes = few; missing = bound; opened = λ o. (room, omega arith) }
side_kept b e InRight zero n tables o room few bound =
    record {
      tables = record { symbols = tables.symbols; rules = omega arith; table = tables.table; arities = tables.arities };
      nodes = omega arith;
      missing = omega arith;
      opened = λ o. absurd o;
    }
side_kept b e InRight (suc m) n tables o room few bound = record { tables = tables; nodes = few; missing = bound; opened = λ o. (room, omega arith) }
side_kept b e RuleWhole m n tables o room few bound = absurd o

-- What is known of a node's record, behind which the reader is r.
pub record NodeHere (q r : Reader) (e : ℕ) (node : Node) : Type 0 where
  pub rule_room : q.book.rules < 32
  pub some_missing : 0 < q.side.missing
  pub step : r ≡ node_taken q e node

module _ {bytes : List ℕ} {q : Reader} {p : ℕ} {this : Named} (t : Turn bytes q p this) where
  tests : Passed (get_or bytes p 0) (body_at bytes p) q.side q.book.symbols q.book.rules
  tests = passed (length bytes) p (get_or bytes p 0) (body_at bytes p) q.side q.book.symbols q.book.rules t.taken

  pub record_within : behind bytes p ≤ length bytes
  record_within = body_whole bytes p t.here tests.whole

  some_body : body_length (get_or bytes p 0) ≡ 1 → 0 < length (body_at bytes p)
  some_body one = omega (arith, tests.whole)

  -- A node's record, of a symbol or of a variable.
  node_here :
      (node : Node) → T (side_open q.side.stage) → next_at bytes q p ≡ node_taken q (behind bytes p) node →
      NodeHere q (next_at bytes q p) (behind bytes p) node
  node_here node is_open step = record { rule_room = (t.going.kept.opened is_open).0; some_missing = (t.going.kept.opened is_open).1; step = step }

  node_kept : (node : Node) → T (side_open q.side.stage) → q.side.nodes < 10 → ReaderKept (node_taken q (behind bytes p) node)
  unfolding node_taken behind_node with_node
  node_kept node is_open room =
      let kept = t.going.kept in
      side_kept q.book (behind bytes p) q.side.stage (pred q.side.missing + arity_of q.book.arities node) (q.side.nodes + 1) kept.tables is_open (kept.opened is_open).0 (omega arith)
      (omega (arith, kept.missing, (kept.opened is_open).1, node_arity q.book node kept.tables))

  next_kept : ReaderKept (next_at bytes q p)
  unfolding allowed body_fits room_left next with_symbol with_left opened body_length body_lengths
  next_kept =
      let kept = t.going.kept in
      by_kind
      (λ (kind : Kind).
      T (allowed kind q.side.stage) → (0 < length (body_at bytes p) → T (body_fits kind q.book.symbols (get_or (body_at bytes p) 0 0))) →
      T (room_left kind q.book.symbols q.book.rules q.side.nodes) → ReaderKept (next kind q (behind bytes p) (body_at bytes p)))
      (get_or bytes p 0)
      (λ u al fi ro. kept)
      (λ is al fi ro.
      record {
        tables =
            record {
              symbols = omega (arith, ltb→lt q.book.symbols 16 ro);
              rules = kept.tables.rules;
              table = length-set q.book.arities q.book.symbols (get_or (body_at bytes p) 0 0) ∙ kept.tables.table;
              arities =
                  arity_stored q.book.arities q.book.symbols (get_or (body_at bytes p) 0 0) kept.tables.arities
                  (omega (arith, ltb→lt q.book.symbols 16 ro, kept.tables.table)) (leb→le (get_or (body_at bytes p) 0 0) 6 (fi (some_body (ap body_length is))));
            };
        nodes = kept.nodes;
        missing = kept.missing;
        opened = kept.opened;
      })
      (λ is al fi ro.
      record {
        tables = record { symbols = kept.tables.symbols; rules = kept.tables.rules; table = kept.tables.table; arities = kept.tables.arities };
        nodes = omega arith;
        missing = omega arith;
        opened = λ o. (ltb→lt q.book.rules 32 ro, omega arith);
      })
      (λ is al fi ro. node_kept (symbolic (get_or (body_at bytes p) 0 0)) al (ltb→lt q.side.nodes 10 ro))
      (λ is al fi ro. node_kept (variable (get_or (body_at bytes p) 0 0)) al (ltb→lt q.side.nodes 10 ro))
      (λ is al fi ro. kept)
      tests.here tests.fits tests.room

  -- The reading goes on behind the record that was taken, with the reader that it leaves.
  pub goes_on :
      {r : Reader} → next_at bytes q p ≡ r → (e : ℕ) → behind bytes p ≡ e → (number_of this ≡ 5 → ⊥) → Going bytes r e
  goes_on leaves e is_behind no_end =
      subst₂ (λ (r : Reader) (u : ℕ). Going bytes r u) leaves is_behind
      (record { continues = taken_here bytes q p t.here t.going.continues t.taken (λ five. no_end (sym t.number ∙ five)); kept = next_kept })

  -- At the end record: something stands behind it, or the book is read.
  module _ (five : number_of this ≡ 5) (e : ℕ) (is_behind : behind bytes p ≡ e) where
    pub more_stands : e < length bytes → Err (AfterEnd e) ≡ placed bytes
    more_stands more = after_end bytes q p t.here t.going.continues t.taken (t.number ∙ five) e is_behind more

    pub all_stands : length bytes ≤ e → Ok q.book ≡ placed bytes
    all_stands none = all_read bytes q p t.here t.going.continues t.taken (t.number ∙ five) e is_behind none

module _ {bytes : List ℕ} {q : Reader} {p : ℕ} where
  -- A symbol: there is room for it, and what it leaves.
  pub symbol_room : Turn bytes q p Symbol → q.book.symbols < 16
  unfolding room_left kind_of
  symbol_room t = ltb→lt q.book.symbols 16 (subst (λ (k : ℕ). T (room_left (kind_of k) q.book.symbols q.book.rules q.side.nodes)) t.number (tests t).room)

  pub symbol_next : Turn bytes q p Symbol → next_at bytes q p ≡ record { book = with_symbol q.book (get_or bytes (p + 1) 0); side = q.side }
  unfolding next kind_of body_length body_lengths
  symbol_next t =
      ap (λ (k : ℕ). next (kind_of k) q (behind bytes p) (body_at bytes p)) t.number
      ∙ ap {B = Reader} (λ (b : ℕ). record { book = with_symbol q.book b; side = q.side }) (body_byte bytes p (ap body_length t.number))

  -- The start of a rule in the same way.
  pub rule_room_lem : Turn bytes q p Starts → q.book.rules < 32
  unfolding room_left kind_of
  rule_room_lem t = ltb→lt q.book.rules 32 (subst (λ (k : ℕ). T (room_left (kind_of k) q.book.symbols q.book.rules q.side.nodes)) t.number (tests t).room)

  pub rule_next : Turn bytes q p Starts → next_at bytes q p ≡ record { book = with_left q.book (behind bytes p); side = opened InLeft }
  unfolding next kind_of
  rule_next t = ap (λ (k : ℕ). next (kind_of k) q (behind bytes p) (body_at bytes p)) t.number

  -- A node, of a symbol that is declared or of a variable.
  pub symbol_here : Turn bytes q p SymbolNode → NodeHere q (next_at bytes q p) (behind bytes p) (symbolic (get_or bytes (p + 1) 0))
  unfolding allowed next kind_of body_length body_lengths
  symbol_here t =
      node_here t (symbolic (get_or bytes (p + 1) 0)) (subst (λ (k : ℕ). T (allowed (kind_of k) q.side.stage)) t.number (tests t).here)
      (ap (λ (k : ℕ). next (kind_of k) q (behind bytes p) (body_at bytes p)) t.number
      ∙ ap (λ (b : ℕ). node_taken q (behind bytes p) (symbolic b)) (body_byte bytes p (ap body_length t.number)))

  pub symbol_declared : Turn bytes q p SymbolNode → get_or bytes (p + 1) 0 < 16
  unfolding body_fits kind_of body_length body_lengths
  symbol_declared t =
      let one : body_length (get_or bytes p 0) ≡ 1 = ap body_length t.number in
      let fits = subst (λ (k : ℕ). T (body_fits (kind_of k) q.book.symbols (get_or (body_at bytes p) 0 0))) t.number ((tests t).fits (some_body t one)) in
      omega (arith, ltb→lt (get_or (body_at bytes p) 0 0) q.book.symbols fits, body_byte bytes p one, t.going.kept.tables.symbols)

  pub variable_here : Turn bytes q p VariableNode → NodeHere q (next_at bytes q p) (behind bytes p) (variable (get_or bytes (p + 1) 0))
  unfolding allowed next kind_of body_length body_lengths
  variable_here t =
      node_here t (variable (get_or bytes (p + 1) 0)) (subst (λ (k : ℕ). T (allowed (kind_of k) q.side.stage)) t.number (tests t).here)
      (ap (λ (k : ℕ). next (kind_of k) q (behind bytes p) (body_at bytes p)) t.number
      ∙ ap (λ (b : ℕ). node_taken q (behind bytes p) (variable b)) (body_byte bytes p (ap body_length t.number)))
