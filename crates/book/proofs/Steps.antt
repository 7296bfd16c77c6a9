-- The machine over places, record by record: what reading goes on with after each. Assumes nothing.
use Prim.Native.Nat.{ℕ, zero, suc, ◌+◌, ◌≤◌, ◌<◌}
use mathlib.Core.Bool.{true, false}
use mathlib.Core.List.{List}
use mathlib.Core.Path.{◌≡◌, refl, sym, ap, ◌∙◌}
use native.Mathlib.Omega.{arith}
use borrow.Author.Tests.{le-leb, lt-leb, lt-ltb, le-ltb, eq-eqb, ne_eqb}
use lib.ListN.{length, get_or}
use Rattle.std.proofs.Common.{Ok, Err}
use Rattle.reply.specs.Reply.{Attempt, given, refused, unless, ◌>>◌}
use Rattle.reply.specs.Replied.{result_of}
use Rattle.reply.specs.declared.Refusal.{Refusal as Named}
use Rattle.reply.specs.declared.Refusal.TheVariants.{BookEnded, AfterEnd}
use Rattle.term.specs.Tables.{kind_of, body_length}
use Rattle.book.specs.Checks.{body_at, checked, nothing_more}
use Rattle.book.specs.Entries.{with_right, with_rule}
use Rattle.book.specs.Placed.{side_whole, side_after, behind_node, next, ended, placed_from, start, placed}
use Rattle.book.specs.Placed.{Reader}
use Rattle.book.specs.Sides.{left_open, no_side, opened, with_node}
use Rattle.book.specs.declared.sides.Side.{Side}
use Rattle.book.specs.declared.sides.Stage.TheVariants.{InRight, RuleWhole}

-- The tests of the record that stands at p.
abbrev pub tests_of : (bytes : List ℕ) → Reader → (p : ℕ) → Attempt Named (Unit {0})
tests_of bytes q p = checked (length bytes) p (get_or bytes p 0) (body_at bytes p) q.side q.book.symbols q.book.rules

-- The place behind it, and the reader that it leaves.
abbrev pub behind : (bytes : List ℕ) (p : ℕ) → ℕ
behind bytes p = p + 1 + body_length (get_or bytes p 0)

abbrev pub next_at : (bytes : List ℕ) → Reader → (p : ℕ) → Reader
next_at bytes q p = next (kind_of (get_or bytes p 0)) q (behind bytes p) (body_at bytes p)

-- The reading of the book goes on from q at p: what is still to be read from there is what the book gives.
pub record Continues (bytes : List ℕ) (q : Reader) (p : ℕ) : Type 0 where
  pub fuel : ℕ
  pub enough : length bytes ≤ p + fuel
  pub same : placed_from fuel bytes q p ≡ placed_from (length bytes) bytes start 0

pub at_start : (bytes : List ℕ) → Continues bytes start 0
at_start bytes = record { fuel = length bytes; enough = omega arith; same = refl }

module _ (bytes : List ℕ) (q : Reader) (p : ℕ) where
  -- Nothing is read past the end.
  pub at_end_lem : (fuel : ℕ) → length bytes ≤ p → placed_from fuel bytes q p ≡ refused (BookEnded (length bytes))
  unfolding placed_from
  at_end_lem zero h = refl
  at_end_lem (suc fuel) h = rw (placed_from, le-ltb p (length bytes) h)

  -- No byte is left.
  pub ended_early : Continues bytes q p → length bytes ≤ p → Err (BookEnded (length bytes)) ≡ placed bytes
  unfolding placed result_of
  ended_early c h = ap result_of (sym (at_end_lem c.fuel h) ∙ c.same)

  module _ (here : p < length bytes) where
    -- A record is left, so there is fuel for it.
    with_fuel :
        {P : Type 0} → ((fuel : ℕ) → length bytes ≤ p + suc fuel → placed_from (suc fuel) bytes q p ≡ placed_from (length bytes) bytes start 0 → P) →
        Continues bytes q p → P
    with_fuel {P} f c = go c.fuel c.enough c.same
      where
        go : (fuel : ℕ) → length bytes ≤ p + fuel → placed_from fuel bytes q p ≡ placed_from (length bytes) bytes start 0 → P
        go zero enough same = absurd (omega arith)
        go (suc fuel) enough same = f fuel enough same

    refused_step : (fuel : ℕ) (r : Named) → tests_of bytes q p ≡ refused r → placed_from (suc fuel) bytes q p ≡ refused r
    unfolding placed_from ◌>>◌
    refused_step fuel r e = rw (placed_from, lt-ltb p (length bytes) here, e)

    -- The record at p is refused.
    pub refused_here : Continues bytes q p → (r : Named) → refused r ≡ tests_of bytes q p → Err r ≡ placed bytes
    unfolding placed result_of
    refused_here c r e = with_fuel (λ fuel enough same. ap result_of (sym (refused_step fuel r (sym e)) ∙ same)) c

    ended_step :
        (fuel : ℕ) → tests_of bytes q p ≡ given tt → get_or bytes p 0 ≡ 5 → placed_from (suc fuel) bytes q p ≡ ended (length bytes) q.book (behind bytes p)
    unfolding placed_from ◌>>◌
    ended_step fuel e k = rw (placed_from, lt-ltb p (length bytes) here, e, eq-eqb (get_or bytes p 0) 5 k)

    -- The end record is at p: something stands behind it, or the book is read.
    ended_here :
        Continues bytes q p → tests_of bytes q p ≡ given tt → get_or bytes p 0 ≡ 5 → (e : ℕ) → behind bytes p ≡ e →
        result_of (ended (length bytes) q.book e) ≡ placed bytes
    unfolding placed
    ended_here c taken k e is =
        ap (λ (u : ℕ). result_of (ended (length bytes) q.book u)) (sym is)
        ∙ with_fuel (λ fuel enough same. ap result_of (sym (ended_step fuel taken k) ∙ same)) c

    pub after_end :
        Continues bytes q p → tests_of bytes q p ≡ given tt → get_or bytes p 0 ≡ 5 → (e : ℕ) → behind bytes p ≡ e → e < length bytes →
        Err (AfterEnd e) ≡ placed bytes
    unfolding ended nothing_more unless ◌>>◌ result_of
    after_end c taken k e is more = rw (ended, lt-leb (length bytes) e more) at (ended_here c taken k e is)

    pub all_read :
        Continues bytes q p → tests_of bytes q p ≡ given tt → get_or bytes p 0 ≡ 5 → (e : ℕ) → behind bytes p ≡ e → length bytes ≤ e →
        Ok q.book ≡ placed bytes
    unfolding ended nothing_more unless ◌>>◌ result_of
    all_read c taken k e is none = rw (ended, le-leb (length bytes) e none) at (ended_here c taken k e is)

    taken_step :
        (fuel : ℕ) → tests_of bytes q p ≡ given tt → (get_or bytes p 0 ≡ 5 → ⊥) →
        placed_from (suc fuel) bytes q p
        ≡ placed_from fuel bytes (next_at bytes q p) (behind bytes p)
    unfolding placed_from ◌>>◌
    taken_step fuel e k = rw (placed_from, lt-ltb p (length bytes) here, e, ne_eqb (get_or bytes p 0) 5 k)

    -- Another record is taken.
    pub taken_here :
        Continues bytes q p → tests_of bytes q p ≡ given tt → (get_or bytes p 0 ≡ 5 → ⊥) →
        Continues bytes (next_at bytes q p) (behind bytes p)
    taken_here c e k =
        with_fuel (λ fuel enough same. record { fuel = fuel; enough = omega arith; same = sym (taken_step fuel e k) ∙ same }) c

-- A reader behind a node: its side is still open, or it is whole.
module _ (q : Reader) (e opens : ℕ) (side : Side) (grown : side ≡ with_node q.side opens) where
  by_its_side : behind_node q e opens ≡ side_after q.book e side.stage side.missing side.nodes
  unfolding behind_node
  by_its_side = ap (λ (s : Side). side_after q.book e s.stage s.missing s.nodes) (sym grown)

  pub still_open : (side.missing ≡ 0 → ⊥) → record { book = q.book; side = side } ≡ behind_node q e opens
  unfolding side_after
  still_open some = go side.missing some ∙ sym by_its_side
    where
      go :
          (m : ℕ) → (m ≡ 0 → ⊥) →
          record { book = q.book; side = record { stage = side.stage; missing = m; nodes = side.nodes } } ≡ side_after q.book e side.stage m side.nodes
      go zero some = absurd (some refl)
      go (suc m) some = refl

  now_whole : side.missing ≡ 0 → side_whole q.book e side.stage side.nodes ≡ behind_node q e opens
  unfolding side_after
  now_whole none = ap (λ (m : ℕ). side_after q.book e side.stage m side.nodes) (sym none) ∙ sym by_its_side

  pub left_whole :
      side.missing ≡ 0 → left_open side.stage ≡ true → record { book = with_right q.book side.nodes e; side = opened InRight } ≡ behind_node q e opens
  unfolding side_whole
  left_whole none left = rw (side_whole, left) at (now_whole none)

  pub right_whole :
      side.missing ≡ 0 → left_open side.stage ≡ false → record { book = with_rule q.book side.nodes; side = no_side RuleWhole } ≡ behind_node q e opens
  unfolding side_whole
  right_whole none right = rw (side_whole, right) at (now_whole none)
