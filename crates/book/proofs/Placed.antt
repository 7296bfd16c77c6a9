-- The places that are read mean the book that is read, and its trees stand at them. By running the two machines side by side: the tests
-- of each record answer the same, and what is taken stays matched. Assumes nothing.
use Prim.Native.Nat.{ℕ, zero, suc, ◌+◌, ◌≤◌, ◌<◌}
use mathlib.Core.Bool.{Bool, true, false}
use mathlib.Core.List.{List, ◌∷◌}
use mathlib.Core.Path.{◌≡◌, refl, sym, ap, ap₂, subst, subst₂, ◌∙◌}
use native.Mathlib.Decide.{dec_lt}
use native.Mathlib.Numerals.{add-one}
use native.Mathlib.Omega.{arith}
use borrow.Author.Tests.{lt-ltb, eqb-true, eqb-false}
use lib.Dec.{eqb}
use lib.ListN.{length, get_or, drop, drop_of_length-le}
use lib.Seq.{drop-cons, drop-drop}
use Rattle.reply.specs.Reply.{Attempt, Reply, given, refused, told_as, ◌>>◌, ◌>>=◌}
use Rattle.reply.specs.Refusals.{numbered}
use Rattle.reply.specs.Replied.{result_of, replied_as}
use Rattle.reply.specs.declared.Refusal.{Refusal as Named}
use Rattle.term.specs.Tables.{kind_of, body_length}
use Rattle.book.specs.Book.{Book, Rule}
use Rattle.book.specs.Checks.{body_at, checked, nothing_more}
use Rattle.book.specs.Reading as trees
use Rattle.book.specs.Reading.{State, side_of, read_book}
use Rattle.book.specs.Placed as places
use Rattle.book.specs.Placed.{placed}
use Rattle.book.specs.Placed.{Reader}
use Rattle.book.specs.Meaning.{book_at, meaning}
use Rattle.book.specs.declared.Book.{Book as PlacedBook}
use Rattle.book.proofs.Tests.{passed}
use Rattle.book.proofs.Steps.{tests_of, behind, next_at, at_end_lem}
use Rattle.book.proofs.Matched.{Matched}
use Rattle.book.proofs.Simulated.{Simulated, start_simulated, next_simulated}

-- What the two machines reply: matched, or refused for the same.
abbrev pub Alike : (bytes : List ℕ) → Attempt Named Book → Attempt Named PlacedBook → Type 0
Alike bytes (given book) (given b) = Matched bytes book.arities book.rules b
Alike bytes (given book) (refused v) = ⊥
Alike bytes (refused r) (given b) = ⊥
Alike bytes (refused r) (refused v) = r ≡ v

-- The tests of both are the same, and so is what comes behind them.
tests_alike :
    {A : Type 0} (bytes : List ℕ) (x y : Attempt Named (Unit {0})) (a : A) (f : A → Attempt Named Book) (Y : Attempt Named PlacedBook) → x ≡ y →
    (x ≡ given tt → Alike bytes (f a) Y) → Alike bytes (◌>>=◌ (◌>>◌ x (given a)) f) (◌>>◌ y Y)
unfolding ◌>>=◌ ◌>>◌
tests_alike bytes x y a f Y same behind = subst (λ (z : Attempt Named (Unit {0})). Alike bytes (◌>>=◌ (◌>>◌ x (given a)) f) (◌>>◌ z Y)) same (go x behind)
  where
    go : (x : Attempt Named (Unit {0})) → (x ≡ given tt → Alike bytes (f a) Y) → Alike bytes (◌>>=◌ (◌>>◌ x (given a)) f) (◌>>◌ x Y)
    go (given t) behind = behind refl
    go (refused r) behind = refl

-- Behind the end record.
ended_alike :
    (bytes : List ℕ) (s : State) (b : PlacedBook) (p : ℕ) → Matched bytes s.arities s.rules b →
    Alike bytes (trees.ended (length bytes) s p) (places.ended (length bytes) b p)
unfolding trees.ended places.ended ◌>>◌
ended_alike bytes s b p m = go (nothing_more (length bytes) p)
  where
    go : (x : Attempt Named (Unit {0})) → Alike bytes (◌>>◌ x (given (record { arities = s.arities; rules = s.rules }))) (◌>>◌ x (given b))
    go (given t) = m
    go (refused r) = refl

-- What the trees' machine does at a byte, with the bytes behind it named by their places.
trees_turn : (fuel : ℕ) (bytes : List ℕ) (s : State) (p : ℕ) → Attempt Named Book
trees_turn fuel bytes s p =
    ◌>>=◌ (trees.record_at (length bytes) s p (get_or bytes p 0) (body_at bytes p))
    (λ s'.
    elim (eqb (get_or bytes p 0) 5) [
      | true ↦ trees.ended (length bytes) s' (behind bytes p)
      | false ↦ trees.read_from fuel (length bytes) s' (behind bytes p) (drop (behind bytes p) bytes)
    ])

trees_turns : (fuel : ℕ) (bytes : List ℕ) (s : State) (p : ℕ) → p < length bytes → trees.read_from (suc fuel) (length bytes) s p (drop p bytes) ≡ trees_turn fuel bytes s p
unfolding trees.read_from trees_turn body_at
trees_turns fuel bytes s p here =
    ap (trees.read_from (suc fuel) (length bytes) s p) (drop-cons bytes p 0 here ∙ ap (λ (i : ℕ). get_or bytes p 0 ∷ drop i bytes) (sym (add-one p)))
    ∙ ap
    (λ (rest : List ℕ).
    ◌>>=◌ (trees.record_at (length bytes) s p (get_or bytes p 0) (body_at bytes p))
    (λ s'.
    elim (eqb (get_or bytes p 0) 5) [
      | true ↦ trees.ended (length bytes) s' (behind bytes p)
      | false ↦ trees.read_from fuel (length bytes) s' (behind bytes p) rest
    ]))
    (drop-drop (body_length (get_or bytes p 0)) (p + 1) bytes)

places_turn : (fuel : ℕ) (bytes : List ℕ) (q : Reader) (p : ℕ) → Attempt Named PlacedBook
places_turn fuel bytes q p =
    ◌>>◌ (tests_of bytes q p)
    (elim (eqb (get_or bytes p 0) 5) [
      | true ↦ places.ended (length bytes) q.book (behind bytes p)
      | false ↦ places.placed_from fuel bytes (next_at bytes q p) (behind bytes p)
    ])

places_turns : (fuel : ℕ) (bytes : List ℕ) (q : Reader) (p : ℕ) → p < length bytes → places.placed_from (suc fuel) bytes q p ≡ places_turn fuel bytes q p
unfolding places.placed_from places_turn
places_turns fuel bytes q p here = rw (places.placed_from, lt-ltb p (length bytes) here)

-- No byte is left: both end early.
early_alike :
    (fuel : ℕ) (bytes : List ℕ) (s : State) (q : Reader) (p : ℕ) → length bytes ≤ p →
    Alike bytes (trees.read_from (suc fuel) (length bytes) s p (drop p bytes)) (places.placed_from (suc fuel) bytes q p)
unfolding trees.read_from
early_alike fuel bytes s q p none =
    subst₂ (Alike bytes) (sym (ap (trees.read_from (suc fuel) (length bytes) s p) (drop_of_length-le bytes none))) (sym (at_end_lem bytes q p (suc fuel) none)) refl

-- The end record changes nothing.
end_next : (s : State) (body : List ℕ) (k : ℕ) → k ≡ 5 → trees.next (kind_of k) s body ≡ s
unfolding trees.next kind_of
end_next s body k e = ap (λ (i : ℕ). trees.next (kind_of i) s body) e

-- A record, given that all behind it is alike.
turn_alike :
    (fuel : ℕ) (bytes : List ℕ) (s : State) (q : Reader) (p : ℕ) → p < length bytes → Simulated bytes s q p →
    ((s' : State) (q' : Reader) (p' : ℕ) → Simulated bytes s' q' p' →
    Alike bytes (trees.read_from fuel (length bytes) s' p' (drop p' bytes)) (places.placed_from fuel bytes q' p')) →
    Alike bytes (trees_turn fuel bytes s p) (places_turn fuel bytes q p)
unfolding trees_turn places_turn trees.record_at
turn_alike fuel bytes s q p here sim rest =
    tests_alike bytes tests (tests_of bytes q p) (trees.next (kind_of (get_or bytes p 0)) s (body_at bytes p)) _ _ same (λ taken. go (eqb (get_or bytes p 0) 5) refl taken)
  where
    tests : Attempt Named (Unit {0})
    tests = checked (length bytes) p (get_or bytes p 0) (body_at bytes p) (side_of s.stage) (length s.arities) (length s.rules)

    same : tests ≡ tests_of bytes q p
    same = cc (sim.side, sim.matched.symbol_count, sim.matched.rule_count)

    go :
        (is-end : Bool) → eqb (get_or bytes p 0) 5 ≡ is-end → tests ≡ given tt →
        Alike bytes
        (elim is-end [
          | true ↦ trees.ended (length bytes) (trees.next (kind_of (get_or bytes p 0)) s (body_at bytes p)) (behind bytes p)
          | false ↦ trees.read_from fuel (length bytes) (trees.next (kind_of (get_or bytes p 0)) s (body_at bytes p)) (behind bytes p) (drop (behind bytes p) bytes)
        ])
        (elim is-end [
          | true ↦ places.ended (length bytes) q.book (behind bytes p)
          | false ↦ places.placed_from fuel bytes (next_at bytes q p) (behind bytes p)
        ])
    go true e taken =
        subst (λ (s' : State). Alike bytes (trees.ended (length bytes) s' (behind bytes p)) (places.ended (length bytes) q.book (behind bytes p)))
        (sym (end_next s (body_at bytes p) (get_or bytes p 0) (eqb-true (get_or bytes p 0) 5 e))) (ended_alike bytes s q.book (behind bytes p) sim.matched)
    go false e taken =
        rest (trees.next (kind_of (get_or bytes p 0)) s (body_at bytes p)) (next_at bytes q p) (behind bytes p)
        (next_simulated sim here (eqb-false (get_or bytes p 0) 5 e) (passed (length bytes) p (get_or bytes p 0) (body_at bytes p) (side_of s.stage) (length s.arities) (length s.rules) taken))

-- The record at p and all behind it.
from_alike :
    (fuel : ℕ) (bytes : List ℕ) (s : State) (q : Reader) (p : ℕ) → Simulated bytes s q p →
    Alike bytes (trees.read_from fuel (length bytes) s p (drop p bytes)) (places.placed_from fuel bytes q p)
unfolding trees.read_from places.placed_from
from_alike zero bytes s q p sim = refl
from_alike (suc fuel) bytes s q p sim =
    elim (dec_lt p (length bytes)) [
      | yes here ↦
          subst₂ (Alike bytes) (sym (trees_turns fuel bytes s p here)) (sym (places_turns fuel bytes q p here))
          (turn_alike fuel bytes s q p here sim (from_alike fuel bytes))
      | no none ↦ early_alike fuel bytes s q p (omega arith)
    ]

-- Both readings of a whole book.
pub alike : (bytes : List ℕ) → Alike bytes (trees.read_from (length bytes) (length bytes) trees.start 0 bytes) (places.placed_from (length bytes) bytes places.start 0)
alike bytes = from_alike (length bytes) bytes trees.start places.start 0 (start_simulated bytes)

-- What is alike means the same.
meant : (bytes : List ℕ) (x : Attempt Named Book) (y : Attempt Named PlacedBook) → Alike bytes x y → meaning bytes (result_of y) ≡ told_as numbered x
unfolding meaning replied_as result_of book_at told_as
meant bytes (given book) (given b) m =
    ap₂ {C = Reply Book} (λ (arities : List ℕ) (rules : List Rule). given (record { arities = arities; rules = rules })) m.declared m.rules_there
meant bytes (given book) (refused v) no_way = absurd no_way
meant bytes (refused r) (given b) no_way = absurd no_way
meant bytes (refused r) (refused v) same = ap (λ (why : Named). refused (numbered why)) (sym same)

-- The places that are read mean the book that is read.
pub placed_means : (bytes : List ℕ) → meaning bytes (placed bytes) ≡ read_book bytes
unfolding placed read_book
placed_means bytes = meant bytes (trees.read_from (length bytes) (length bytes) trees.start 0 bytes) (places.placed_from (length bytes) bytes places.start 0) (alike bytes)
