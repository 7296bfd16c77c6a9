-- The first 1,346 bytes of an input decide how its reading ends. Where so many bytes were taken, the sixteen symbols, the 32 rules and
-- their sides of ten nodes are full, and the next record ends the reading whatever it is. By what the reading machine's state counts,
-- record by record. Assumes nothing.
use Prim.Native.Nat.{ℕ, zero, suc, ◌+◌, ◌-◌, ◌*◌, ◌≤◌, ◌<◌, pred}
use mathlib.Core.Bool.{Bool, true, false}
use mathlib.Core.List.{List, [], ◌∷◌, ◌++◌}
use mathlib.Core.Path.{◌≡◌, refl, sym, ap, subst, ◌∙◌}
use native.Mathlib.Decide.{dec_lt}
use native.Mathlib.Omega.{arith}
use borrow.Author.Tests.{le-leb, lt-leb, eqb-true}
use lib.Dec.{T, eqb, leb, eqb_refl, ltb→lt}
use lib.ListN.{length, get_or, take, drop, length-append, length-take, length-drop}
use lib.Seq.{take_all, take-take, take-nil, length-take-le}
use Rattle.reply.specs.Reply.{Attempt, given, refused, told_as, unless, ◌>>◌, ◌>>=◌}
use Rattle.reply.specs.Refusals.{numbered}
use Rattle.reply.specs.declared.Refusal.{Refusal as Named}
use Rattle.reply.proofs.Given.{then_given}
use Rattle.term.specs.Tables.{Kind, symbol, rule, kind_of, body_lengths, body_length}
use Rattle.term.specs.Term.{Term}
use Rattle.term.specs.Prefix.{Node, symbolic, variable, arity_of}
use Rattle.book.specs.Book.{Book}
use Rattle.book.specs.Checks.{known, allowed, room_left, checked, nothing_more}
use Rattle.book.specs.Sides.{side_open, no_rule_yet, no_side}
use Rattle.book.specs.Reading.{
  Stage,
  before_rules,
  in_left,
  in_right,
  rule_whole,
  State,
  side_of,
  left_after,
  right_after,
  node_at,
  next,
  record_at,
  ended,
  read_from,
  start,
  read_book,
}
use Rattle.book.proofs.KindNumbers.{by_kind}
use Rattle.book.proofs.Tests.{Passed, passed}

-- How far the reading has come at most: two bytes a symbol, 41 a rule, and the nodes of the side that is open.
abbrev StageCounted : (full rules : ℕ) → Stage → (p : ℕ) → Type 0
StageCounted full rules before_rules p = p ≤ full
StageCounted full rules (in_left m ns) p = (rules < 32) × (length ns ≤ 10) × (p ≤ full + 1 + 2 * length ns)
StageCounted full rules (in_right l m ns) p = (rules < 32) × (length ns ≤ 10) × (p ≤ full + 21 + 2 * length ns)
StageCounted full rules rule_whole p = p ≤ full

abbrev full : State → ℕ
full s = 2 * length s.arities + 41 * length s.rules

record Counted (s : State) (p : ℕ) : Type 0 where
  symbols : length s.arities ≤ 16
  rules : length s.rules ≤ 32
  stage : StageCounted (full s) (length s.rules) s.stage p

counted_within : (s : State) (p : ℕ) → Counted s p → p ≤ 1344
counted_within s p c = go s.stage c.stage
  where
    go : (stage : Stage) → StageCounted (full s) (length s.rules) stage p → p ≤ 1344
    go before_rules h = omega (arith, c.symbols, c.rules)
    go (in_left m ns) h = omega (arith, c.symbols)
    go (in_right l m ns) h = omega (arith, c.symbols)
    go rule_whole h = omega (arith, c.symbols, c.rules)

module _ (s : State) (p : ℕ) (c : Counted s p) where
  left_counted : (m : ℕ) (ns : List Node) → length s.rules < 32 → length ns ≤ 10 → p + 2 ≤ full s + 1 + 2 * length ns → Counted (left_after s m ns) (p + 2)
  unfolding left_after
  left_counted zero ns room few h = record { symbols = c.symbols; rules = c.rules; stage = (room, omega arith, omega arith) }
  left_counted (suc m) ns room few h = record { symbols = c.symbols; rules = c.rules; stage = (room, few, h) }

  right_counted :
      (l : Term) (m : ℕ) (ns : List Node) → length s.rules < 32 → length ns ≤ 10 → p + 2 ≤ full s + 21 + 2 * length ns →
      Counted (right_after s l m ns) (p + 2)
  unfolding right_after
  right_counted l zero ns room few h =
      record { symbols = c.symbols; rules = simp length-append (omega arith); stage = simp length-append (omega arith) }
  right_counted l (suc m) ns room few h = record { symbols = c.symbols; rules = c.rules; stage = (room, few, h) }

  node_counted :
      (stage : Stage) (this : Node) → T (side_open (side_of stage).stage) → StageCounted (full s) (length s.rules) stage p → (side_of stage).nodes < 10 →
      Counted (node_at stage s this) (p + 2)
  unfolding node_at side_of no_side side_open
  node_counted before_rules this here h few = absurd here
  node_counted (in_left m ns) this here h few =
      let one : length (ns ++ (this ∷ [])) ≡ length ns + 1 = length-append ns (this ∷ []) in
      left_counted (pred m + arity_of s.arities this) (ns ++ (this ∷ [])) h.0 (omega arith) (omega arith)
  node_counted (in_right l m ns) this here h few =
      let one : length (ns ++ (this ∷ [])) ≡ length ns + 1 = length-append ns (this ∷ []) in
      right_counted l (pred m + arity_of s.arities this) (ns ++ (this ∷ [])) h.0 (omega arith) (omega arith)
  node_counted rule_whole this here h few = absurd here

  symbol_counted : (body : List ℕ) → T (no_rule_yet (side_of s.stage).stage) → length s.arities < 16 → Counted (next symbol s body) (p + 2)
  unfolding next no_rule_yet side_of no_side
  symbol_counted body before room =
      record {
        symbols = simp length-append (omega arith);
        rules = c.rules;
        stage = go s.stage before c.stage;
      }
    where
      go :
          (stage : Stage) → T (no_rule_yet (side_of stage).stage) → StageCounted (full s) (length s.rules) stage p →
          StageCounted (2 * length (s.arities ++ (get_or body 0 0 ∷ [])) + 41 * length s.rules) (length s.rules) stage (p + 2)
      go before_rules before h = omega (arith, length-append s.arities (get_or body 0 0 ∷ []))
      go (in_left m ns) before h = absurd before
      go (in_right l m ns) before h = absurd before
      go rule_whole before h = absurd before

  rule_counted : (body : List ℕ) → T (allowed rule (side_of s.stage).stage) → length s.rules < 32 → Counted (next rule s body) (p + 1)
  unfolding next allowed side_open side_of no_side
  rule_counted body here room = record { symbols = c.symbols; rules = c.rules; stage = (room, omega arith, go s.stage here c.stage) }
    where
      go : (stage : Stage) → T (allowed rule (side_of stage).stage) → StageCounted (full s) (length s.rules) stage p → p + 1 ≤ full s + 1 + 2 * 0
      go before_rules here h = omega arith
      go (in_left m ns) here h = absurd here
      go (in_right l m ns) here h = absurd here
      go rule_whole here h = omega arith

  -- What a record that is no end leaves.
  Leaves : (k : ℕ) (body : List ℕ) → Kind → Type 0
  Leaves k body kind =
      T (known kind) → T (allowed kind (side_of s.stage).stage) → T (room_left kind (length s.arities) (length s.rules) (side_of s.stage).nodes) →
      Counted (next kind s body) (p + 1 + body_length k)

  at : {s' : State} (q k : ℕ) {many : ℕ} → body_length k ≡ many → p + 1 + many ≡ q → Counted s' q → Counted s' (p + 1 + body_length k)
  at {s'} q k e f counted = subst (λ (r : ℕ). Counted s' r) (sym f ∙ ap (λ (m : ℕ). p + 1 + m) (sym e)) counted

  next_counted : (k : ℕ) (body : List ℕ) → (k ≡ 5 → ⊥) → Leaves k body (kind_of k)
  unfolding Leaves known allowed room_left body_length body_lengths next
  next_counted k body no_end =
      by_kind (Leaves k body) k (λ out is here room. absurd is)
      (λ e is here room. at (p + 2) k (ap body_length e) (omega arith) (symbol_counted body here (ltb→lt (length s.arities) 16 room)))
      (λ e is here room. at (p + 1) k (ap body_length e) (omega arith) (rule_counted body here (ltb→lt (length s.rules) 32 room)))
      (λ e is here room. at (p + 2) k (ap body_length e) (omega arith) (node_counted s.stage (symbolic (get_or body 0 0)) here c.stage (ltb→lt (side_of s.stage).nodes 10 room)))
      (λ e is here room. at (p + 2) k (ap body_length e) (omega arith) (node_counted s.stage (variable (get_or body 0 0)) here c.stage (ltb→lt (side_of s.stage).nodes 10 room)))
      (λ e is here room. absurd (no_end e))

  record_counted : (len k : ℕ) (body : List ℕ) (s' : State) → (k ≡ 5 → ⊥) → record_at len s p k body ≡ given s' → Counted s' (p + 1 + body_length k)
  unfolding record_at Leaves
  record_counted len k body s' no_end e =
      let ((t, taken), same) = then_given _ _ _ e in
      let tests : Passed k body (side_of s.stage) (length s.arities) (length s.rules) = passed len p k body (side_of s.stage) (length s.arities) (length s.rules) taken in
      subst (λ (t : State). Counted t (p + 1 + body_length k)) (cc same) (next_counted k body no_end tests.is_known tests.here tests.room)

-- The body of any record is a byte at most.
body_small : (k : ℕ) → body_length k ≤ 1
unfolding body_length body_lengths
body_small zero = omega arith
body_small (suc zero) = omega arith
body_small (suc (suc zero)) = omega arith
body_small (suc (suc (suc zero))) = omega arith
body_small (suc (suc (suc (suc zero)))) = omega arith
body_small (suc (suc (suc (suc (suc zero))))) = omega arith
body_small (suc (suc (suc (suc (suc (suc k)))))) = omega arith

-- A record with its whole body is read alike, however long the book is.
record_alike :
    (len len' : ℕ) (s : State) (p k : ℕ) {body body' : List ℕ} → body_length k ≤ length body → body' ≡ body → record_at len s p k body' ≡ record_at len' s p k body
unfolding record_at checked unless ◌>>◌
record_alike len len' s p k {body} {body'} enough e =
    let whole : leb (body_length k) (length body) ≡ true = le-leb (body_length k) (length body) enough in
    rw (e, whole)

bind_alike :
    {R A B : Type 0} (x : Attempt R A) (f g : A → Attempt R B) → ((a : A) → x ≡ given a → f a ≡ g a) → ◌>>=◌ x f ≡ ◌>>=◌ x g
unfolding ◌>>=◌
bind_alike (given a) f g same = same a refl
bind_alike (refused r) f g same = refl

-- "bytes after the end", however many.
ended_alike : (len len' : ℕ) (s : State) (p : ℕ) → p < len → p < len' → ended len s p ≡ ended len' s p
unfolding ended nothing_more
ended_alike len len' s p h h' = rw (lt-leb len p h, lt-leb len' p h')

drop_take : (n i : ℕ) (l : List ℕ) → take (n - i) (drop i l) ≡ drop i (take n l)
drop_take n zero l = let same : n - 0 ≡ n = omega arith in ap (λ (m : ℕ). take m l) same
drop_take zero (suc i) l = let none : 0 - suc i ≡ 0 = omega arith in rw none
drop_take (suc n) (suc i) [] = take-nil (suc n - suc i)
drop_take (suc n) (suc i) (x ∷ l) = let same : suc n - suc i ≡ n - i = omega arith in rw same (drop_take n i l)

-- What follows a record of kind k at p, from the bytes behind its kind on.
abbrev after : (fuel len p k : ℕ) → List ℕ → State → Attempt Named Book
after fuel len p k bytes s =
    elim (eqb k 5) [ true ↦ ended len s (p + 1 + body_length k) | false ↦ read_from fuel len s (p + 1 + body_length k) (drop (body_length k) bytes) ]

after_alike :
    (f g len len' p k : ℕ) (l m : List ℕ) (s : State) → p + 1 < len → p + 1 < len' →
    ((k ≡ 5 → ⊥) → read_from f len s (p + 1 + body_length k) (drop (body_length k) l) ≡ read_from g len' s (p + 1 + body_length k) (drop (body_length k) m)) →
    after f len p k l s ≡ after g len' p k m s
unfolding body_length body_lengths
after_alike f g len len' p k l m s h h' same = go (eqb k 5) refl
  where
    go :
        (t : Bool) → eqb k 5 ≡ t →
        ◌≡◌ {A = Attempt Named Book} (elim t [ true ↦ ended len s (p + 1 + body_length k) | false ↦ read_from f len s (p + 1 + body_length k) (drop (body_length k) l) ])
        (elim t [ true ↦ ended len' s (p + 1 + body_length k) | false ↦ read_from g len' s (p + 1 + body_length k) (drop (body_length k) m) ])
    go true e =
        let none : body_length k ≡ 0 = ap body_length (eqb-true k 5 e) in
        ended_alike len len' s (p + 1 + body_length k) (omega arith) (omega arith)
    go false e = same (λ five. subst T e (subst (λ (j : ℕ). T (eqb j 5)) (sym five) (eqb_refl 5)))

-- Reading on from a place, all of what is left or what is left of the first 1,346 bytes.
from_alike :
    (f g len : ℕ) (s : State) (p : ℕ) (rest : List ℕ) → Counted s p → p + length rest ≡ len → 1346 ≤ len → length rest ≤ f → 1346 - p ≤ g →
    read_from g 1346 s p (take (1346 - p) rest) ≡ read_from f len s p rest
unfolding read_from
from_alike zero g len s p rest c e long enough enough' = absurd (omega (arith, counted_within s p c))
from_alike (suc f) zero len s p rest c e long enough enough' = absurd (omega (arith, counted_within s p c))
from_alike (suc f) (suc g) len s p [] c e long enough enough' = absurd (omega (arith, counted_within s p c))
from_alike (suc f) (suc g) len s p (k ∷ bytes) c e long enough enough' =
    let near = counted_within s p c in
    let small = body_small k in
    let more : 1346 - p ≡ suc (1345 - p) = omega arith in
    let first = take (1345 - p) bytes in
    ap (λ (n : ℕ). read_from (suc g) 1346 s p (take n (k ∷ bytes))) more
    ∙ ap (λ (x : Attempt Named State). ◌>>=◌ x (after g 1346 p k first))
    (record_alike 1346 len s p k (rw length-take (omega arith)) (take-take (body_length k) (1345 - p) bytes (omega arith)))
    ∙ bind_alike (record_at len s p k (take (body_length k) bytes)) (after g 1346 p k first) (after f len p k bytes)
    (λ s' taken.
    after_alike g f 1346 len p k first bytes s' (omega arith) (omega arith)
    (λ no_end.
    let left : 1345 - p - body_length k ≡ 1346 - (p + 1 + body_length k) = omega arith in
    let behind : length (drop (body_length k) bytes) ≡ length bytes - body_length k = length-drop (body_length k) bytes in
    ap (read_from g 1346 s' (p + 1 + body_length k)) (sym (drop_take (1345 - p) (body_length k) bytes) ∙ ap (λ (n : ℕ). take n (drop (body_length k) bytes)) left)
    ∙ from_alike f g len s' (p + 1 + body_length k) (drop (body_length k) bytes) (record_counted s p c len k (take (body_length k) bytes) s' no_end taken) (omega arith) long
    (omega arith) (omega arith)))

-- Nothing has been read.
start_counted : Counted start 0
unfolding start
start_counted = record { symbols = omega arith; rules = omega arith; stage = omega arith }

pub first_bytes_decide : (bytes : List ℕ) → read_book (take 1346 bytes) ≡ read_book bytes
unfolding read_book
first_bytes_decide bytes =
    elim (dec_lt 1346 (length bytes)) [
      | yes long ↦
          let many : length (take 1346 bytes) ≡ 1346 = length-take-le 1346 bytes (omega arith) in
          ap (told_as numbered)
          (ap (λ (n : ℕ). read_from n n start 0 (take 1346 bytes)) many
          ∙ from_alike (length bytes) 1346 (length bytes) start 0 bytes start_counted (omega arith) (omega arith) (omega arith) (omega arith))
      | no short ↦ ap read_book (take_all 1346 bytes (omega arith))
    ]
