-- A book that was read keeps to the limits. By what the reading machine's state keeps to, record by record. Assumes nothing.
use Prim.Native.Nat.{ℕ, zero, suc, ◌+◌, pred, ◌≤◌, ◌<◌}
use mathlib.Core.List.Memᴰ
use mathlib.Core.List.{List, [], ◌∷◌, ◌++◌, Memᴰ}
use mathlib.Core.Logic.{◌⊎◌, inl, inr}
use mathlib.Core.Path.{◌≡◌, refl, ap, subst}
use native.Mathlib.Omega.{arith}
use lib.Dec.{T, eqb, leb→le, ltb→lt}
use lib.ListN.{length, get_or, take, drop, length-append}
use Rattle.reply.specs.Reply.{given}
use Rattle.reply.specs.declared.Refusal.TheVariants.{BookEnded}
use Rattle.term.specs.Tables.{Kind, symbol, kind_of, body_length, body_lengths}
use Rattle.term.specs.Term.{Term}
use Rattle.term.specs.Prefix.{Node, symbolic, variable, arity_of, tree}
use Rattle.reply.proofs.Given.{refused_not_given, bind_given, then_given, either_given, told_given}
use Rattle.term.proofs.Prefix.{NodeOver, declared, standing, Leaves, no_node, leaves_next, leaves_variable, TreeOf, tree_fills}
use Rattle.book.specs.Book.{Book, Rule, symbols}
use Rattle.book.specs.Limits.{SideWithinLimits, WithinLimits}
use Rattle.book.specs.Checks.{allowed, body_fits, room_left}
use Rattle.book.specs.Sides.{no_rule_yet, no_side}
use Rattle.book.specs.Reading.{Stage, before_rules, in_left, in_right, rule_whole, State, side_of, left_after, right_after, node_at, next, record_at, ended, read_from, start, read_book}
use Rattle.book.proofs.Tests.{Passed, passed}
use Rattle.book.proofs.KindNumbers.{by_kind}

-- The nodes of a side that is open: so many subterms are missing, one at least, and there are at most ten nodes.
pub record Open (arities : List ℕ) (missing : ℕ) (nodes : List Node) : Type 0 where
  pub filled : Leaves arities (λ x. x ≤ 15) 1 nodes missing
  pub some_missing_lem : 0 < missing
  pub few : length nodes ≤ 10

-- What the machine's stage keeps to. While a side is open its rule is still to be counted.
abbrev pub StageKept : List ℕ → List Rule → Stage → Type 0
StageKept arities rules before_rules = rules ≡ []
StageKept arities rules (in_left m ns) = (length rules < 32) × Open arities m ns
StageKept arities rules (in_right l m ns) = (length rules < 32) × Open arities m ns × SideWithinLimits arities l
StageKept arities rules rule_whole = length rules ≤ 32

pub record RuleKept (arities : List ℕ) (r : Rule) : Type 0 where
  pub left : SideWithinLimits arities r.left
  pub right : SideWithinLimits arities r.right

-- What the symbols and the whole rules keep to.
pub record Settled (arities : List ℕ) (rules : List Rule) : Type 0 where
  pub symbol_count : length arities ≤ 16
  pub arity : (a : ℕ) → Memᴰ a arities → a ≤ 6
  pub sides : (r : Rule) → Memᴰ r rules → RuleKept arities r

pub record Kept (s : State) : Type 0 where
  pub settled : Settled s.arities s.rules
  pub stage : StageKept s.arities s.rules s.stage

-- What holds of each element and of one more holds of each of them.
each_and_one_more :
    {A : Type 0} (P : A → Type 0) (l : List A) (one : A) → ((a : A) → Memᴰ a l → P a) → P one →
    (a : A) → Memᴰ a (l ++ (one ∷ [])) → P a
each_and_one_more P l one each this a m = go (Memᴰ.append_cases l m)
  where
    go : Memᴰ a l ⊎ Memᴰ a (one ∷ []) → P a
    go (inl before) = each a before
    go (inr here) = rw (Memᴰ.eq_of_singleton here) this

-- A side whose nodes fill exactly one subterm.
side_whole_lem : (arities : List ℕ) (nodes : List Node) → Leaves arities (λ x. x ≤ 15) 1 nodes 0 → length nodes ≤ 10 → SideWithinLimits arities (tree arities nodes)
side_whole_lem arities nodes l few =
    let t : TreeOf arities nodes (tree arities nodes) = tree_fills arities (λ x. x ≤ 15) nodes l in
    record { over_symbols = t.over_symbols; variables = λ x o. leaves_variable l (t.variables x o); nodes = omega (arith, t.node_count) }

-- A side that has just been opened.
opened : (arities : List ℕ) → Open arities 1 []
opened arities = record { filled = no_node; some_missing_lem = omega arith; few = omega arith }

module _ (s : State) (kept : Kept s) where
  left_after_kept :
      (m : ℕ) (ns : List Node) → length s.rules < 32 → Leaves s.arities (λ x. x ≤ 15) 1 ns m → length ns ≤ 10 → Kept (left_after s m ns)
  unfolding left_after
  left_after_kept zero ns room l few = record { settled = kept.settled; stage = (room, opened s.arities, side_whole_lem s.arities ns l few) }
  left_after_kept (suc m) ns room l few =
      record { settled = kept.settled; stage = (room, record { filled = l; some_missing_lem = omega arith; few = few }) }

  right_after_kept :
      (left : Term) (m : ℕ) (ns : List Node) → length s.rules < 32 → SideWithinLimits s.arities left →
      Leaves s.arities (λ x. x ≤ 15) 1 ns m → length ns ≤ 10 → Kept (right_after s left m ns)
  unfolding right_after
  right_after_kept left zero ns room side l few =
      record {
        settled =
            record {
              symbol_count = kept.settled.symbol_count;
              arity = kept.settled.arity;
              sides =
                  each_and_one_more (RuleKept s.arities) s.rules (record { left = left; right = tree s.arities ns }) kept.settled.sides
                  (record { left = side; right = side_whole_lem s.arities ns l few });
            };
        stage = simp length-append (omega arith);
      }
  right_after_kept left (suc m) ns room side l few =
      record { settled = kept.settled; stage = (room, record { filled = l; some_missing_lem = omega arith; few = few }, side) }

  node_kept :
      (stage : Stage) (this : Node) → StageKept s.arities s.rules stage → NodeOver s.arities (λ x. x ≤ 15) this →
      (side_of stage).nodes < 10 → Kept (node_at stage s this)
  unfolding node_at side_of
  node_kept before_rules this k ok few = kept
  node_kept (in_left m ns) this k ok few =
      left_after_kept (pred m + arity_of s.arities this) (ns ++ (this ∷ [])) k.0 (leaves_next m k.1.some_missing_lem k.1.filled ok)
      (simp length-append (omega arith))
  node_kept (in_right l m ns) this k ok few =
      right_after_kept l (pred m + arity_of s.arities this) (ns ++ (this ∷ [])) k.0 k.2 (leaves_next m k.1.some_missing_lem k.1.filled ok)
      (simp length-append (omega arith))
  node_kept rule_whole this k ok few = kept

  -- Symbols come before any rule.
  symbol_kept : (body : List ℕ) → T (no_rule_yet (side_of s.stage).stage) → get_or body 0 0 ≤ 6 → length s.arities < 16 → Kept (next symbol s body)
  unfolding next no_rule_yet side_of no_side
  symbol_kept body before small room =
      let b = get_or body 0 0 in
      let none : (s.rules ≡ []) × StageKept (s.arities ++ (b ∷ [])) s.rules s.stage = go s.stage before kept.stage in
      record {
        settled =
            record {
              symbol_count = simp length-append (omega arith);
              arity = each_and_one_more (λ a. a ≤ 6) s.arities b kept.settled.arity small;
              sides = λ r m. absurd (Memᴰ.not-nil (subst (λ (l : List Rule). Memᴰ r l) none.0 m));
            };
        stage = none.1;
      }
    where
      go :
          (stage : Stage) → T (no_rule_yet (side_of stage).stage) → StageKept s.arities s.rules stage →
          (s.rules ≡ []) × StageKept (s.arities ++ (get_or body 0 0 ∷ [])) s.rules stage
      go before_rules before k = (k, k)
      go (in_left m ns) before k = absurd before
      go (in_right l m ns) before k = absurd before
      go rule_whole before k = absurd before

  next_kept : (k : ℕ) (body : List ℕ) → Passed k body (side_of s.stage) (length s.arities) (length s.rules) → Kept (next (kind_of k) s body)
  unfolding allowed body_fits room_left next body_length body_lengths
  next_kept k body tests =
      let byte : (n : ℕ) → k ≡ n → body_length n ≡ 1 → 0 < length body = λ n is one. omega (arith, tests.whole, ap body_length is) in
      by_kind
      (λ (kind : Kind).
      T (allowed kind (side_of s.stage).stage) → (0 < length body → T (body_fits kind (length s.arities) (get_or body 0 0))) →
      T (room_left kind (length s.arities) (length s.rules) (side_of s.stage).nodes) → Kept (next kind s body))
      k
      (λ u here fits room. kept)
      (λ is here fits room. symbol_kept body here (leb→le (get_or body 0 0) 6 (fits (byte 1 is refl))) (ltb→lt (length s.arities) 16 room))
      (λ is here fits room. record { settled = kept.settled; stage = (ltb→lt (length s.rules) 32 room, opened s.arities) })
      (λ is here fits room.
      node_kept s.stage (symbolic (get_or body 0 0)) kept.stage (declared (ltb→lt (get_or body 0 0) (length s.arities) (fits (byte 3 is refl))))
      (ltb→lt (side_of s.stage).nodes 10 room))
      (λ is here fits room.
      node_kept s.stage (variable (get_or body 0 0)) kept.stage (standing (leb→le (get_or body 0 0) 15 (fits (byte 4 is refl))))
      (ltb→lt (side_of s.stage).nodes 10 room))
      (λ is here fits room. kept)
      tests.here tests.fits tests.room

  pub record_kept : (len p k : ℕ) (body : List ℕ) (s' : State) → record_at len s p k body ≡ given s' → Kept s'
  unfolding record_at
  record_kept len p k body s' e =
      let ((t, taken), same) = then_given _ _ _ e in
      subst (λ (t : State). Kept t) (cc same) (next_kept k body (passed len p k body (side_of s.stage) (length s.arities) (length s.rules) taken))

  rule_count_lem : (stage : Stage) → StageKept s.arities s.rules stage → length s.rules ≤ 32
  rule_count_lem before_rules k = rw k (omega arith)
  rule_count_lem (in_left m ns) k = omega arith
  rule_count_lem (in_right l m ns) k = omega arith
  rule_count_lem rule_whole k = k

  kept_within : WithinLimits (record { arities = s.arities; rules = s.rules })
  unfolding symbols
  kept_within =
      record {
        symbol_count = kept.settled.symbol_count;
        arity = kept.settled.arity;
        rule_count = rule_count_lem s.stage kept.stage;
        left = λ r m. (kept.settled.sides r m).left;
        right = λ r m. (kept.settled.sides r m).right;
      }

ended_within : (len : ℕ) (s : State) (p : ℕ) (book : Book) → Kept s → ended len s p ≡ given book → WithinLimits book
unfolding ended
ended_within len s p book kept e =
    let ((t, none), same) = then_given _ _ _ e in
    subst (λ (b : Book). WithinLimits b) (cc same) (kept_within s kept)

-- From a state that keeps to it, what is read keeps to the limits.
from_kept : (fuel len : ℕ) (s : State) (p : ℕ) (bytes : List ℕ) (book : Book) → Kept s → read_from fuel len s p bytes ≡ given book → WithinLimits book
unfolding read_from
from_kept zero len s p bytes book kept e = absurd (refused_not_given (BookEnded len) book e)
from_kept (suc fuel) len s p [] book kept e = absurd (refused_not_given (BookEnded len) book e)
from_kept (suc fuel) len s p (k ∷ bytes) book kept e =
    let (s', taken, rest) = bind_given _ _ _ e in
    let kept' : Kept s' = record_kept s kept len p k (take (body_length k) bytes) s' taken in
    either_given (eqb k 5) _ _ book
    (λ is-end. ended_within len s' (p + 1 + body_length k) book kept')
    (λ no_end. from_kept fuel len s' (p + 1 + body_length k) (drop (body_length k) bytes) book kept')
    rest

pub start_kept : Kept start
unfolding start
start_kept =
    record {
      settled = record { symbol_count = omega arith; arity = λ a m. absurd (Memᴰ.not-nil m); sides = λ r m. absurd (Memᴰ.not-nil m) };
      stage = refl;
    }

pub read_within_limits : (bytes : List ℕ) (book : Book) → read_book bytes ≡ given book → WithinLimits book
unfolding read_book
read_within_limits bytes book e = from_kept (length bytes) (length bytes) start 0 bytes book start_kept (told_given _ _ _ e)
