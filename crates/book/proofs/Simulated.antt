-- The machine over places simulates the machine over trees: what the reader holds matches the trees' state, and every record that both
-- take keeps it so. Assumes nothing.
use Prim.Native.Nat.{ℕ, zero, suc, ◌+◌, pred, ◌≤◌, ◌<◌}
use mathlib.Core.List.{List, [], ◌∷◌, ◌++◌}
use mathlib.Core.Path.{◌≡◌, refl, sym, ap, ap₂, subst, ◌∙◌}
use native.Mathlib.Omega.{arith}
use lib.Dec.{T, ltb→lt}
use lib.ListN.{length, get_or, drop, length-append}
use lib.Seq.{get_or-set_same, get_or-take}
use Rattle.term.specs.Tables.{Kind, symbol, rule, kind_of, body_length, body_lengths}
use Rattle.term.specs.Term.{Term}
use Rattle.term.specs.Prefix.{Node, symbolic, variable, arity_of, tree, tree_at}
use Rattle.term.proofs.Prefix.{NodeOver, declared, standing, node_bytes}
use Rattle.book.specs.Book.{Rule}
use Rattle.book.specs.Checks.{body_at, known, allowed, body_fits, room_left}
use Rattle.book.specs.Entries.{nowhere, places_of, with_symbol, with_left, with_right}
use Rattle.book.specs.Sides.{side_open, no_rule_yet, left_open, no_side, opened, with_node}
use Rattle.book.specs.Reading as trees
use Rattle.book.specs.Reading.{Stage, before_rules, in_left, in_right, rule_whole, State, side_of}
use Rattle.book.specs.Placed as places
use Rattle.book.specs.Placed.{side_whole, side_after, behind_node, node_taken}
use Rattle.book.specs.Placed.{Reader}
use Rattle.book.specs.Meaning.{arities_of}
use Rattle.book.specs.declared.Book.{Book as PlacedBook}
use Rattle.book.specs.declared.RulePlaces.{RulePlaces}
use Rattle.book.specs.declared.sides.Side.{Side}
use Rattle.book.specs.declared.sides.Stage.TheVariants.{InLeft, InRight}
use Rattle.book.proofs.Bodies.{body_whole, body_byte}
use Rattle.book.proofs.Tests.{Passed}
use Rattle.book.proofs.KindNumbers.{by_kind}
use Rattle.book.proofs.SideBytes.{AnyVariable, SoFar, none_so_far, two_bytes, one_more, SideAt, side_whole_lem}
use Rattle.book.proofs.Matched.{Matched, nothing_matched, left_matched, right_matched, rule_matched, symbol_matched}

-- A side that is open, from u on.
record OpenSide (bytes arities : List ℕ) (b : PlacedBook) (u missing : ℕ) (nodes : List Node) (p : ℕ) : Type 0 where
  room : b.rules < 32
  some_missing_lem : 0 < missing
  so_far : SoFar bytes arities u missing nodes p

-- The left side of the rule that is being read.
record LeftWhole (bytes arities : List ℕ) (b : PlacedBook) (left : Term) : Type 0 where
  stands : SideAt bytes arities (places_of b b.rules).left.at (places_of b b.rules).left.nodes
  is : tree_at bytes arities (places_of b b.rules).left.at (places_of b b.rules).left.nodes ≡ left

-- What stands in the bytes at each stage.
abbrev StageMatched : (bytes arities : List ℕ) → List Rule → PlacedBook → (p : ℕ) → Stage → Type 0
StageMatched bytes arities rules b p before_rules = rules ≡ []
StageMatched bytes arities rules b p (in_left m ns) = OpenSide bytes arities b (places_of b b.rules).left.at m ns p
StageMatched bytes arities rules b p (in_right l m ns) = OpenSide bytes arities b (places_of b b.rules).right.at m ns p × LeftWhole bytes arities b l
StageMatched bytes arities rules b p rule_whole = Unit {0}

pub record Simulated (bytes : List ℕ) (s : State) (q : Reader) (p : ℕ) : Type 0 where
  pub matched : Matched bytes s.arities s.rules q.book
  pub side : q.side ≡ side_of s.stage
  stage : StageMatched bytes s.arities s.rules q.book p s.stage

pub start_simulated : (bytes : List ℕ) → Simulated bytes trees.start places.start 0
unfolding trees.start places.start side_of
start_simulated bytes = record { matched = nothing_matched bytes; side = refl; stage = refl }

module _ {bytes : List ℕ} {s : State} {q : Reader} {p : ℕ} (sim : Simulated bytes s q p) where
  -- A symbol.
  symbol_simulated : (e : ℕ) (body : List ℕ) → T (no_rule_yet (side_of s.stage).stage) → length s.arities < 16 → Simulated bytes (trees.next symbol s body) (places.next symbol q e body) e
  unfolding trees.next places.next with_symbol no_rule_yet side_of no_side
  symbol_simulated e body before room = go s.stage before sim.side sim.stage
    where
      b : ℕ
      b = get_or body 0 0

      go :
          (stage : Stage) → T (no_rule_yet (side_of stage).stage) → q.side ≡ side_of stage → StageMatched bytes s.arities s.rules q.book p stage →
          Simulated bytes (record { arities = s.arities ++ (b ∷ []); rules = s.rules; stage = stage }) (record { book = with_symbol q.book b; side = q.side }) e
      go before_rules before side k =
          record {
            matched =
                subst (λ (rules : List Rule). Matched bytes (s.arities ++ (b ∷ [])) rules (with_symbol q.book b)) (sym k)
                (symbol_matched b (subst (λ (rules : List Rule). Matched bytes s.arities rules q.book) k sim.matched)
                (omega (arith, sim.matched.symbol_count)));
            side = side;
            stage = k;
          }
      go (in_left m ns) before side k = absurd before
      go (in_right l m ns) before side k = absurd before
      go rule_whole before side k = absurd before

  -- The start of a rule, whose left side opens behind it.
  rule_simulated : (e : ℕ) (body : List ℕ) → length s.rules < 32 → Simulated bytes (trees.next rule s body) (places.next rule q e body) e
  unfolding trees.next places.next with_left side_of opened
  rule_simulated e body room =
      let at : (places_of (with_left q.book e) q.book.rules).left.at ≡ e =
      ap (λ (its : RulePlaces). its.left.at) (get_or-set_same q.book.places q.book.rules _ nowhere (omega (arith, sim.matched.sized.places, sim.matched.rule_count)))
      in
      record {
        matched = left_matched sim.matched e;
        side = refl;
        stage =
            record {
              room = omega (arith, sim.matched.rule_count);
              some_missing_lem = omega arith;
              so_far = subst (λ (u : ℕ). SoFar bytes s.arities u 1 [] e) (sym at) (none_so_far bytes s.arities e);
            };
      }

  -- The left side behind a node of it, from which m subterms are missing then.
  left_simulated :
      (e m : ℕ) (ns : List Node) → q.book.rules < 32 → SoFar bytes s.arities (places_of q.book q.book.rules).left.at m ns e →
      Simulated bytes (trees.left_after s m ns) (side_after q.book e InLeft m (length ns)) e
  unfolding trees.left_after side_after side_whole left_open with_right side_of opened
  left_simulated e zero ns room so =
      let its : places_of (with_right q.book (length ns) e) q.book.rules
      ≡ record { left = record { at = (places_of q.book q.book.rules).left.at; nodes = length ns }; right = record { at = e; nodes = (places_of q.book q.book.rules).right.nodes } } =
      get_or-set_same q.book.places q.book.rules _ nowhere (omega (arith, sim.matched.sized.places))
      in
      let at : (places_of (with_right q.book (length ns) e) q.book.rules).right.at ≡ e = ap (λ (p : RulePlaces). p.right.at) its in
      let stood = side_whole_lem so in
      record {
        matched = right_matched sim.matched (length ns) e;
        side = refl;
        stage = (
          record { room = room; some_missing_lem = omega arith; so_far = subst (λ (u : ℕ). SoFar bytes s.arities u 1 [] e) (sym at) (none_so_far bytes s.arities e) },
          record {
            stands = subst (λ (p : RulePlaces). SideAt bytes s.arities p.left.at p.left.nodes) (sym its) stood.1;
            is = ap (λ (p : RulePlaces). tree_at bytes s.arities p.left.at p.left.nodes) its ∙ stood.0;
          },
        );
      }
  left_simulated e (suc m) ns room so =
      record { matched = sim.matched; side = refl; stage = record { room = room; some_missing_lem = omega arith; so_far = so } }

  -- The right side in the same way, with the left side of its rule.
  right_simulated :
      (left : Term) (e m : ℕ) (ns : List Node) → q.book.rules < 32 → LeftWhole bytes s.arities q.book left →
      SoFar bytes s.arities (places_of q.book q.book.rules).right.at m ns e →
      Simulated bytes (trees.right_after s left m ns) (side_after q.book e InRight m (length ns)) e
  unfolding trees.right_after side_after side_whole left_open side_of no_side
  right_simulated left e zero ns room lw so =
      let u = (places_of q.book q.book.rules).right.at in
      let stood = side_whole_lem so in
      record {
        matched =
            rule_matched sim.matched (length ns) (record { left = left; right = tree s.arities ns }) room
            (record { left = lw.stands; right = stood.1 })
            (ap₂ {C = Rule} (λ (l r : Term). record { left = l; right = r }) lw.is stood.0);
        side = refl;
        stage = tt;
      }
  right_simulated left e (suc m) ns room lw so =
      record { matched = sim.matched; side = refl; stage = (record { room = room; some_missing_lem = omega arith; so_far = so }, lw) }

  -- A node has the same arity in the array as in the list.
  arity_same : (this : Node) → NodeOver s.arities AnyVariable this → arity_of q.book.arities this ≡ arity_of s.arities this
  unfolding arity_of arities_of
  arity_same (symbolic f) (declared d) =
      sym (get_or-take q.book.symbols q.book.arities f 0 (omega (arith, sim.matched.symbol_count))) ∙ ap (λ (l : List ℕ). get_or l f 0) sim.matched.declared
  arity_same (variable x) ok = refl

  -- The reader behind a node, in the numbers of the trees' machine.
  taken_as :
      (e : ℕ) (this : Node) → NodeOver s.arities AnyVariable this → (side : Side) (ns : List Node) → q.side ≡ side → side.nodes ≡ length ns →
      side_after q.book e side.stage (pred side.missing + arity_of s.arities this) (length (ns ++ (this ∷ []))) ≡ node_taken q e this
  unfolding node_taken behind_node with_node
  taken_as e this ok side ns same many =
      ap (λ (n : ℕ). side_after q.book e side.stage (pred side.missing + arity_of s.arities this) n) (length-append ns (this ∷ []) ∙ ap (λ (n : ℕ). n + 1) (sym many))
      ∙ ap₂ (λ (t : Side) (a : ℕ). let w = with_node t a in side_after q.book e w.stage w.missing w.nodes) (sym same) (sym (arity_same this ok))

  -- A node of the side that is open.
  node_simulated :
      (e : ℕ) (this : Node) → NodeOver s.arities AnyVariable this → drop p bytes ≡ node_bytes this ++ drop e bytes → T (side_open (side_of s.stage).stage) →
      Simulated bytes (trees.node_at s.stage s this) (node_taken q e this) e
  unfolding trees.node_at side_open side_of no_side
  node_simulated e this ok its o = go s.stage sim.side sim.stage o
    where
      go :
          (stage : Stage) → q.side ≡ side_of stage → StageMatched bytes s.arities s.rules q.book p stage → T (side_open (side_of stage).stage) →
          Simulated bytes (trees.node_at stage s this) (node_taken q e this) e
      go before_rules side k o = absurd o
      go (in_left m ns) side k o =
          subst (λ (r : Reader). Simulated bytes (trees.node_at (in_left m ns) s this) r e) (taken_as e this ok (side_of (in_left m ns)) ns side refl)
          (left_simulated e (pred m + arity_of s.arities this) (ns ++ (this ∷ [])) k.room (one_more e this k.so_far k.some_missing_lem ok its))
      go (in_right l m ns) side k o =
          subst (λ (r : Reader). Simulated bytes (trees.node_at (in_right l m ns) s this) r e) (taken_as e this ok (side_of (in_right l m ns)) ns side refl)
          (right_simulated l e (pred m + arity_of s.arities this) (ns ++ (this ∷ [])) k.0.room k.1 (one_more e this k.0.so_far k.0.some_missing_lem ok its))
      go rule_whole side k o = absurd o

  -- The bytes of a node's record.
  node_bytes_lem :
      (n : ℕ) → get_or bytes p 0 ≡ n → body_length (get_or bytes p 0) ≡ 1 → p + 1 + body_length (get_or bytes p 0) ≤ length bytes →
      drop p bytes ≡ n ∷ get_or (body_at bytes p) 0 0 ∷ drop (p + 1 + body_length (get_or bytes p 0)) bytes
  node_bytes_lem n is one within =
      let e : p + 2 ≡ p + 1 + body_length (get_or bytes p 0) = omega arith in
      two_bytes bytes p (omega arith)
      ∙ ap (λ (u : ℕ). get_or bytes p 0 ∷ get_or bytes (p + 1) 0 ∷ drop u bytes) e
      ∙ ap₂ (λ (i j : ℕ). i ∷ j ∷ drop (p + 1 + body_length (get_or bytes p 0)) bytes) is (sym (body_byte bytes p one))

  -- Each record that passes its tests, but the end.
  pub next_simulated :
      p < length bytes → (get_or bytes p 0 ≡ 5 → ⊥) →
      Passed (get_or bytes p 0) (body_at bytes p) (side_of s.stage) (length s.arities) (length s.rules) →
      let k = get_or bytes p 0 in
      let e = p + 1 + body_length k in
      Simulated bytes (trees.next (kind_of k) s (body_at bytes p)) (places.next (kind_of k) q e (body_at bytes p)) e
  unfolding known allowed body_fits room_left trees.next places.next body_length body_lengths node_bytes
  next_simulated here no_end tests =
      let k = get_or bytes p 0 in
      let body = body_at bytes p in
      let e = p + 1 + body_length k in
      let within : e ≤ length bytes = body_whole bytes p here tests.whole in
      let byte : body_length k ≡ 1 → 0 < length body = λ one. omega (arith, tests.whole) in
      by_kind
      (λ (kind : Kind).
      T (known kind) → T (allowed kind (side_of s.stage).stage) → (0 < length body → T (body_fits kind (length s.arities) (get_or body 0 0))) →
      T (room_left kind (length s.arities) (length s.rules) (side_of s.stage).nodes) → Simulated bytes (trees.next kind s body) (places.next kind q e body) e)
      k
      (λ u kn. absurd kn)
      (λ is kn al fi ro. symbol_simulated e body al (ltb→lt (length s.arities) 16 ro))
      (λ is kn al fi ro. rule_simulated e body (ltb→lt (length s.rules) 32 ro))
      (λ is kn al fi ro.
      node_simulated e (symbolic (get_or body 0 0)) (declared (ltb→lt (get_or body 0 0) (length s.arities) (fi (byte (ap body_length is)))))
      (node_bytes_lem 3 is (ap body_length is) within) al)
      (λ is kn al fi ro. node_simulated e (variable (get_or body 0 0)) (standing tt) (node_bytes_lem 4 is (ap body_length is) within) al)
      (λ is. absurd (no_end is))
      tests.is_known tests.here tests.fits tests.room
