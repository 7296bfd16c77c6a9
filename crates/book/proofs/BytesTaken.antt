-- The bytes of a book within the limits are read, to that book. Record by record the reading takes them: the symbols, each rule with its two
-- sides, the end. Assumes nothing.
use Prim.Native.Nat.{ℕ, zero, suc, ◌+◌, ◌-◌, ◌*◌, ◌≤◌, ◌<◌}
use mathlib.Core.Bool.{Bool, true, false, not, ◌&&◌}
use mathlib.Core.List.{List, [], ◌∷◌, ◌++◌, append_assoc, append-nil, Memᴰ}
use mathlib.Core.Path.{◌≡◌, refl, sym, ap, ap₂, subst, ◌∙◌}
use native.Mathlib.Omega.{arith}
use lib.Dec.{T, eqb, ltb, eqb→eq, ltb→lt, le→leb, lt→ltb}
use lib.ListN.{length, get_or, take, drop, length-append}
use lib.Seq.{take_at, drop_at}
use Rattle.reply.specs.Reply.{Attempt, given, unless, told_as, ◌>>◌, ◌>>=◌}
use Rattle.reply.specs.Refusals.{numbered}
use Rattle.reply.specs.declared.Refusal.{Refusal as Named}
use Rattle.reply.specs.declared.Refusal.TheVariants.{TooMany}
use Rattle.reply.proofs.Given.{given_bind, given_unless}
use Rattle.reply.proofs.Tests.{and_left, and_right}
use Rattle.term.specs.Tables.{kind_of, body_length, body_lengths}
use Rattle.term.specs.Term.{Term, Args, var, app, nil, cons, size, sizes, count, listed, over, overs}
use Rattle.term.specs.Replacement.{Occurs, OccursIn, it, under, first, later}
use Rattle.term.specs.Prefix.{Node, symbolic, variable, arity_of, prefix, prefixes, onto, trees, tree}
use Rattle.term.proofs.PrefixAt.{prefix_length}
use Rattle.book.specs.Book.{Book, Rule, symbols}
use Rattle.book.specs.Bytes.{symbols_bytes, rule_bytes, rules_bytes, book_bytes}
use Rattle.book.specs.Limits.{SideWithinLimits, WithinLimits}
use Rattle.book.specs.Checks.{known, allowed, body_fits, body_checked, room_left, checked, nothing_more}
use Rattle.book.specs.Sides.{side_open, no_rule_yet, no_side}
use Rattle.book.specs.declared.sides.Side.{Side}
use Rattle.book.specs.declared.sides.Stage.{Stage as SideStage}
use Rattle.book.specs.declared.sides.Stage.TheVariants.{BeforeRules, InLeft, InRight}
use Rattle.book.specs.Reading.{before_rules, rule_whole, State, side_of, left_after, right_after, node_at, next, record_at, ended, read_from, start, read_book}
use Rattle.term.proofs.TreeBack.{own_arguments}

-- The nodes of a term in prefix order ..
unfoldable mutual
  nodes_of : Term → List Node
  nodes_of (var x) = variable x ∷ []
  nodes_of (app f ts) = symbolic f ∷ nodes_of_all ts

  nodes_of_all : Args → List Node
  nodes_of_all nil = []
  nodes_of_all (cons t ts) = nodes_of t ++ nodes_of_all ts

mutual
  unfolding nodes_of size

  nodes_count : (t : Term) → length (nodes_of t) ≡ size t
  nodes_count (var x) = refl
  nodes_count (app f ts) = ap suc (all_count ts)

  all_count : (ts : Args) → length (nodes_of_all ts) ≡ sizes ts
  all_count nil = refl
  all_count (cons t ts) = length-append (nodes_of t) (nodes_of_all ts) ∙ ap₂ ◌+◌ (nodes_count t) (all_count ts)

-- .. make that term again.
module _ (arities : List ℕ) where
  root_of_lem : (f : ℕ) (ts : Args) → T (over arities (app f ts)) → (f < length arities) × (get_or arities f 0 ≡ count ts) × T (overs arities ts)
  unfolding over
  root_of_lem f ts o =
      let root : T (ltb f (length arities) && eqb (get_or arities f 0) (count ts)) = and_left (ltb f (length arities) && eqb (get_or arities f 0) (count ts)) (overs arities ts) o in (
        ltb→lt f (length arities) (and_left (ltb f (length arities)) (eqb (get_or arities f 0) (count ts)) root),
        eqb→eq (get_or arities f 0) (count ts) (and_right (ltb f (length arities)) (eqb (get_or arities f 0) (count ts)) root),
        and_right (ltb f (length arities) && eqb (get_or arities f 0) (count ts)) (overs arities ts) o,
      )

  mutual
    unfolding nodes_of trees onto listed over

    term_back : (t : Term) → T (over arities t) → (more : List Node) → trees arities (nodes_of t ++ more) ≡ t ∷ trees arities more
    term_back (var x) o more = refl
    term_back (app f ts) o more =
        let (declared, many, inside) = root_of_lem f ts o in
        ap (onto arities (symbolic f)) (terms_back ts inside more) ∙ own_arguments arities f ts (trees arities more) (sym many)

    terms_back : (ts : Args) → T (overs arities ts) → (more : List Node) → trees arities (nodes_of_all ts ++ more) ≡ listed ts ++ trees arities more
    terms_back nil o more = refl
    terms_back (cons t ts) o more =
        ap (trees arities) (append_assoc (nodes_of t) (nodes_of_all ts) more)
        ∙ term_back t (and_left (over arities t) (overs arities ts) o) (nodes_of_all ts ++ more)
        ∙ ap (λ (l : List Term). t ∷ l) (terms_back ts (and_right (over arities t) (overs arities ts) o) more)

  tree_of_nodes : (t : Term) → T (over arities t) → tree arities (nodes_of t) ≡ t
  unfolding tree trees
  tree_of_nodes t o =
      ap (λ (ns : List Node). get_or (trees arities ns) 0 (var 0)) (sym (append-nil (nodes_of t))) ∙ ap (λ (ts : List Term). get_or ts 0 (var 0)) (term_back t o [])

test_passed : {R : Type 0} (test : Bool) (r : R) → T test → unless test r ≡ given tt
unfolding unless
test_passed true r h = refl
test_passed false r h = absurd h

-- One record, whose tests hold.
module _ (len : ℕ) where
  record_passed :
      (fuel : ℕ) (s : State) (p k : ℕ) (body behind : List ℕ) → length body ≡ body_length k → eqb k 5 ≡ false →
      checked len p k body (side_of s.stage) (length s.arities) (length s.rules) ≡ given tt →
      read_from (suc fuel) len s p (k ∷ (body ++ behind)) ≡ read_from fuel len (next (kind_of k) s body) (p + 1 + body_length k) behind
  unfolding read_from record_at ◌>>◌
  record_passed fuel s p k body behind long no_end tests =
      let its : take (body_length k) (body ++ behind) ≡ body = take_at body behind (body_length k) long in
      let rest : drop (body_length k) (body ++ behind) ≡ behind = drop_at body behind (body_length k) long in
      let taken : record_at len s p k (take (body_length k) (body ++ behind)) ≡ given (next (kind_of k) s body) =
      ap (record_at len s p k) its ∙ ap (λ (x : Attempt Named (Unit {0})). ◌>>◌ x (given (next (kind_of k) s body))) tests
      in
      given_bind _ _ (next (kind_of k) s body) taken
      ∙ not_the_end (eqb k 5) no_end
      ∙ ap (read_from fuel len (next (kind_of k) s body) (p + 1 + body_length k)) rest
    where
      not_the_end :
          (b : Bool) → b ≡ false →
          ◌≡◌ {A = Attempt Named Book}
          (elim b [
            | true ↦ ended len (next (kind_of k) s body) (p + 1 + body_length k)
            | false ↦ read_from fuel len (next (kind_of k) s body) (p + 1 + body_length k) (drop (body_length k) (body ++ behind))
          ])
          (read_from fuel len (next (kind_of k) s body) (p + 1 + body_length k) (drop (body_length k) (body ++ behind)))
      not_the_end true e = let z : ◌≡◌ {A = ℕ} 0 1 = cc in absurd (omega arith)
      not_the_end false e = refl

  -- The five tests, one behind the other.
  tests_hold :
      (p k : ℕ) (body : List ℕ) (side : Side) (n r : ℕ) → T (known (kind_of k)) → length body ≡ body_length k → T (allowed (kind_of k) side.stage) →
      body_checked (kind_of k) n (p + 1) body ≡ given tt → T (room_left (kind_of k) n r side.nodes) → checked len p k body side n r ≡ given tt
  unfolding checked ◌>>◌
  tests_hold p k body side n r is_known long here fits room =
      given_unless _ _ _ is_known
      ∙ given_unless _ _ _ (le→leb (body_length k) (length body) (omega arith))
      ∙ given_unless _ _ _ here
      ∙ ap (λ (x : Attempt Named (Unit {0})). ◌>>◌ x (unless (room_left (kind_of k) n r side.nodes) (TooMany p))) fits
      ∙ test_passed (room_left (kind_of k) n r side.nodes) (TooMany p) room

  byte_fits : (k n p b : ℕ) → T (body_fits (kind_of k) n b) → body_checked (kind_of k) n p (b ∷ []) ≡ given tt
  unfolding body_checked
  byte_fits k n p b fits = given_unless _ _ _ fits

  -- Where no side is open: a symbol before the rules, a rule's start, the end.
  symbol_passed :
      (fuel : ℕ) (arities : List ℕ) (p a : ℕ) (behind : List ℕ) → a ≤ 6 → length arities < 16 →
      read_from (suc fuel) len (record { arities = arities; rules = []; stage = before_rules }) p (1 ∷ a ∷ behind)
      ≡ read_from fuel len (record { arities = arities ++ (a ∷ []); rules = []; stage = before_rules }) (p + 2) behind
  unfolding known kind_of allowed no_rule_yet side_of no_side body_fits room_left body_length body_lengths next
  symbol_passed fuel arities p a behind small room =
      record_passed fuel (record { arities = arities; rules = []; stage = before_rules }) p 1 (a ∷ []) behind refl refl
      (tests_hold p 1 (a ∷ []) (no_side BeforeRules) (length arities) 0 tt refl tt (byte_fits 1 (length arities) (p + 1) a (le→leb a 6 small)) (lt→ltb (length arities) 16 room))
      ∙ ap (λ (q : ℕ). read_from fuel len (record { arities = arities ++ (a ∷ []); rules = []; stage = before_rules }) q behind) (omega arith)

  rule_passed :
      (fuel : ℕ) (s : State) (p : ℕ) (behind : List ℕ) → T (not (side_open (side_of s.stage).stage)) → length s.rules < 32 →
      read_from (suc fuel) len s p (2 ∷ behind) ≡ read_from fuel len (left_after s 1 []) (p + 1) behind
  unfolding known kind_of allowed body_checked room_left body_length body_lengths next left_after
  rule_passed fuel s p behind none_open room =
      record_passed fuel s p 2 [] behind refl refl
      (tests_hold p 2 [] (side_of s.stage) (length s.arities) (length s.rules) tt refl none_open refl (lt→ltb (length s.rules) 32 room))
      ∙ ap (λ (q : ℕ). read_from fuel len (left_after s 1 []) q behind) (omega arith)

  end_passed :
      (fuel : ℕ) (s : State) (p : ℕ) → T (not (side_open (side_of s.stage).stage)) → p + 1 ≡ len →
      read_from (suc fuel) len s p (5 ∷ []) ≡ given (record { arities = s.arities; rules = s.rules })
  unfolding read_from record_at known kind_of allowed body_checked room_left body_length body_lengths next ended nothing_more ◌>>◌ ◌>>=◌
  end_passed fuel s p none_open last =
      ap (λ (x : Attempt Named (Unit {0})). ◌>>=◌ (◌>>◌ x (given s)) (λ s'. ended len s' (p + 1 + 0)))
      (tests_hold p 5 [] (side_of s.stage) (length s.arities) (length s.rules) tt refl none_open refl tt)
      ∙ given_unless _ _ _ (le→leb len (p + 1 + 0) (omega arith))

  -- A side while its nodes come: so many subterms are missing behind these nodes.
  record Coming (arities : List ℕ) (after : (missing : ℕ) → List Node → State) : Type 0 where
    stage : SideStage
    is_open : T (side_open stage)
    symbols_of : (m : ℕ) (ns : List Node) → (after (suc m) ns).arities ≡ arities
    side_now : (m : ℕ) (ns : List Node) → side_of (after (suc m) ns).stage ≡ record { stage = stage; missing = suc m; nodes = length ns }
    with_node : (m : ℕ) (ns : List Node) (this : Node) → node_at (after (suc m) ns).stage (after (suc m) ns) this ≡ after (m + arity_of arities this) (ns ++ (this ∷ []))

  module _ (arities : List ℕ) (after : (missing : ℕ) → List Node → State) (coming : Coming arities after) where
    -- A node is taken: of a declared symbol, or of a variable up to 15.
    node_passed :
        (fuel m p k b : ℕ) (this : Node) (ns : List Node) (behind : List ℕ) → eqb k 5 ≡ false → body_length k ≡ 1 → T (known (kind_of k)) →
        (allowed (kind_of k) coming.stage ≡ side_open coming.stage) → T (body_fits (kind_of k) (length arities) b) →
        ((n r nodes : ℕ) → room_left (kind_of k) n r nodes ≡ ltb nodes 10) → ((s : State) → next (kind_of k) s (b ∷ []) ≡ node_at s.stage s this) → length ns < 10 →
        read_from (suc fuel) len (after (suc m) ns) p (k ∷ b ∷ behind) ≡ read_from fuel len (after (m + arity_of arities this) (ns ++ (this ∷ []))) (p + 2) behind
    node_passed fuel m p k b this ns behind no_end one is_known allows fits room-is next-is room =
        let s : State = after (suc m) ns in
        let side : Side = record { stage = coming.stage; missing = suc m; nodes = length ns } in
        let tests : checked len p k (b ∷ []) side (length arities) (length s.rules) ≡ given tt =
        tests_hold p k (b ∷ []) side (length arities) (length s.rules) is_known (sym one) (subst T (sym allows) coming.is_open)
        (byte_fits k (length arities) (p + 1) b fits) (subst T (sym (room-is (length arities) (length s.rules) (length ns))) (lt→ltb (length ns) 10 room))
        in
        record_passed fuel s p k (b ∷ []) behind (sym one) no_end
        (ap₂ (λ (d : Side) (l : List ℕ). checked len p k (b ∷ []) d (length l) (length s.rules)) (coming.side_now m ns) (coming.symbols_of m ns) ∙ tests)
        ∙ ap₂ (λ (z : State) (q : ℕ). read_from fuel len z q behind) (next-is s ∙ coming.with_node m ns this) (omega arith)

    symbol_node_passed :
        (fuel m p f : ℕ) (ns : List Node) (behind : List ℕ) → f < length arities → length ns < 10 →
        read_from (suc fuel) len (after (suc m) ns) p (3 ∷ f ∷ behind) ≡ read_from fuel len (after (m + get_or arities f 0) (ns ++ (symbolic f ∷ []))) (p + 2) behind
    unfolding known kind_of allowed body_fits room_left body_length body_lengths next arity_of
    symbol_node_passed fuel m p f ns behind declared room =
        node_passed fuel m p 3 f (symbolic f) ns behind refl refl tt refl (lt→ltb f (length arities) declared) (λ n r nodes. refl) (λ s. refl) room

    variable_node_passed :
        (fuel m p x : ℕ) (ns : List Node) (behind : List ℕ) → x ≤ 15 → length ns < 10 →
        read_from (suc fuel) len (after (suc m) ns) p (4 ∷ x ∷ behind) ≡ read_from fuel len (after (m + 0) (ns ++ (variable x ∷ []))) (p + 2) behind
    unfolding known kind_of allowed body_fits room_left body_length body_lengths next arity_of
    variable_node_passed fuel m p x ns behind small room =
        node_passed fuel m p 4 x (variable x) ns behind refl refl tt refl (le→leb x 15 small) (λ n r nodes. refl) (λ s. refl) room

    -- The same reading, told otherwise.
    told_otherwise :
        {fuel fuel' m m' p p' : ℕ} {ns ns' : List Node} {bytes bytes' : List ℕ} → fuel ≡ fuel' → m ≡ m' → ns ≡ ns' → p ≡ p' → bytes ≡ bytes' →
        read_from fuel len (after m ns) p bytes ≡ read_from fuel' len (after m' ns') p' bytes'
    told_otherwise f m n p b = cc

    mutual
      unfolding size prefix nodes_of count over

      past_term :
          (t : Term) → T (over arities t) → ((x : ℕ) → Occurs x t → x ≤ 15) → (fuel m : ℕ) (ns : List Node) (p : ℕ) (behind : List ℕ) → length ns + size t ≤ 10 →
          read_from (size t + fuel) len (after (suc m) ns) p (prefix t ++ behind) ≡ read_from fuel len (after m (ns ++ nodes_of t)) (p + 2 * size t) behind
      past_term (var x) o small fuel m ns p behind few =
          told_otherwise (omega arith) refl refl refl refl
          ∙ variable_node_passed fuel m p x ns behind (small x it) (omega arith)
          ∙ told_otherwise refl (omega arith) refl (omega arith) refl
      past_term (app f ts) o small fuel m ns p behind few =
          let (declared, many, inside) = root_of_lem arities f ts o in
          let one : length (ns ++ (symbolic f ∷ [])) ≡ length ns + 1 = length-append ns (symbolic f ∷ []) in
          told_otherwise (omega arith) refl refl refl refl
          ∙ symbol_node_passed (sizes ts + fuel) m p f ns (prefixes ts ++ behind) declared (omega arith)
          ∙ told_otherwise refl (ap (λ (n : ℕ). m + n) many) refl refl refl
          ∙ past_terms ts inside (λ x h. small x (under h)) fuel m (ns ++ (symbolic f ∷ [])) (p + 2) behind (omega arith)
          ∙ told_otherwise refl refl (append_assoc ns (symbolic f ∷ []) (nodes_of_all ts)) (omega arith) refl

      past_terms :
          (ts : Args) → T (overs arities ts) → ((x : ℕ) → OccursIn x ts → x ≤ 15) → (fuel m : ℕ) (ns : List Node) (p : ℕ) (behind : List ℕ) → length ns + sizes ts ≤ 10 →
          read_from (sizes ts + fuel) len (after (m + count ts) ns) p (prefixes ts ++ behind) ≡ read_from fuel len (after m (ns ++ nodes_of_all ts)) (p + 2 * sizes ts) behind
      past_terms nil o small fuel m ns p behind few = told_otherwise (omega arith) (omega arith) (sym (append-nil ns)) (omega arith) refl
      past_terms (cons t ts) o small fuel m ns p behind few =
          told_otherwise (omega arith) (omega arith) refl refl (append_assoc (prefix t) (prefixes ts) behind)
          ∙ past_term t (and_left (over arities t) (overs arities ts) o) (λ x h. small x (first h)) (sizes ts + fuel) (m + count ts) ns p (prefixes ts ++ behind) (omega arith)
          ∙ past_terms ts (and_right (over arities t) (overs arities ts) o) (λ x h. small x (later h)) fuel m (ns ++ nodes_of t) (p + 2 * size t) behind
          (omega (arith, length-append ns (nodes_of t), nodes_count t))
          ∙ told_otherwise refl refl (append_assoc ns (nodes_of t) (nodes_of_all ts)) (omega arith) refl

  -- Both sides come so.
  left_coming : (s : State) → Coming s.arities (left_after s)
  unfolding left_after node_at side_of side_open
  left_coming s =
      record {
        stage = InLeft;
        is_open = tt;
        symbols_of = λ m ns. refl;
        side_now = λ m ns. refl;
        with_node = λ m ns this. again (m + arity_of s.arities this) m ns (ns ++ (this ∷ []));
      }
    where
      again : (m n : ℕ) (ns ms : List Node) → left_after (left_after s (suc n) ns) m ms ≡ left_after s m ms
      again zero n ns ms = refl
      again (suc m) n ns ms = refl

  right_coming : (s : State) (left : Term) → Coming s.arities (right_after s left)
  unfolding right_after node_at side_of side_open
  right_coming s left =
      record {
        stage = InRight;
        is_open = tt;
        symbols_of = λ m ns. refl;
        side_now = λ m ns. refl;
        with_node = λ m ns this. again (m + arity_of s.arities this) m ns (ns ++ (this ∷ []));
      }
    where
      again : (m n : ℕ) (ns ms : List Node) → right_after (right_after s left (suc n) ns) left m ms ≡ right_after s left m ms
      again zero n ns ms = refl
      again (suc m) n ns ms = refl

  -- A whole rule.
  rule_read :
      (fuel : ℕ) (s : State) (p : ℕ) (r : Rule) (behind : List ℕ) → T (not (side_open (side_of s.stage).stage)) → length s.rules < 32 →
      SideWithinLimits s.arities r.left → SideWithinLimits s.arities r.right →
      read_from (suc (size r.left + (size r.right + fuel))) len s p (rule_bytes r ++ behind)
      ≡ read_from fuel len (record { arities = s.arities; rules = s.rules ++ (r ∷ []); stage = rule_whole }) (p + 1 + 2 * size r.left + 2 * size r.right) behind
  unfolding rule_bytes left_after right_after
  rule_read fuel s p r behind none_open room l h =
      ap (λ (b : List ℕ). read_from (suc (size r.left + (size r.right + fuel))) len s p (2 ∷ b)) (append_assoc (prefix r.left) (prefix r.right) behind)
      ∙ rule_passed (size r.left + (size r.right + fuel)) s p (prefix r.left ++ (prefix r.right ++ behind)) none_open room
      ∙ past_term s.arities (left_after s) (left_coming s) r.left l.over_symbols l.variables (size r.right + fuel) 0 [] (p + 1)
      (prefix r.right ++ behind) (omega (arith, l.nodes))
      ∙ ap (λ (t : Term). read_from (size r.right + fuel) len (right_after s t 1 []) (p + 1 + 2 * size r.left) (prefix r.right ++ behind))
      (tree_of_nodes s.arities r.left l.over_symbols)
      ∙ past_term s.arities (right_after s r.left) (right_coming s r.left) r.right h.over_symbols h.variables fuel 0 []
      (p + 1 + 2 * size r.left) behind (omega (arith, h.nodes))
      ∙ ap (λ (t : Term). read_from fuel len (record { arities = s.arities; rules = s.rules ++ (record { left = r.left; right = t } ∷ []); stage = rule_whole }) (p + 1 + 2 * size r.left + 2 * size r.right) behind)
      (tree_of_nodes s.arities r.right h.over_symbols)

  -- All symbols.
  symbols_read :
      (arities before : List ℕ) (fuel p : ℕ) (behind : List ℕ) → ((a : ℕ) → Memᴰ a arities → a ≤ 6) → length before + length arities ≤ 16 →
      read_from (length arities + fuel) len (record { arities = before; rules = []; stage = before_rules }) p (symbols_bytes arities ++ behind)
      ≡ read_from fuel len (record { arities = before ++ arities; rules = []; stage = before_rules }) (p + 2 * length arities) behind
  unfolding symbols_bytes
  symbols_read [] before fuel p behind small few =
      ap₂ (λ (f : ℕ) (l : List ℕ). read_from f len (record { arities = l; rules = []; stage = before_rules }) p behind) (omega arith) (sym (append-nil before))
      ∙ ap (λ (q : ℕ). read_from fuel len (record { arities = before ++ []; rules = []; stage = before_rules }) q behind) (omega arith)
  symbols_read (a ∷ arities) before fuel p behind small few =
      ap (λ (f : ℕ). read_from f len (record { arities = before; rules = []; stage = before_rules }) p (1 ∷ a ∷ (symbols_bytes arities ++ behind))) (omega arith)
      ∙ symbol_passed (length arities + fuel) before p a (symbols_bytes arities ++ behind) (small a (Memᴰ.head refl)) (omega arith)
      ∙ symbols_read arities (before ++ (a ∷ [])) fuel (p + 2) behind (λ b m. small b (Memᴰ.tail m)) (omega (arith, length-append before (a ∷ [])))
      ∙ ap₂ (λ (l : List ℕ) (q : ℕ). read_from fuel len (record { arities = l; rules = []; stage = before_rules }) q behind)
      (append_assoc before (a ∷ []) arities) (omega arith)

  -- All rules, and the end behind them.
  records : List Rule → ℕ
  records [] = 0
  records (r ∷ rules) = suc (size r.left + (size r.right + records rules))

  rules_read :
      (rules : List Rule) (s : State) (fuel p : ℕ) → T (not (side_open (side_of s.stage).stage)) → length s.rules + length rules ≤ 32 →
      ((r : Rule) → Memᴰ r rules → SideWithinLimits s.arities r.left × SideWithinLimits s.arities r.right) →
      p + length (rules_bytes rules) + 1 ≡ len →
      read_from (records rules + suc fuel) len s p (rules_bytes rules ++ (5 ∷ [])) ≡ given (record { arities = s.arities; rules = s.rules ++ rules })
  unfolding rules_bytes rule_bytes records side_open side_of no_side
  rules_read [] s fuel p none_open few sides last =
      ap (λ (f : ℕ). read_from f len s p (5 ∷ [])) (omega arith)
      ∙ end_passed fuel s p none_open (omega arith)
      ∙ ap (λ (l : List Rule). given (record { arities = s.arities; rules = l })) (sym (append-nil s.rules))
  rules_read (r ∷ rules) s fuel p none_open few sides last =
      let long : length (rule_bytes r ++ rules_bytes rules) ≡ suc (length (prefix r.left ++ prefix r.right)) + length (rules_bytes rules) =
      length-append (rule_bytes r) (rules_bytes rules)
      in
      let both : length (prefix r.left ++ prefix r.right) ≡ 2 * size r.left + 2 * size r.right =
      length-append (prefix r.left) (prefix r.right) ∙ ap₂ ◌+◌ (prefix_length r.left) (prefix_length r.right)
      in
      let here = sides r (Memᴰ.head refl) in
      ap₂ (λ (f : ℕ) (b : List ℕ). read_from f len s p b) (omega arith) (append_assoc (rule_bytes r) (rules_bytes rules) (5 ∷ []))
      ∙ rule_read (records rules + suc fuel) s p r (rules_bytes rules ++ (5 ∷ [])) none_open (omega arith) here.0 here.1
      ∙ rules_read rules (record { arities = s.arities; rules = s.rules ++ (r ∷ []); stage = rule_whole }) fuel (p + 1 + 2 * size r.left + 2 * size r.right) tt
      (omega (arith, length-append s.rules (r ∷ []))) (λ q m. sides q (Memᴰ.tail m)) (omega arith)
      ∙ ap (λ (l : List Rule). given (record { arities = s.arities; rules = l })) (append_assoc s.rules (r ∷ []) rules)

-- A book has at least as many bytes as records.
symbols_long : (arities : List ℕ) → length (symbols_bytes arities) ≡ 2 * length arities
unfolding symbols_bytes
symbols_long [] = refl
symbols_long (a ∷ arities) = omega (arith, symbols_long arities)

rules_long : (len : ℕ) (rules : List Rule) → records len rules ≤ length (rules_bytes rules)
unfolding rules_bytes rule_bytes records
rules_long len [] = omega arith
rules_long len (r ∷ rules) =
    omega (
      arith,
      rules_long len rules,
      length-append (rule_bytes r) (rules_bytes rules),
      length-append (prefix r.left) (prefix r.right),
      prefix_length r.left,
      prefix_length r.right,
    )

pub bytes_taken : (book : Book) → WithinLimits book → read_book (book_bytes book) ≡ given book
unfolding read_book book_bytes start told_as symbols side_open side_of no_side
bytes_taken book within =
    let bytes : List ℕ = book_bytes book in
    let len : ℕ = length (book_bytes book) in
    let rest : length (rules_bytes book.rules ++ (5 ∷ [])) ≡ length (rules_bytes book.rules) + 1 = length-append (rules_bytes book.rules) (5 ∷ []) in
    let long : len ≡ length (symbols_bytes book.arities) + length (rules_bytes book.rules ++ (5 ∷ [])) =
    length-append (symbols_bytes book.arities) (rules_bytes book.rules ++ (5 ∷ []))
    in
    let twice : length (symbols_bytes book.arities) ≡ 2 * length book.arities = symbols_long book.arities in
    let enough : records len book.rules ≤ length (rules_bytes book.rules) = rules_long len book.rules in
    let extra : ℕ = len - (length book.arities + (records len book.rules + 1)) in
    let fuel : len ≡ length book.arities + (records len book.rules + suc extra) = omega arith in
    ap (told_as numbered)
    (ap (λ (f : ℕ). read_from f len start 0 (symbols_bytes book.arities ++ (rules_bytes book.rules ++ (5 ∷ [])))) fuel
    ∙ symbols_read len book.arities [] (records len book.rules + suc extra) 0 (rules_bytes book.rules ++ (5 ∷ [])) within.arity (omega (arith, within.symbol_count))
    ∙ rules_read len book.rules (record { arities = book.arities; rules = []; stage = before_rules }) extra (0 + 2 * length book.arities) tt
    (omega (arith, within.rule_count)) (λ r m. (within.left r m, within.right r m)) (omega arith))
