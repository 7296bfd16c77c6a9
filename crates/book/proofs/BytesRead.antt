-- A book that was read: its bytes are those of the book. By what the bytes taken so far are, record by record. Assumes nothing.
use Prim.Native.Nat.{ℕ, zero, suc, ◌+◌, pred, ◌≤◌, ◌<◌}
use mathlib.Core.Bool.{not}
use mathlib.Core.List.{List, [], ◌∷◌, ◌++◌, append_assoc, append-nil}
use mathlib.Core.Path.{◌≡◌, refl, sym, ap, ap₂, subst, ◌∙◌}
use native.Mathlib.Omega.{arith}
use lib.Dec.{T, eqb, eqb→eq, leb→le, ltb→lt}
use lib.ListN.{length, get_or, take, drop, length-take, length-drop, take-append-drop}
use Rattle.std.proofs.lemmas.List.{nil_from_length}
use Rattle.reply.specs.Reply.{given}
use Rattle.reply.specs.declared.Refusal.TheVariants.{BookEnded}
use Rattle.reply.proofs.Given.{refused_not_given, bind_given, then_given, unless_given_alone, either_given, told_given}
use Rattle.term.specs.Tables.{Kind, symbol, rule, kind_of, body_length, body_lengths}
use Rattle.term.specs.Term.{Term}
use Rattle.term.specs.Prefix.{Node, symbolic, variable, arity_of, prefix, tree}
use Rattle.term.proofs.Prefix.{NodeOver, declared, standing, Leaves, leaves_next, node_bytes, nodes_bytes, nodes_bytes_append, TreeOf, tree_fills}
use Rattle.book.specs.Book.{Book, Rule}
use Rattle.book.specs.Bytes.{symbols_bytes, rule_bytes, rules_bytes, book_bytes}
use Rattle.book.specs.Checks.{known, allowed, body_fits, nothing_more}
use Rattle.book.specs.Sides.{side_open, no_rule_yet, no_side}
use Rattle.book.specs.Reading.{Stage, before_rules, in_left, in_right, rule_whole, State, side_of, left_after, right_after, node_at, next, record_at, ended, read_from, start, read_book}
use Rattle.book.proofs.Tests.{Passed, passed}
use Rattle.book.proofs.Bodies.{alone}
use Rattle.book.proofs.KindNumbers.{by_kind}
use Rattle.book.proofs.Limits.{Kept, StageKept, record_kept, start_kept}

-- The bytes of one symbol more, and of one rule more.
symbols_append : (arities : List ℕ) (a : ℕ) → symbols_bytes (arities ++ (a ∷ [])) ≡ symbols_bytes arities ++ (1 ∷ a ∷ [])
unfolding symbols_bytes
symbols_append [] a = refl
symbols_append (arity ∷ arities) a = ap (λ (l : List ℕ). 1 ∷ arity ∷ l) (symbols_append arities a)

rules_append : (rules : List Rule) (r : Rule) → rules_bytes (rules ++ (r ∷ [])) ≡ rules_bytes rules ++ rule_bytes r
unfolding rules_bytes
rules_append [] r = append-nil (rule_bytes r)
rules_append (this ∷ rules) r =
    ap (λ (l : List ℕ). rule_bytes this ++ l) (rules_append rules r) ∙ sym (append_assoc (rule_bytes this) (rules_bytes rules) (rule_bytes r))

-- The bytes that were taken so far: of the symbols, of the whole rules, and of the rule that is being read.
abbrev stage_bytes : Stage → List ℕ
stage_bytes before_rules = []
stage_bytes (in_left m ns) = 2 ∷ nodes_bytes ns
stage_bytes (in_right l m ns) = 2 ∷ (prefix l ++ nodes_bytes ns)
stage_bytes rule_whole = []

abbrev taken_at : State → Stage → List ℕ
taken_at s stage = symbols_bytes s.arities ++ (rules_bytes s.rules ++ stage_bytes stage)

abbrev taken : State → List ℕ
taken s = taken_at s s.stage

-- More bytes of the rule that is being read.
more_of_the_rule :
    (s : State) (stage : Stage) (this : List ℕ) → symbols_bytes s.arities ++ (rules_bytes s.rules ++ (stage_bytes stage ++ this)) ≡ taken_at s stage ++ this
more_of_the_rule s stage this =
    ap (λ (l : List ℕ). symbols_bytes s.arities ++ l) (sym (append_assoc (rules_bytes s.rules) (stage_bytes stage) this))
    ∙ sym (append_assoc (symbols_bytes s.arities) (rules_bytes s.rules ++ stage_bytes stage) this)

-- A side's nodes and one more: its bytes are counted on.
module _ (s : State) where
  left_taken :
      (m : ℕ) (ns : List Node) → Leaves s.arities (λ x. x ≤ 15) 1 ns m →
      taken (left_after s m ns) ≡ symbols_bytes s.arities ++ (rules_bytes s.rules ++ (2 ∷ nodes_bytes ns))
  unfolding left_after nodes_bytes
  left_taken zero ns l =
      let t : TreeOf s.arities ns (tree s.arities ns) = tree_fills s.arities (λ x. x ≤ 15) ns l in
      ap (λ (b : List ℕ). symbols_bytes s.arities ++ (rules_bytes s.rules ++ (2 ∷ b))) (append-nil (prefix (tree s.arities ns)) ∙ t.bytes)
  left_taken (suc m) ns l = refl

  right_taken :
      (left : Term) (m : ℕ) (ns : List Node) → Leaves s.arities (λ x. x ≤ 15) 1 ns m →
      taken (right_after s left m ns) ≡ symbols_bytes s.arities ++ (rules_bytes s.rules ++ (2 ∷ (prefix left ++ nodes_bytes ns)))
  unfolding right_after rule_bytes
  right_taken left zero ns l =
      let t : TreeOf s.arities ns (tree s.arities ns) = tree_fills s.arities (λ x. x ≤ 15) ns l in
      ap (λ (b : List ℕ). symbols_bytes s.arities ++ b)
      (append-nil (rules_bytes (s.rules ++ (record { left = left; right = tree s.arities ns } ∷ [])))
      ∙ rules_append s.rules (record { left = left; right = tree s.arities ns })
      ∙ ap (λ (b : List ℕ). rules_bytes s.rules ++ (2 ∷ (prefix left ++ b))) t.bytes)
  right_taken left (suc m) ns l = refl

  node_taken_lem :
      (stage : Stage) (this : Node) → StageKept s.arities s.rules stage → T (side_open (side_of stage).stage) → NodeOver s.arities (λ x. x ≤ 15) this →
      taken (node_at stage s this) ≡ taken_at s stage ++ node_bytes this
  unfolding node_at side_of side_open no_side nodes_bytes
  node_taken_lem before_rules this k is_open ok = absurd is_open
  node_taken_lem (in_left m ns) this k is_open ok =
      left_taken (pred m + arity_of s.arities this) (ns ++ (this ∷ [])) (leaves_next m k.1.some_missing_lem k.1.filled ok)
      ∙ ap (λ (b : List ℕ). symbols_bytes s.arities ++ (rules_bytes s.rules ++ (2 ∷ b)))
      (nodes_bytes_append ns (this ∷ []) ∙ ap (λ (b : List ℕ). nodes_bytes ns ++ b) (append-nil (node_bytes this)))
      ∙ more_of_the_rule s (in_left m ns) (node_bytes this)
  node_taken_lem (in_right l m ns) this k is_open ok =
      right_taken l (pred m + arity_of s.arities this) (ns ++ (this ∷ [])) (leaves_next m k.1.some_missing_lem k.1.filled ok)
      ∙ ap (λ (b : List ℕ). symbols_bytes s.arities ++ (rules_bytes s.rules ++ (2 ∷ b)))
      (ap (λ (b : List ℕ). prefix l ++ b) (nodes_bytes_append ns (this ∷ []) ∙ ap (λ (b : List ℕ). nodes_bytes ns ++ b) (append-nil (node_bytes this)))
      ∙ sym (append_assoc (prefix l) (nodes_bytes ns) (node_bytes this)))
      ∙ more_of_the_rule s (in_right l m ns) (node_bytes this)
  node_taken_lem rule_whole this k is_open ok = absurd is_open

  symbol_taken : (body : List ℕ) (stage : Stage) → s.stage ≡ stage → StageKept s.arities s.rules stage → T (no_rule_yet (side_of stage).stage) → length body ≡ 1 → taken (next symbol s body) ≡ taken s ++ (1 ∷ body)
  unfolding next no_rule_yet side_of no_side rules_bytes
  symbol_taken body before_rules is k before one =
      let none : s.rules ≡ [] = k in
      let its : body ≡ get_or body 0 0 ∷ [] = alone body one in
      let front : taken_at (next symbol s body) before_rules ≡ taken_at s before_rules ++ (1 ∷ body) =
      ap₂ (λ (l : List ℕ) (rs : List Rule). l ++ (rules_bytes rs ++ [])) (symbols_append s.arities (get_or body 0 0)) none
      ∙ append-nil (symbols_bytes s.arities ++ (1 ∷ get_or body 0 0 ∷ []))
      ∙ ap₂ (λ (l : List ℕ) (b : List ℕ). l ++ (1 ∷ b)) (sym (append-nil (symbols_bytes s.arities))) (sym its)
      ∙ ap (λ (rs : List Rule). (symbols_bytes s.arities ++ (rules_bytes rs ++ [])) ++ (1 ∷ body)) (sym none)
      in
      ap (λ (st : Stage). taken_at (next symbol s body) st) is ∙ front ∙ ap (λ (st : Stage). taken_at s st ++ (1 ∷ body)) (sym is)
  symbol_taken body (in_left m ns) is k before one = absurd before
  symbol_taken body (in_right l m ns) is k before one = absurd before
  symbol_taken body rule_whole is k before one = absurd before

  -- Where no side is open, the whole rules are all.
  nothing_open : (stage : Stage) → T (not (side_open (side_of stage).stage)) → stage_bytes stage ≡ []
  unfolding side_open side_of no_side
  nothing_open before_rules h = refl
  nothing_open (in_left m ns) h = absurd h
  nothing_open (in_right l m ns) h = absurd h
  nothing_open rule_whole h = refl

  rule_taken : (body : List ℕ) → T (not (side_open (side_of s.stage).stage)) → length body ≡ 0 → taken (next rule s body) ≡ taken s ++ (2 ∷ body)
  unfolding next nodes_bytes
  rule_taken body none_open none =
      ap (λ (b : List ℕ). symbols_bytes s.arities ++ (rules_bytes s.rules ++ b))
      (ap₂ (λ (a b : List ℕ). a ++ (2 ∷ b)) (sym (nothing_open s.stage none_open)) (sym (nil_from_length body none)))
      ∙ more_of_the_rule s s.stage (2 ∷ body)

  next_taken :
      Kept s → (k : ℕ) (body : List ℕ) → Passed k body (side_of s.stage) (length s.arities) (length s.rules) → length body ≡ body_length k → T (not (eqb k 5)) →
      taken (next (kind_of k) s body) ≡ taken s ++ (k ∷ body)
  unfolding allowed body_fits known next node_bytes body_length body_lengths
  next_taken kept k body tests long no_end =
      by_kind
      (λ (kind : Kind).
      T (known kind) → T (allowed kind (side_of s.stage).stage) → (0 < length body → T (body_fits kind (length s.arities) (get_or body 0 0))) → taken (next kind s body) ≡ taken s ++ (k ∷ body))
      k
      (λ u is_known here fits. absurd is_known)
      (λ is is_known here fits.
      symbol_taken body s.stage refl kept.stage here (long ∙ ap body_length is) ∙ ap (λ (n : ℕ). taken s ++ (n ∷ body)) (sym is))
      (λ is is_known here fits. rule_taken body here (long ∙ ap body_length is) ∙ ap (λ (n : ℕ). taken s ++ (n ∷ body)) (sym is))
      (λ is is_known here fits.
      let one : length body ≡ 1 = long ∙ ap body_length is in
      node_taken_lem s.stage (symbolic (get_or body 0 0)) kept.stage here (declared (ltb→lt (get_or body 0 0) (length s.arities) (fits (omega arith))))
      ∙ ap₂ (λ (n : ℕ) (b : List ℕ). taken s ++ (n ∷ b)) (sym is) (sym (alone body one)))
      (λ is is_known here fits.
      let one : length body ≡ 1 = long ∙ ap body_length is in
      node_taken_lem s.stage (variable (get_or body 0 0)) kept.stage here (standing (leb→le (get_or body 0 0) 15 (fits (omega arith))))
      ∙ ap₂ (λ (n : ℕ) (b : List ℕ). taken s ++ (n ∷ b)) (sym is) (sym (alone body one)))
      (λ is is_known here fits. absurd (subst (λ (n : ℕ). T (not (eqb n 5))) is no_end))
      tests.is_known tests.here tests.fits

-- Nothing stands behind the end.
at_the_end :
    (len p k : ℕ) (s : State) (bytes : List ℕ) (book : Book) → p + suc (length bytes) ≡ len → k ≡ 5 → Passed k (take (body_length k) bytes) (side_of s.stage) (length s.arities) (length s.rules) →
    ended len (next (kind_of k) s (take (body_length k) bytes)) (p + 1 + body_length k) ≡ given book → taken s ++ (k ∷ bytes) ≡ book_bytes book
unfolding ended nothing_more body_length body_lengths allowed kind_of book_bytes next
at_the_end len p k s bytes book stands is tests e =
    let ((t, none), same) = then_given _ _ _ e in
    let none_left : length bytes ≡ 0 = omega (arith, leb→le len (p + 1 + body_length k) (unless_given_alone _ _ none), ap body_length is) in
    let none_open : T (not (side_open (side_of s.stage).stage)) =
    subst (λ (n : ℕ). T (allowed (kind_of n) (side_of s.stage).stage)) is tests.here
    in
    let its : record { arities = s.arities; rules = s.rules } ≡ book =
    ap (λ (n : ℕ). record { arities = (next (kind_of n) s (take (body_length k) bytes)).arities; rules = (next (kind_of n) s (take (body_length k) bytes)).rules }) (sym is) ∙ cc same
    in
    ap₂ (λ (n : ℕ) (b : List ℕ). taken s ++ (n ∷ b)) is (nil_from_length bytes none_left)
    ∙ sym (more_of_the_rule s s.stage (5 ∷ []))
    ∙ ap (λ (b : List ℕ). symbols_bytes s.arities ++ (rules_bytes s.rules ++ (b ++ (5 ∷ [])))) (nothing_open s s.stage none_open)
    ∙ ap book_bytes its

-- All that is read: what was taken so far, and the bytes behind it.
all_read :
    (fuel len : ℕ) (s : State) (p : ℕ) (bytes : List ℕ) (book : Book) → Kept s → p + length bytes ≡ len → read_from fuel len s p bytes ≡ given book →
    taken s ++ bytes ≡ book_bytes book
unfolding read_from record_at
all_read zero len s p bytes book kept stands e = absurd (refused_not_given (BookEnded len) book e)
all_read (suc fuel) len s p [] book kept stands e = absurd (refused_not_given (BookEnded len) book e)
all_read (suc fuel) len s p (k ∷ bytes) book kept stands e =
    let (s', was-taken, rest) = bind_given _ _ _ e in
    let ((t, checks), same) = then_given _ _ _ was-taken in
    let is-next : next (kind_of k) s (take (body_length k) bytes) ≡ s' = cc same in
    let tests : Passed k (take (body_length k) bytes) (side_of s.stage) (length s.arities) (length s.rules) =
    passed len p k (take (body_length k) bytes) (side_of s.stage) (length s.arities) (length s.rules) checks
    in
    either_given (eqb k 5) _ _ book
    (λ is-end last.
    at_the_end len p k s bytes book stands (eqb→eq k 5 is-end) tests
    (subst (λ (z : State). ended len z (p + 1 + body_length k) ≡ given book) (sym is-next) last))
    (λ no_end more.
    let long : length (take (body_length k) bytes) ≡ body_length k = omega (arith, length-take (body_length k) bytes, tests.whole) in
    ap (λ (b : List ℕ). taken s ++ (k ∷ b)) (sym (take-append-drop (body_length k) bytes))
    ∙ sym (append_assoc (taken s) (k ∷ take (body_length k) bytes) (drop (body_length k) bytes))
    ∙ ap (λ (b : List ℕ). b ++ drop (body_length k) bytes)
    (sym (next_taken s kept k (take (body_length k) bytes) tests long no_end) ∙ ap (λ (z : State). taken z) is-next)
    ∙ all_read fuel len s' (p + 1 + body_length k) (drop (body_length k) bytes) book (record_kept s kept len p k (take (body_length k) bytes) s' was-taken)
    (omega (arith, length-drop (body_length k) bytes, length-take (body_length k) bytes)) more)
    rest

pub bytes_read : (bytes : List ℕ) (book : Book) → read_book bytes ≡ given book → bytes ≡ book_bytes book
unfolding read_book start symbols_bytes rules_bytes
bytes_read bytes book e = all_read (length bytes) (length bytes) start 0 bytes book start_kept (omega arith) (told_given _ _ _ e)
