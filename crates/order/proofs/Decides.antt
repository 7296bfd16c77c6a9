-- The test decides the relation: at one root, given a test for smaller terms that does, and so for every fuel that is enough.
-- Soundness goes by the fuel alone; completeness needs that the sizes of both sides together fall. Before that, what the test says where
-- the easy slips of document 01 would say otherwise. Assumes nothing.
use Prim.Native.Nat.{ℕ, zero, suc, ◌+◌, ◌≤◌}
use mathlib.Core.Bool.{Bool, true, false, ◌&&◌, ◌||◌}
use mathlib.Core.List.{List, [], ◌∷◌}
use mathlib.Core.Logic.{◌↔◌}
use mathlib.Core.Path.{◌≡◌, refl, subst}
use native.Mathlib.Omega.{arith}
use lib.Dec.{T, eqb, eqb→eq, eqb_refl, ltb→lt, lt→ltb}
use lib.ListN.{get_or}
use Rattle.term.specs.Term.{Term, Args, var, app, nil, cons, size, sizes, count, same}
use Rattle.reply.proofs.Tests.{and_left, and_right, and_both, or_cases, or_left, or_right, equal_tests}
use Rattle.term.proofs.Same.{same→identical, same_refl}
use Rattle.order.specs.Precedence.{Above, above}
use Rattle.order.specs.Exceeds.{Exceeds, DecreaseAt, ExceedsEvery, SomeReaches, case1, case2, case3, here, further, none, both, identical, exceeding, later}
use Rattle.order.specs.Test.{every_arg, some_arg, decrease_at, reaches, case1_holds, case2_holds, case3_holds, at_root, exceeds_in, exceeds}
use Rattle.order.specs.Computing.{comparing}

-- The easy slips, each at the rule that document 01 names. x and y are the variables 0 and 1.
abbrev one : Term → Args
one t = cons t nil

abbrev two : Term → Term → Args
two s t = cons s (cons t nil)

-- "Taking equal ranks as equivalent symbols: 003's div and i would clear." div, i and e are 0, 1 and 2; 003's first rule is div(x,e) → i(x).
equal_ranks_are_unrelated : exceeds (1 ∷ 1 ∷ 0 ∷ []) (app 0 (two (var 0) (app 2 nil))) (app 1 (one (var 0))) ≡ false
unfolding size count same comparing
equal_ranks_are_unrelated = refl

-- "In (1), forgetting that s must exceed the later arguments of t: f(g(x),y) → f(x,f(g(x),y)) would clear."
later_arguments_count :
    exceeds (1 ∷ 0 ∷ []) (app 0 (two (app 1 (one (var 0))) (var 1))) (app 0 (two (var 0) (app 0 (two (app 1 (one (var 0))) (var 1))))) ≡ false
unfolding size count same comparing
later_arguments_count = refl

-- "Case (3) without identity: f(x) → x would be refused."
an_identical_argument_suffices : exceeds (0 ∷ []) (app 0 (one (var 0))) (var 0) ≡ true
unfolding size count same comparing
an_identical_argument_suffices = refl

-- The test and the relation.
size_positive : (t : Term) → 1 ≤ size t
unfolding size
size_positive (var x) = omega arith
size_positive (app f ts) = omega arith

-- What the test finds at a root is so, if what `test` finds is.
module _ (rel : ℕ → ℕ → Type 0) (test : Term → Term → Bool) (sound : (s t : Term) → T (test s t) → Exceeds rel s t) where
  every_sound : (s : Term) (ts : Args) → T (every_arg (test s) ts) → ExceedsEvery rel s ts
  unfolding every_arg
  every_sound s nil h = none
  every_sound s (cons t ts) h =
      both (sound s t (and_left (test s t) (every_arg (test s) ts) h)) (every_sound s ts (and_right (test s t) (every_arg (test s) ts) h))

  some_sound : (ss : Args) (t : Term) → T (some_arg (reaches test t) ss) → SomeReaches rel ss t
  unfolding some_arg reaches
  some_sound nil t h = absurd h
  some_sound (cons s ss) t h = or_cases (reaches test t s) (some_arg (reaches test t) ss) h reached (λ l. later (some_sound ss t l))
    where
      itself : T (same s t) → SomeReaches rel (cons s ss) t
      itself i = subst (λ (u : Term). SomeReaches rel (cons s ss) u) (same→identical s t i) identical

      reached : T (reaches test t s) → SomeReaches rel (cons s ss) t
      reached r = or_cases (same s t) (test s t) r itself (λ e. exceeding (sound s t e))

  decrease_sound : (s : Term) (ss ts : Args) → T (decrease_at test s ss ts) → DecreaseAt rel s ss ts
  unfolding decrease_at
  decrease_sound s nil ts h = absurd h
  decrease_sound s (cons a ss) nil h = absurd h
  decrease_sound s (cons a ss) (cons b ts) h =
      or_cases (decided && lengths) (same a b && decrease_at test s ss ts) h at_first
      (λ l. at_later (and_left (same a b) (decrease_at test s ss ts) l)
      (decrease_sound s ss ts (and_right (same a b) (decrease_at test s ss ts) l)))
    where
      decided : Bool
      decided = test a b && every_arg (test s) ts

      lengths : Bool
      lengths = eqb (count ss) (count ts)

      at_first : T (decided && lengths) → DecreaseAt rel s (cons a ss) (cons b ts)
      at_first e =
          let d : T decided = and_left decided lengths e in
          here (sound a b (and_left (test a b) (every_arg (test s) ts) d)) (every_sound s ts (and_right (test a b) (every_arg (test s) ts) d))
          (eqb→eq (count ss) (count ts) (and_right decided lengths e))

      at_later : T (same a b) → DecreaseAt rel s ss ts → DecreaseAt rel s (cons a ss) (cons b ts)
      at_later i d = subst (λ (u : Term). DecreaseAt rel s (cons a ss) (cons u ts)) (same→identical a b i) (further d)

  -- Each case's test gives that case.
  case1_sound : (f : ℕ) (ss : Args) (t : Term) → T (case1_holds test f ss t) → Exceeds rel (app f ss) t
  unfolding case1_holds
  case1_sound f ss (app g ts) h =
      subst (λ (k : ℕ). Exceeds rel (app f ss) (app k ts)) (eqb→eq f g (and_left (eqb f g) (decrease_at test (app f ss) ss ts) h))
      (case1 (decrease_sound (app f ss) ss ts (and_right (eqb f g) (decrease_at test (app f ss) ss ts) h)))
  case1_sound f ss (var _) h = elim h [ ]

  case2_sound :
      (higher : ℕ → ℕ → Bool) → ((f g : ℕ) → T (higher f g) → rel f g) → (f : ℕ) (ss : Args) (t : Term) → T (case2_holds higher test f ss t) →
      Exceeds rel (app f ss) t
  unfolding case2_holds
  case2_sound higher sound-higher f ss (app g ts) h =
      case2 (sound-higher f g (and_left (higher f g) (every_arg (test (app f ss)) ts) h))
      (every_sound (app f ss) ts (and_right (higher f g) (every_arg (test (app f ss)) ts) h))
  case2_sound higher sound-higher f ss (var _) h = elim h [ ]

  case3_sound : (f : ℕ) (ss : Args) (t : Term) → T (case3_holds test ss t) → Exceeds rel (app f ss) t
  unfolding case3_holds
  case3_sound f ss t h = case3 (some_sound ss t h)

  root_sound :
      (higher : ℕ → ℕ → Bool) → ((f g : ℕ) → T (higher f g) → rel f g) → (f : ℕ) (ss : Args) (t : Term) → T (at_root higher test f ss t) →
      Exceeds rel (app f ss) t
  unfolding at_root
  root_sound higher sound-higher f ss t h =
      or_cases (case1_holds test f ss t || case2_holds higher test f ss t) (case3_holds test ss t) h
      (λ first_two.
      or_cases (case1_holds test f ss t) (case2_holds higher test f ss t) first_two
      (case1_sound f ss t) (case2_sound higher sound-higher f ss t))
      (case3_sound f ss t)

-- One of the three cases is enough.
module _ (test : Term → Term → Bool) (higher : ℕ → ℕ → Bool) (f : ℕ) (ss : Args) (t : Term) where
  by_case1 : T (case1_holds test f ss t) → T (at_root higher test f ss t)
  unfolding at_root
  by_case1 h =
      or_left (case1_holds test f ss t || case2_holds higher test f ss t) (case3_holds test ss t)
      (or_left (case1_holds test f ss t) (case2_holds higher test f ss t) h)

  by_case2 : T (case2_holds higher test f ss t) → T (at_root higher test f ss t)
  unfolding at_root
  by_case2 h =
      or_left (case1_holds test f ss t || case2_holds higher test f ss t) (case3_holds test ss t)
      (or_right (case1_holds test f ss t) (case2_holds higher test f ss t) h)

  by_case3 : T (case3_holds test ss t) → T (at_root higher test f ss t)
  unfolding at_root
  by_case3 h = or_right (case1_holds test f ss t || case2_holds higher test f ss t) (case3_holds test ss t) h

-- What is so at a root the test finds, if `test` finds what is so of terms whose sizes are together at most `bound`.
module _
    (rel : ℕ → ℕ → Type 0)
    (test : Term → Term → Bool)
    (bound : ℕ)
    (complete : (s t : Term) → size s + size t ≤ bound → Exceeds rel s t → T (test s t)) where
  every_complete : (s : Term) (ts : Args) → size s + sizes ts ≤ bound → ExceedsEvery rel s ts → T (every_arg (test s) ts)
  unfolding every_arg size
  every_complete s nil fits none = tt
  every_complete s (cons t ts) fits (both e es) =
      and_both (test s t) (every_arg (test s) ts) (complete s t (omega arith) e) (every_complete s ts (omega arith) es)

  some_complete : (ss : Args) (t : Term) → sizes ss + size t ≤ bound → SomeReaches rel ss t → T (some_arg (reaches test t) ss)
  unfolding some_arg reaches size
  some_complete (cons s ss) t fits identical =
      or_left (reaches test t s) (some_arg (reaches test t) ss) (or_left (same s t) (test s t) (same_refl s))
  some_complete (cons s ss) t fits (exceeding e) =
      or_left (reaches test t s) (some_arg (reaches test t) ss) (or_right (same s t) (test s t) (complete s t (omega arith) e))
  some_complete (cons s ss) t fits (later l) = or_right (reaches test t s) (some_arg (reaches test t) ss) (some_complete ss t (omega arith) l)
  some_complete nil t fits x'' = elim x'' [ ]

  decrease_complete :
      (s : Term) (ss ts : Args) → size s + sizes ts ≤ bound → sizes ss + sizes ts ≤ bound → DecreaseAt rel s ss ts → T (decrease_at test s ss ts)
  unfolding decrease_at size
  decrease_complete s (cons a ss) (cons b ts) fits fits' (here e es counts) =
      let decided : T (test a b && every_arg (test s) ts) =
      and_both (test a b) (every_arg (test s) ts) (complete a b (omega arith) e) (every_complete s ts (omega arith) es) in
      let lengths : T (eqb (count ss) (count ts)) = subst (λ (k : ℕ). T (eqb (count ss) k)) counts (eqb_refl (count ss)) in
      or_left (test a b && every_arg (test s) ts && eqb (count ss) (count ts)) (same a b && decrease_at test s ss ts)
      (and_both (test a b && every_arg (test s) ts) (eqb (count ss) (count ts)) decided lengths)
  decrease_complete s (cons a ss) (cons b ts) fits fits' (further d) =
      or_right (test a b && every_arg (test s) ts && eqb (count ss) (count ts)) (same a b && decrease_at test s ss ts)
      (and_both (same a b) (decrease_at test s ss ts) (same_refl a) (decrease_complete s ss ts (omega arith) (omega arith) d))
  decrease_complete s nil ts fits fits' x3 = elim x3 [ ]
  decrease_complete s (cons a ss) nil fits fits' x7 = elim x7 [ ]

  root_complete :
      (higher : ℕ → ℕ → Bool) → ((f g : ℕ) → rel f g → T (higher f g)) → (f : ℕ) (ss : Args) (t : Term) → size (app f ss) + size t ≤ suc bound →
      Exceeds rel (app f ss) t → T (at_root higher test f ss t)
  unfolding case1_holds case2_holds case3_holds size
  root_complete higher complete-higher f ss (app g ts) fits (case1 d) =
      by_case1 test higher f ss (app g ts)
      (and_both (eqb f g) (decrease_at test (app f ss) ss ts) (eqb_refl f) (decrease_complete (app f ss) ss ts (omega arith) (omega arith) d))
  root_complete higher complete-higher f ss (app g ts) fits (case2 a es) =
      by_case2 test higher f ss (app g ts)
      (and_both (higher f g) (every_arg (test (app f ss)) ts) (complete-higher f g a) (every_complete (app f ss) ts (omega arith) es))
  root_complete higher complete-higher f ss t fits (case3 r) = by_case3 test higher f ss t (some_complete ss t (omega arith) r)

-- Every fuel that is enough decides the relation.
module _ (rel : ℕ → ℕ → Type 0) (higher : ℕ → ℕ → Bool) (decided : (f g : ℕ) → T (higher f g) ↔ rel f g) where
  in_sound : (fuel : ℕ) (s t : Term) → T (exceeds_in fuel higher s t) → Exceeds rel s t
  unfolding exceeds_in
  in_sound zero s t h = absurd h
  in_sound (suc fuel) (var x) t h = absurd h
  in_sound (suc fuel) (app f ss) t h = root_sound rel (exceeds_in fuel higher) (in_sound fuel) higher (λ f g. (decided f g).0) f ss t h

  in_complete : (fuel : ℕ) (s t : Term) → size s + size t ≤ fuel → Exceeds rel s t → T (exceeds_in fuel higher s t)
  unfolding exceeds_in
  in_complete zero s t fits e = let p : 1 ≤ size s = size_positive s in omega arith
  in_complete (suc fuel) (app f ss) t fits e =
      root_complete rel (exceeds_in fuel higher) fuel (in_complete fuel) higher (λ f g. (decided f g).1) f ss t fits e
  in_complete (suc fuel) (var _) t fits e = elim e [ ]

  pub exceeds_in_decides : (fuel : ℕ) (s t : Term) → size s + size t ≤ fuel → T (exceeds_in fuel higher s t) ↔ Exceeds rel s t
  exceeds_in_decides fuel s t fits = (in_sound fuel s t, in_complete fuel s t fits)

-- The test on ranks.
pub above_decides : (ranks : List ℕ) (f g : ℕ) → T (above ranks f g) ↔ Above ranks f g
unfolding above Above
above_decides ranks f g = (ltb→lt (get_or ranks g 0) (get_or ranks f 0), lt→ltb (get_or ranks g 0) (get_or ranks f 0))

pub exceeds_decides : (ranks : List ℕ) (s t : Term) → T (exceeds ranks s t) ↔ Exceeds (Above ranks) s t
unfolding exceeds
exceeds_decides ranks s t = exceeds_in_decides (Above ranks) (above ranks) (above_decides ranks) (size s + size t) s t (omega arith)

-- So fuel does not matter: the test unfolds at the root.
pub exceeds_var : (ranks : List ℕ) (x : ℕ) (t : Term) → exceeds ranks (var x) t ≡ false
exceeds_var ranks x t = equal_tests (exceeds ranks (var x) t) false (λ h. nothing_below ((exceeds_decides ranks (var x) t).0 h), λ h. absurd h)
  where
    nothing_below : Exceeds (Above ranks) (var x) t → ⊥
    nothing_below e = elim e [ ]

pub exceeds_root :
    (ranks : List ℕ) (f : ℕ) (ss : Args) (t : Term) → exceeds ranks (app f ss) t ≡ at_root (above ranks) (exceeds ranks) f ss t
exceeds_root ranks f ss t = equal_tests (exceeds ranks (app f ss) t) (at_root (above ranks) (exceeds ranks) f ss t) (down, up)
  where
    down : T (exceeds ranks (app f ss) t) → T (at_root (above ranks) (exceeds ranks) f ss t)
    down h =
        root_complete (Above ranks) (exceeds ranks) (size (app f ss) + size t) (λ a b fits. (exceeds_decides ranks a b).1) (above ranks)
        (λ g k. (above_decides ranks g k).1) f ss t (omega arith) ((exceeds_decides ranks (app f ss) t).0 h)

    up : T (at_root (above ranks) (exceeds ranks) f ss t) → T (exceeds ranks (app f ss) t)
    up h =
        (exceeds_decides ranks (app f ss) t).1
        (root_sound (Above ranks) (exceeds ranks) (λ a b. (exceeds_decides ranks a b).0) (above ranks) (λ g k. (above_decides ranks g k).0) f ss t h)
