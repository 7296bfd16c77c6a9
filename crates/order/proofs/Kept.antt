-- The order is kept under replacement and in contexts and brings no new variable, whatever relation `above` is.
-- By recursion on the derivation that s exceeds t. Assumes nothing.
use Prim.Native.Nat.{ℕ, suc}
use mathlib.Core.Path.{◌≡◌, refl, sym, ap, ◌∙◌}
use Rattle.term.specs.Term.{Term, Args, app, nil, cons, count}
use Rattle.term.specs.Replacement.{Replacement, replace, replace_all, Occurs, OccursIn, under, first, later as behind}
use Rattle.order.specs.Exceeds.{Exceeds, DecreaseAt, ExceedsEvery, SomeReaches, case1, case2, case3, here, further, none, both, identical, exceeding, later}
use Rattle.order.specs.ReductionOrder.{AtOneArgument, in_first, in_later}

pub count_replaced : (σ : Replacement) (ts : Args) → count (replace_all σ ts) ≡ count ts
unfolding replace count
count_replaced σ nil = refl
count_replaced σ (cons t ts) = ap suc (count_replaced σ ts)

module _ {above : ℕ → ℕ → Type 0} where
  mutual
    unfolding replace

    exceeds_replaced : {s t : Term} (σ : Replacement) → Exceeds above s t → Exceeds above (replace σ s) (replace σ t)
    exceeds_replaced σ (case1 d) = case1 (decrease_replaced σ d)
    exceeds_replaced σ (case2 p every) = case2 p (every_replaced σ every)
    exceeds_replaced σ (case3 some) = case3 (some_replaced σ some)

    decrease_replaced : {s : Term} {ss ts : Args} (σ : Replacement) →
        DecreaseAt above s ss ts → DecreaseAt above (replace σ s) (replace_all σ ss) (replace_all σ ts)
    decrease_replaced σ (here {ss = ss} {ts = ts} e every c) =
        here (exceeds_replaced σ e) (every_replaced σ every) (count_replaced σ ss ∙ c ∙ sym (count_replaced σ ts))
    decrease_replaced σ (further d) = further (decrease_replaced σ d)

    every_replaced : {s : Term} {ts : Args} (σ : Replacement) →
        ExceedsEvery above s ts → ExceedsEvery above (replace σ s) (replace_all σ ts)
    every_replaced σ none = none
    every_replaced σ (both e every) = both (exceeds_replaced σ e) (every_replaced σ every)

    some_replaced : {ss : Args} {t : Term} (σ : Replacement) →
        SomeReaches above ss t → SomeReaches above (replace_all σ ss) (replace σ t)
    some_replaced σ identical = identical
    some_replaced σ (exceeding e) = exceeding (exceeds_replaced σ e)
    some_replaced σ (later some) = later (some_replaced σ some)

  pub kept_under_replacement_lem : (σ : Replacement) (s t : Term) → Exceeds above s t → Exceeds above (replace σ s) (replace σ t)
  kept_under_replacement_lem σ s t e = exceeds_replaced σ e

  -- A term exceeds each of its arguments. The arguments `rest` are among `all`: what some of them reaches, some of `all` reaches.
  exceeds_arguments : {f : ℕ} {all : Args} (rest : Args) →
      ((t : Term) → SomeReaches above rest t → SomeReaches above all t) → ExceedsEvery above (app f all) rest
  exceeds_arguments nil among = none
  exceeds_arguments (cons t ts) among = both (case3 (among t identical)) (exceeds_arguments ts (λ u r. among u (later r)))

  decrease_at_one : {f : ℕ} {all ss ts : Args} →
      ((t : Term) → SomeReaches above ss t → SomeReaches above all t) → AtOneArgument (Exceeds above) ss ts → DecreaseAt above (app f all) ss ts
  decrease_at_one among (in_first {ss = ss} e) = here e (exceeds_arguments ss (λ u r. among u (later r))) refl
  decrease_at_one among (in_later one) = further (decrease_at_one (λ u r. among u (later r)) one)

  pub kept_in_contexts_lem : (f : ℕ) (ss ts : Args) → AtOneArgument (Exceeds above) ss ts → Exceeds above (app f ss) (app f ts)
  kept_in_contexts_lem f ss ts one = case1 (decrease_at_one (λ t r. r) one)

  -- `mine` says that what occurs in the arguments compared, which are arguments of s, occurs in s.
  mutual
    exceeds_occurs : {s t : Term} {x : ℕ} → Exceeds above s t → Occurs x t → Occurs x s
    exceeds_occurs (case1 d) (under o) = decrease_occurs d under o
    exceeds_occurs (case2 p every) (under o) = every_occurs every o
    exceeds_occurs (case3 some) o = under (some_occurs some o)

    decrease_occurs : {s : Term} {ss ts : Args} {x : ℕ} →
        DecreaseAt above s ss ts → (OccursIn x ss → Occurs x s) → OccursIn x ts → Occurs x s
    decrease_occurs (here e every c) mine (first o) = mine (first (exceeds_occurs e o))
    decrease_occurs (here e every c) mine (behind o) = every_occurs every o
    decrease_occurs (further d) mine (first o) = mine (first o)
    decrease_occurs (further d) mine (behind o) = decrease_occurs d (λ i. mine (behind i)) o

    every_occurs : {s : Term} {ts : Args} {x : ℕ} → ExceedsEvery above s ts → OccursIn x ts → Occurs x s
    every_occurs (both e every) (first o) = exceeds_occurs e o
    every_occurs (both e every) (behind o) = every_occurs every o
    every_occurs (none {s = s}) x18 = elim x18 [ ]

    some_occurs : {ss : Args} {t : Term} {x : ℕ} → SomeReaches above ss t → Occurs x t → OccursIn x ss
    some_occurs identical o = first o
    some_occurs (exceeding e) o = first (exceeds_occurs e o)
    some_occurs (later some) o = behind (some_occurs some o)

  pub no_new_variable_lem : (s t : Term) → Exceeds above s t → (x : ℕ) → Occurs x t → Occurs x s
  no_new_variable_lem s t e x o = exceeds_occurs e o
