-- The relation grows with the precedence, and looks only at the symbols that occur: by recursion on the derivation that s exceeds t,
-- the symbols of s among P and those of t among Q. Assumes nothing.
use Prim.Native.Nat.{ℕ, ◌<◌}
use mathlib.Core.Bool.{◌&&◌}
use mathlib.Core.List.{List}
use lib.Dec.{T, eqb, ltb, ltb→lt}
use lib.ListN.{length, get_or}
use Rattle.term.specs.Term.{Term, Args, app, cons, count, over, overs}
use Rattle.reply.proofs.Tests.{and_left, and_right}
use Rattle.order.specs.Exceeds.{Exceeds, DecreaseAt, ExceedsEvery, SomeReaches, case1, case2, case3, here, further, none, both, identical, exceeding, later}

-- The symbol f occurs in a term, in some argument of a list.
mutual
  pub data SymbolIn (f : ℕ) : Term → Type 0 where
    root : {ts : Args} → SymbolIn f (app f ts)
    inside : {g : ℕ} {ts : Args} → SymbolInSome f ts → SymbolIn f (app g ts)

  pub data SymbolInSome (f : ℕ) : Args → Type 0 where
    in_first : {t : Term} {ts : Args} → SymbolIn f t → SymbolInSome f (cons t ts)
    in_later : {t : Term} {ts : Args} → SymbolInSome f ts → SymbolInSome f (cons t ts)

module _ {above above' : ℕ → ℕ → Type 0} {P Q : ℕ → Type 0} (kept : (f g : ℕ) → P f → Q g → above f g → above' f g) where
  mutual
    exceeds_grows : {s t : Term} → Exceeds above s t → ((f : ℕ) → SymbolIn f s → P f) → ((g : ℕ) → SymbolIn g t → Q g) → Exceeds above' s t
    exceeds_grows (case1 d) of_s of_t = case1 (decrease_grows d of_s (λ f m. of_s f (inside m)) (λ g m. of_t g (inside m)))
    exceeds_grows (case2 {f} {g} a es) of_s of_t = case2 (kept f g (of_s f root) (of_t g root) a) (every_grows es of_s (λ g m. of_t g (inside m)))
    exceeds_grows (case3 r) of_s of_t = case3 (some_grows r (λ f m. of_s f (inside m)) of_t)

    decrease_grows :
        {s : Term} {ss ts : Args} → DecreaseAt above s ss ts → ((f : ℕ) → SymbolIn f s → P f) → ((f : ℕ) → SymbolInSome f ss → P f) →
        ((g : ℕ) → SymbolInSome g ts → Q g) → DecreaseAt above' s ss ts
    decrease_grows (here e es counts) of_s of_ss of_ts =
        here (exceeds_grows e (λ f m. of_ss f (in_first m)) (λ g m. of_ts g (in_first m))) (every_grows es of_s (λ g m. of_ts g (in_later m))) counts
    decrease_grows (further d) of_s of_ss of_ts = further (decrease_grows d of_s (λ f m. of_ss f (in_later m)) (λ g m. of_ts g (in_later m)))

    every_grows :
        {s : Term} {ts : Args} → ExceedsEvery above s ts → ((f : ℕ) → SymbolIn f s → P f) →
        ((g : ℕ) → SymbolInSome g ts → Q g) → ExceedsEvery above' s ts
    every_grows none of_s of_ts = none
    every_grows (both e es) of_s of_ts = both (exceeds_grows e of_s (λ g m. of_ts g (in_first m))) (every_grows es of_s (λ g m. of_ts g (in_later m)))

    some_grows :
        {ss : Args} {t : Term} → SomeReaches above ss t → ((f : ℕ) → SymbolInSome f ss → P f) →
        ((g : ℕ) → SymbolIn g t → Q g) → SomeReaches above' ss t
    some_grows identical of_ss of_t = identical
    some_grows (exceeding e) of_ss of_t = exceeding (exceeds_grows e (λ f m. of_ss f (in_first m)) of_t)
    some_grows (later r) of_ss of_t = later (some_grows r (λ f m. of_ss f (in_later m)) of_t)

pub grows :
    {above above' : ℕ → ℕ → Type 0} {s t : Term} → Exceeds above s t → ((f g : ℕ) → SymbolIn f s → SymbolIn g t → above f g → above' f g) →
    Exceeds above' s t
grows {s} {t} e kept = exceeds_grows {P = λ (f : ℕ). SymbolIn f s} {Q = λ (g : ℕ). SymbolIn g t} kept e (λ f m. m) (λ g m. m)

-- The symbols of a term over declared symbols are declared.
module _ (arities : List ℕ) where
  mutual
    unfolding over

    pub over→declared : {f : ℕ} {t : Term} → T (over arities t) → SymbolIn f t → f < length arities
    over→declared {f} o (root {ts}) =
        ltb→lt f (length arities)
        (and_left (ltb f (length arities)) (eqb (get_or arities f 0) (count ts))
        (and_left (ltb f (length arities) && eqb (get_or arities f 0) (count ts)) (overs arities ts) o))
    over→declared o (inside {g} {ts} m) =
        overs→declared (and_right (ltb g (length arities) && eqb (get_or arities g 0) (count ts)) (overs arities ts) o) m

    pub overs→declared : {f : ℕ} {ts : Args} → T (overs arities ts) → SymbolInSome f ts → f < length arities
    overs→declared o (in_first {t} {ts} m) = over→declared (and_left (over arities t) (overs arities ts) o) m
    overs→declared o (in_later {t} {ts} m) = overs→declared (and_right (over arities t) (overs arities ts) o) m
