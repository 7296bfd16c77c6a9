-- The order: when a term exceeds another, over any relation `above` on the symbols.
use Rattle.std.specs.Prelude.{ℕ, ◌≡◌}
use Rattle.term.specs.Term.{Term, Args, app, nil, cons, count}

mutual
  -- "A term s exceeds t when s = f(s1..sm) and one of these holds".
  pub data Exceeds (above : ℕ → ℕ → Type 0) : Term → Term → Type 0 where
    -- (1) t = f(t1..tm); for some i the arguments before i are identical, si exceeds ti, and s exceeds every tj with j > i
    case1 : {f : ℕ} {ss ts : Args} → DecreaseAt above (app f ss) ss ts → Exceeds above (app f ss) (app f ts)
    -- (2) t = g(t1..tn), f above g, and s exceeds every tj
    case2 : {f g : ℕ} {ss ts : Args} → above f g → ExceedsEvery above (app f ss) ts → Exceeds above (app f ss) (app g ts)
    -- (3) some si is identical to t or exceeds t
    case3 : {f : ℕ} {ss : Args} {t : Term} → SomeReaches above ss t → Exceeds above (app f ss) t

  -- (1)'s i: the arguments before it are identical; at it the first exceeds the second, behind it s exceeds every tj. Both lists are
  -- of one length, the arity of f.
  pub data DecreaseAt (above : ℕ → ℕ → Type 0) : Term → Args → Args → Type 0 where
    here : {s a b : Term} {ss ts : Args} → Exceeds above a b → ExceedsEvery above s ts → count ss ≡ count ts → DecreaseAt above s (cons a ss) (cons b ts)
    further : {s a : Term} {ss ts : Args} → DecreaseAt above s ss ts → DecreaseAt above s (cons a ss) (cons a ts)

  -- s exceeds every one of the arguments.
  pub data ExceedsEvery (above : ℕ → ℕ → Type 0) : Term → Args → Type 0 where
    none : {s : Term} → ExceedsEvery above s nil
    both : {s t : Term} {ts : Args} → Exceeds above s t → ExceedsEvery above s ts → ExceedsEvery above s (cons t ts)

  -- Some argument is identical to t or exceeds t.
  pub data SomeReaches (above : ℕ → ℕ → Type 0) : Args → Term → Type 0 where
    identical : {t : Term} {ss : Args} → SomeReaches above (cons t ss) t
    exceeding : {s t : Term} {ss : Args} → Exceeds above s t → SomeReaches above (cons s ss) t
    later : {s t : Term} {ss : Args} → SomeReaches above ss t → SomeReaches above (cons s ss) t
