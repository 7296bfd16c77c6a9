-- The order ends from every term if `above` ends from every symbol. A term whose arguments all end is shown to end by recursion on
-- how its symbol ends, then on how its list of arguments ends, then on the derivation that it exceeds another. Assumes nothing.
use Prim.Native.Nat.{ℕ, zero, suc}
use mathlib.Core.Path.{◌≡◌, refl, sym, ap, subst, ◌∙◌}
use Rattle.term.specs.Term.{Term, Args, var, app, nil, cons, count}
use Rattle.order.specs.Exceeds.{Exceeds, DecreaseAt, ExceedsEvery, SomeReaches, case1, case2, case3, here, further, none, both, identical, exceeding, later}
use Rattle.order.specs.ReductionOrder.{Ends, ends}

pub never_itself : {A : Type 0} {R : A → A → Type 0} {a : A} → Ends R a → R a a → ⊥
never_itself (ends {a = a} lower) r = never_itself (lower a r) r

below_ends : {A : Type 0} {R : A → A → Type 0} {a b : A} → Ends R a → R a b → Ends R b
below_ends {b = b} (ends lower) r = lower b r

-- A list of n terms, each of which ends.
data EachEnds (◌≻◌ : Term → Term → Type 0) : ℕ → Args → Type 0 where
  no_term : EachEnds ◌≻◌ zero nil
  and_more : {n : ℕ} {t : Term} {ts : Args} → Ends ◌≻◌ t → EachEnds ◌≻◌ n ts → EachEnds ◌≻◌ (suc n) (cons t ts)

-- Two lists of n terms: identical up to a place, there the first is above the second, and behind it the second has whatever ends.
data Falls (◌≻◌ : Term → Term → Type 0) : ℕ → Args → Args → Type 0 where
  now : {n : ℕ} {a b : Term} {ss ts : Args} → ◌≻◌ a b → EachEnds ◌≻◌ n ts → Falls ◌≻◌ (suc n) (cons a ss) (cons b ts)
  behind : {n : ℕ} {a : Term} {ss ts : Args} → Falls ◌≻◌ n ss ts → Falls ◌≻◌ (suc n) (cons a ss) (cons a ts)

-- From every list whose first term is below a, n terms that end behind it, the fall ends.
abbrev LowerFirst : (◌≻◌ : Term → Term → Type 0) (n : ℕ) (a : Term) → Type 0
LowerFirst ◌≻◌ n a = (b : Term) (ts : Args) → ◌≻◌ a b → EachEnds ◌≻◌ n ts → Ends (Falls ◌≻◌ (suc n)) (cons b ts)

module _ {◌≻◌ : Term → Term → Type 0} where
  count_each : {n : ℕ} {ts : Args} → EachEnds ◌≻◌ n ts → count ts ≡ n
  unfolding count
  count_each no_term = refl
  count_each (and_more a each) = ap suc (count_each each)

  fallen_ends : {n : ℕ} {ss ts : Args} → Falls ◌≻◌ n ss ts → EachEnds ◌≻◌ n ss → EachEnds ◌≻◌ n ts
  fallen_ends (now r each) (and_more a rest) = and_more (below_ends a r) each
  fallen_ends (behind fall) (and_more a rest) = and_more a (fallen_ends fall rest)

  -- A list falls at its first place or behind it.
  either_ends : {n : ℕ} {a : Term} {ss ts : Args} →
      LowerFirst ◌≻◌ n a →
      ((us : Args) → Falls ◌≻◌ n ss us → Ends (Falls ◌≻◌ (suc n)) (cons a us)) →
      Falls ◌≻◌ (suc n) (cons a ss) ts → Ends (Falls ◌≻◌ (suc n)) ts
  either_ends first rest (now {b = b} {ts = us} r each) = first b us r each
  either_ends first rest (behind {ts = us} fall) = rest us fall

  rest_ends : {n : ℕ} {a : Term} {ss : Args} → LowerFirst ◌≻◌ n a → Ends (Falls ◌≻◌ n) ss → Ends (Falls ◌≻◌ (suc n)) (cons a ss)
  rest_ends first (ends lower) = ends (λ ts. either_ends first (λ us fall. rest_ends first (lower us fall)))

  first_ends : {n : ℕ} {a : Term} →
      ((us : Args) → EachEnds ◌≻◌ n us → Ends (Falls ◌≻◌ n) us) →
      Ends ◌≻◌ a → (ss : Args) → EachEnds ◌≻◌ n ss → Ends (Falls ◌≻◌ (suc n)) (cons a ss)
  first_ends tails (ends lower) ss each = rest_ends (λ b us r e. first_ends tails (lower b r) us e) (tails ss each)

  list_ends : (n : ℕ) (ss : Args) → EachEnds ◌≻◌ n ss → Ends (Falls ◌≻◌ n) ss
  list_ends zero ss no_term = ends {a = nil} (λ ts fall. elim fall [ ])
  list_ends (suc n) ss (and_more {ts = ts} a each) = first_ends (list_ends n) a ts each

-- From every term of a symbol below f whose arguments end, the order ends.
abbrev LowerSymbol : (above : ℕ → ℕ → Type 0) (f : ℕ) → Type 0
LowerSymbol above f = (g n : ℕ) (ts : Args) → above f g → EachEnds (Exceeds above) n ts → Ends (Exceeds above) (app g ts)

-- What is known of s = f(ss) when each term that it exceeds is shown to end: the terms of lower symbols, the terms f(ts) whose
-- arguments ss falls to, and its own arguments end. The derivations' recursion wants this of s as a variable.
data Ready (above : ℕ → ℕ → Type 0) : Term → Type 0 where
  ready : {f n : ℕ} {ss : Args} →
      LowerSymbol above f →
      ((ts : Args) → Falls (Exceeds above) n ss ts → Ends (Exceeds above) (app f ts)) →
      EachEnds (Exceeds above) n ss → Ready above (app f ss)

module _ {above : ℕ → ℕ → Type 0} where
  reached_ends : {n : ℕ} {ss : Args} {t : Term} → SomeReaches above ss t → EachEnds (Exceeds above) n ss → Ends (Exceeds above) t
  reached_ends identical (and_more a each) = a
  reached_ends (exceeding e) (and_more a each) = below_ends a e
  reached_ends (later some) (and_more a each) = reached_ends some each

  mutual
    unfolding count

    exceeded_ends : {s t : Term} → Exceeds above s t → Ready above s → Ends (Exceeds above) t
    exceeded_ends (case1 {ts = ts} d) (ready lower falls each) = falls ts (decrease_falls d each (ready lower falls each))
    exceeded_ends (case2 {g = g} {ts = ts} p every) (ready lower falls each) = lower g (count ts) ts p (every_ends every (ready lower falls each))
    exceeded_ends (case3 some) (ready lower falls each) = reached_ends some each

    every_ends : {s : Term} {ts : Args} → ExceedsEvery above s ts → Ready above s → EachEnds (Exceeds above) (count ts) ts
    every_ends none r = no_term
    every_ends (both e every) r = and_more (exceeded_ends e r) (every_ends every r)

    decrease_falls : {n : ℕ} {s : Term} {ss ts : Args} →
        DecreaseAt above s ss ts → EachEnds (Exceeds above) n ss → Ready above s → Falls (Exceeds above) n ss ts
    decrease_falls (here {ts = ts} e every c) (and_more a each) r =
        now e (subst (λ n. EachEnds (Exceeds above) n ts) (sym c ∙ count_each each) (every_ends every r))
    decrease_falls (further d) (and_more a each) r = behind (decrease_falls d each r)

  list_app_ends : {f n : ℕ} {ss : Args} → LowerSymbol above f →
      Ends (Falls (Exceeds above) n) ss → EachEnds (Exceeds above) n ss → Ends (Exceeds above) (app f ss)
  list_app_ends symbols (ends lists) each =
      ends (λ t e. exceeded_ends e (ready symbols (λ ts fall. list_app_ends symbols (lists ts fall) (fallen_ends fall each)) each))

  app_ends : {f : ℕ} → Ends above f → (n : ℕ) (ss : Args) → EachEnds (Exceeds above) n ss → Ends (Exceeds above) (app f ss)
  app_ends (ends symbols) n ss each = list_app_ends (λ g m ts p. app_ends (symbols g p) m ts) (list_ends n ss each) each

  mutual
    unfolding count

    pub path_ends : ((f : ℕ) → Ends above f) → (t : Term) → Ends (Exceeds above) t
    path_ends symbols (var x) = ends {a = var x} (λ t e. elim e [ ])
    path_ends symbols (app f ts) = app_ends (symbols f) (count ts) ts (paths_end symbols ts)

    paths_end : ((f : ℕ) → Ends above f) → (ts : Args) → EachEnds (Exceeds above) (count ts) ts
    paths_end symbols nil = no_term
    paths_end symbols (cons t ts) = and_more (path_ends symbols t) (paths_end symbols ts)
