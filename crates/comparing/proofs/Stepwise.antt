-- The order's test one case and one argument at a time, each stopping at once: what decides it, and what is left to ask otherwise.
-- That an identical argument does not exceed, and that a symbol is not above itself, is what lets it stop. Assumes nothing.
use Prim.Native.Nat.{ℕ}
use mathlib.Core.Bool.{Bool, true, false, ◌&&◌, ◌||◌, or-false, or-true}
use mathlib.Core.List.{List}
use mathlib.Core.Path.{◌≡◌, refl, ap, subst, ◌∙◌}
use native.Mathlib.Omega.{arith}
use lib.Dec.{eqb}
use lib.ListN.{get_or}
use borrow.Author.Tests.{eq-eqb, ne_eqb}
use Rattle.std.specs.Prelude.{None}
use Rattle.std.proofs.lemmas.Bool.{false_from_ne_true}
use Rattle.std.proofs.lemmas.Float.{T_from_true}
use Rattle.std.proofs.lemmas.Option.{none-some}
use Rattle.term.specs.Term.{Term, Args, var, app, nil, cons, count, same}
use Rattle.term.proofs.Same.{same→identical}
use Rattle.order.specs.Precedence.{Above, above}
use Rattle.order.specs.Test.{every_arg, some_arg, decrease_at, reaches, case1_holds, case2_holds, case3_holds, at_root, exceeds}
use Rattle.term.specs.Root.{symbol_of}
use Rattle.order.proofs.Decides.{above_decides, exceeds_decides, exceeds_root, exceeds_var}
use Rattle.order.proofs.PathOrder.{exceeds_irreflexive}

pub identical : (a b : Term) → same a b ≡ true → a ≡ b
identical a b e = same→identical a b (T_from_true (same a b) e)

module _ (ranks : List ℕ) where
  above_another : (f g : ℕ) → above ranks f g ≡ true → f ≡ g → ⊥
  unfolding Above
  above_another f g h p = let l = (above_decides ranks f g).0 (T_from_true (above ranks f g) h) in let q = ap (λ (k : ℕ). get_or ranks k 0) p in omega arith

  identical_does_not_exceed : (a b : Term) → same a b ≡ true → exceeds ranks a b ≡ false
  identical_does_not_exceed a b e =
      subst (λ (u : Term). exceeds ranks a u ≡ false) (identical a b e)
      (false_from_ne_true (exceeds ranks a a)
      (λ h. exceeds_irreflexive ranks a ((exceeds_decides ranks a a).0 (T_from_true (exceeds ranks a a) h))))

  -- (3), argument by argument.
  pub some_none : {ss : Args} → ss ≡ nil → (t : Term) → case3_holds (exceeds ranks) ss t ≡ false
  unfolding case3_holds some_arg
  some_none p t = rw (p, case3_holds, some_arg)

  module _ {ss : Args} {a : Term} {rest : Args} (parts : ss ≡ cons a rest) (t : Term) where
    pub some_identical_lem : same a t ≡ true → case3_holds (exceeds ranks) ss t ≡ true
    unfolding case3_holds some_arg reaches
    some_identical_lem e = rw (parts, case3_holds, some_arg, e)

    pub some_exceeds : exceeds ranks a t ≡ true → case3_holds (exceeds ranks) ss t ≡ true
    unfolding case3_holds some_arg reaches
    some_exceeds h = rw (parts, case3_holds, some_arg, h) (either (same a t) (case3_holds (exceeds ranks) rest t))
      where
        either : (x y : Bool) → x || true || y ≡ true
        either true y = refl
        either false y = refl

    pub some_later :
        same a t ≡ false → exceeds ranks a t ≡ false → case3_holds (exceeds ranks) ss t ≡ case3_holds (exceeds ranks) rest t
    unfolding case3_holds some_arg reaches
    some_later e h = rw (parts, case3_holds, some_arg, e, h)

  -- s exceeds every argument.
  pub every_none : {ts : Args} → ts ≡ nil → (s : Term) → every_arg (exceeds ranks s) ts ≡ true
  unfolding every_arg
  every_none p s = rw (p, every_arg)

  module _ {ts : Args} {b : Term} {rest : Args} (parts : ts ≡ cons b rest) (s : Term) where
    pub every_later : exceeds ranks s b ≡ true → every_arg (exceeds ranks s) ts ≡ every_arg (exceeds ranks s) rest
    unfolding every_arg
    every_later h = rw (parts, every_arg, h)

    pub every_fails : exceeds ranks s b ≡ false → every_arg (exceeds ranks s) ts ≡ false
    unfolding every_arg
    every_fails h = rw (parts, every_arg, h)

  -- (1), at the first argument that differs.
  pub decrease_none : {ss : Args} → ss ≡ nil → (s : Term) (ts : Args) → decrease_at (exceeds ranks) s ss ts ≡ false
  unfolding decrease_at
  decrease_none p s ts = rw (p, decrease_at)

  module _
      {ss ts : Args} {a b : Term} {as' bs : Args}
      (left : ss ≡ cons a as')
      (right : ts ≡ cons b bs)
      (s : Term) where
    pub decrease_later : same a b ≡ true → decrease_at (exceeds ranks) s ss ts ≡ decrease_at (exceeds ranks) s as' bs
    unfolding decrease_at
    decrease_later e = rw (left, right, decrease_at, identical_does_not_exceed a b e, e)

    pub decrease_here :
        same a b ≡ false → exceeds ranks a b ≡ true → count as' ≡ count bs → decrease_at (exceeds ranks) s ss ts ≡ every_arg (exceeds ranks s) bs
    unfolding decrease_at
    decrease_here e h counts =
        rw (left, right, decrease_at, e, h, eq-eqb (count as') (count bs) counts) (bare (every_arg (exceeds ranks s) bs))
      where
        bare : (x : Bool) → x && true || false ≡ x
        bare true = refl
        bare false = refl

    pub decrease_fails : same a b ≡ false → exceeds ranks a b ≡ false → decrease_at (exceeds ranks) s ss ts ≡ false
    unfolding decrease_at
    decrease_fails e h = rw (left, right, decrease_at, e, h)

  -- The cases at a root.
  pub variable_exceeds_nothing : (s t : Term) → None ≡ symbol_of s → exceeds ranks s t ≡ false
  unfolding symbol_of
  variable_exceeds_nothing (var x) t e = exceeds_var ranks x t
  variable_exceeds_nothing (app f ss) t e = absurd (none-some f e)

  module _ {s : Term} {f : ℕ} {ss : Args} (left : s ≡ app f ss) where
    at_left : (t : Term) → exceeds ranks s t ≡ at_root (above ranks) (exceeds ranks) f ss t
    at_left t = ap (λ (u : Term). exceeds ranks u t) left ∙ exceeds_root ranks f ss t

    pub root_reaches : (t : Term) → case3_holds (exceeds ranks) ss t ≡ true → exceeds ranks s t ≡ true
    unfolding at_root case3_holds
    root_reaches t e =
        at_left t ∙ rw e (or-true (case1_holds (exceeds ranks) f ss t || case2_holds (above ranks) (exceeds ranks) f ss t))

    pub root_variable : (t : Term) → None ≡ symbol_of t → case3_holds (exceeds ranks) ss t ≡ false → exceeds ranks s t ≡ false
    unfolding symbol_of at_root case1_holds case2_holds case3_holds
    root_variable (var y) v e = at_left (var y) ∙ e
    root_variable (app g ts) v e = absurd (none-some g v)

    module _ {t : Term} {g : ℕ} {ts : Args} (right : t ≡ app g ts) (e : case3_holds (exceeds ranks) ss t ≡ false) where
      two_roots :
          exceeds ranks s t ≡ (eqb f g && decrease_at (exceeds ranks) s ss ts || above ranks f g && every_arg (exceeds ranks s) ts)
      unfolding at_root case1_holds case2_holds case3_holds
      two_roots =
          let none : case3_holds (exceeds ranks) ss (app g ts) ≡ false = rw right at e in
          at_left t
          ∙ rw (right, left, at_root, none)
          (or-false (eqb f g && decrease_at (exceeds ranks) (app f ss) ss ts || above ranks f g && every_arg (exceeds ranks (app f ss)) ts))

      pub root_above : above ranks f g ≡ true → exceeds ranks s t ≡ every_arg (exceeds ranks s) ts
      root_above h = two_roots ∙ rw (h, ne_eqb f g (above_another f g h))

      pub root_equal : above ranks f g ≡ false → f ≡ g → exceeds ranks s t ≡ decrease_at (exceeds ranks) s ss ts
      root_equal h p = two_roots ∙ rw (h, eq-eqb f g p) (or-false (decrease_at (exceeds ranks) s ss ts))

      pub root_fails : above ranks f g ≡ false → (f ≡ g → ⊥) → exceeds ranks s t ≡ false
      root_fails h p = two_roots ∙ rw (h, ne_eqb f g p)
