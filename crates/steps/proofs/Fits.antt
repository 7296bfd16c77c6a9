-- The test decides whether a left side fits. What stands in `replace σ left` at the variables of `left` is what σ puts there: the
-- bindings read off never contradict σ, and each variable of `left` has one. So the match agrees with every replacement that makes the
-- left side identical to the subterm. Assumes nothing.
use Prim.Native.Nat.{ℕ}
use mathlib.Core.Bool.{Bool, true, false}
use mathlib.Core.List.{List, [], ◌∷◌, ◌++◌, append_assoc, append-nil}
use mathlib.Core.Logic.{◌↔◌}
use mathlib.Core.Path.{◌≡◌, refl, sym, ap, ap₂, subst, ◌∙◌}
use lib.Dec.{T, eqb, eqb→eq, eqb_refl}
use Rattle.term.specs.Term.{Term, Args, var, app, nil, cons}
use Rattle.term.specs.Replacement.{Replacement, replace, replace_all, Occurs, OccursIn, it, under, first, later}
use Rattle.term.proofs.Same.{same→identical, identical→same}
use Rattle.steps.specs.Fits.{Fits, Binding, standing, standings, bound, matching, fits}

-- Two replacements that agree on the variables of a term give the same result.
mutual
  unfolding replace

  pub replace_agrees : (σ τ : Replacement) (t : Term) → ((x : ℕ) → Occurs x t → σ x ≡ τ x) → replace σ t ≡ replace τ t
  replace_agrees σ τ (var x) h = h x it
  replace_agrees σ τ (app f ts) h = ap (app f) (replace_all_agrees σ τ ts (λ x o. h x (under o)))

  replace_all_agrees : (σ τ : Replacement) (ts : Args) → ((x : ℕ) → OccursIn x ts → σ x ≡ τ x) → replace_all σ ts ≡ replace_all τ ts
  replace_all_agrees σ τ nil h = refl
  replace_all_agrees σ τ (cons t ts) h = ap₂ cons (replace_agrees σ τ t (λ x o. h x (first o))) (replace_all_agrees σ τ ts (λ x o. h x (later o)))

-- One binding of σ's in front: it is the variable's own, or the later bindings decide.
bound_in_front :
    (σ : Replacement) (y : ℕ) (rest : List Binding) (x : ℕ) → (eqb y x ≡ false → bound rest x ≡ σ x) →
    bound (record { variable = y; term = σ y } ∷ rest) x ≡ σ x
unfolding bound
bound_in_front σ y rest x h = go (eqb y x) refl
  where
    go : (b : Bool) → eqb y x ≡ b → (elim b [ true ↦ σ y | false ↦ bound rest x ]) ≡ σ x
    go true e = ap σ (eqb→eq y x (subst (λ (b : Bool). T b) (sym e) tt))
    go false e = h e

-- What is read off a replaced left side never contradicts the replacement ..
mutual
  unfolding standing replace

  never_against :
      (σ : Replacement) (l : Term) (rest : List Binding) (x : ℕ) → bound rest x ≡ σ x → bound (standing l (replace σ l) ++ rest) x ≡ σ x
  never_against σ (var y) rest x h = bound_in_front σ y rest x (λ e. h)
  never_against σ (app f ls) rest x h = none_against σ ls rest x h

  none_against :
      (σ : Replacement) (ls : Args) (rest : List Binding) (x : ℕ) → bound rest x ≡ σ x → bound (standings ls (replace_all σ ls) ++ rest) x ≡ σ x
  none_against σ nil rest x h = h
  none_against σ (cons l ls) rest x h =
      rw append_assoc (never_against σ l (standings ls (replace_all σ ls) ++ rest) x (none_against σ ls rest x h))

-- .. and each variable of the left side is bound.
mutual
  unfolding standing replace

  bound_where_it_occurs :
      (σ : Replacement) {l : Term} {x : ℕ} → Occurs x l → (rest : List Binding) → bound (standing l (replace σ l) ++ rest) x ≡ σ x
  bound_where_it_occurs σ {x = x} it rest =
      bound_in_front σ x rest x (λ e. absurd (subst (λ (b : Bool). T b) e (eqb_refl x)))
  bound_where_it_occurs σ (under o) rest = bound_where_one_occurs σ o rest

  bound_where_one_occurs :
      (σ : Replacement) {ls : Args} {x : ℕ} → OccursIn x ls → (rest : List Binding) → bound (standings ls (replace_all σ ls) ++ rest) x ≡ σ x
  bound_where_one_occurs σ (first {ts = ls} o) rest = rw append_assoc (bound_where_it_occurs σ o (standings ls (replace_all σ ls) ++ rest))
  bound_where_one_occurs σ {x = x} (later {t = l} {ts = ls} o) rest =
      rw append_assoc (never_against σ l (standings ls (replace_all σ ls) ++ rest) x (bound_where_one_occurs σ o rest))

-- The match agrees with whatever replacement makes the left side identical to the subterm.
pub matching_agrees : (left s : Term) (σ : Replacement) → replace σ left ≡ s → (x : ℕ) → Occurs x left → matching left s x ≡ σ x
unfolding matching
matching_agrees left s σ p x o =
    subst (λ (u : Term). bound (standing left u) x ≡ σ x) p (rw append-nil at (bound_where_it_occurs σ o []))

-- A left side that passes the test fits under the match.
pub matching_fits : (left s : Term) → T (fits left s) → replace (matching left s) left ≡ s
unfolding fits
matching_fits left s h = same→identical (replace (matching left s) left) s h

pub fits_decides : (left s : Term) → T (fits left s) ↔ Fits left s
unfolding Fits fits
fits_decides left s = (
  λ h. (matching left s, matching_fits left s h),
  λ (σ, p). identical→same (replace (matching left s) left) s (replace_agrees (matching left s) σ left (matching_agrees left s σ p) ∙ p),
)
