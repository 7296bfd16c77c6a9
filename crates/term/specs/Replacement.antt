-- Variables: where they occur, and replacing them by terms.
use Rattle.std.specs.Prelude.{ℕ}
use Rattle.term.specs.Term.{Term, Args, var, app, nil, cons}

-- The variable x occurs in a term: it is the term, or it occurs in one of the arguments, the first or a later one. A place in the tree
-- and not a list of variables, so that what holds of every occurrence is shown along the tree.
mutual
  pub data Occurs (x : ℕ) : Term → Type 0 where
    it : Occurs x (var x)
    under : {f : ℕ} {ts : Args} → OccursIn x ts → Occurs x (app f ts)

  pub data OccursIn (x : ℕ) : Args → Type 0 where
    first : {t : Term} {ts : Args} → Occurs x t → OccursIn x (cons t ts)
    later : {t : Term} {ts : Args} → OccursIn x ts → OccursIn x (cons t ts)

-- A replacement of variables: a term for each.
abbrev pub Replacement : Type 0
Replacement = ℕ → Term

unfoldable mutual
  pub replace : Replacement → Term → Term
  replace σ (var x) = σ x
  replace σ (app f ts) = app f (replace_all σ ts)

  pub replace_all : Replacement → Args → Args
  replace_all σ nil = nil
  replace_all σ (cons t ts) = cons (replace σ t) (replace_all σ ts)
