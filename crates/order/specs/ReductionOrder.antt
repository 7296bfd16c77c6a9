-- What demand 3 needs of an order on terms, whichever it is.
use Rattle.std.specs.Prelude.{ℕ, List, T}
use Rattle.term.specs.Term.{Term, Args, app, cons, over}
use Rattle.term.specs.Replacement.{Replacement, replace, Occurs}

-- No chain a ≻ b ≻ c .. goes on for ever from a.
pub data Ends {A : Type 0} (◌≻◌ : A → A → Type 0) : A → Type 0 where
  ends : {a : A} → ((b : A) → ◌≻◌ a b → Ends ◌≻◌ b) → Ends ◌≻◌ a

-- One argument is above the other list's; the rest are the same.
pub data AtOneArgument (◌≻◌ : Term → Term → Type 0) : Args → Args → Type 0 where
  in_first : {s t : Term} {ss : Args} → ◌≻◌ s t → AtOneArgument ◌≻◌ (cons s ss) (cons t ss)
  in_later : {s : Term} {ss ts : Args} → AtOneArgument ◌≻◌ ss ts → AtOneArgument ◌≻◌ (cons s ss) (cons s ts)

-- s is above t, both terms over the arities.
pub record Among (arities : List ℕ) (◌≻◌ : Term → Term → Type 0) (s t : Term) : Type 0 where
  pub left_over : T (over arities s)
  pub right_over : T (over arities t)
  pub above : ◌≻◌ s t

-- Among the terms over the arities it ends; it is kept under replacement by such terms and in contexts that stay among them; and it brings
-- no new variable. Of all terms this would be too much to ask, as there a symbol may stand with any number of arguments:
-- if lists of different lengths are compared (003, Definition 5) and b is above a, f(b) ≻ f(a,b) ≻ f(a,a,b) ≻ .. never ends;
-- under weights, a binary f of weight 0 below h gives h(c) ≻ f(h(c)) ≻ f(f(h(c))) ≻ .. , which never ends.
pub record ReductionOrder (arities : List ℕ) (◌≻◌ : Term → Term → Type 0) : Type 0 where
  pub comes_to_rest : (t : Term) → T (over arities t) → Ends (Among arities ◌≻◌) t
  pub kept_under_replacement :
      (σ : Replacement) (s t : Term) → Among arities ◌≻◌ s t → ((x : ℕ) → Occurs x s → T (over arities (σ x))) → ◌≻◌ (replace σ s) (replace σ t)
  pub kept_in_contexts :
      (f : ℕ) (ss ts : Args) → T (over arities (app f ss)) → T (over arities (app f ts)) → AtOneArgument ◌≻◌ ss ts → ◌≻◌ (app f ss) (app f ts)
  pub no_new_variable : (s t : Term) → ◌≻◌ s t → (x : ℕ) → Occurs x t → Occurs x s
