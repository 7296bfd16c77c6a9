-- When a rule's left side fits a subterm.
use Rattle.std.specs.Prelude.{ℕ, Bool, true, false, List, [], ◌∷◌, ◌++◌, ◌≡◌, eqb}
use Rattle.term.specs.Term.{Term, Args, var, app, nil, cons, same}
use Rattle.term.specs.Replacement.{Replacement, replace}

-- "A rule fits a subterm if some replacement of its variables makes the left side identical to it".
unfoldable pub Fits : (left s : Term) → Type 0
Fits left s = (σ : Replacement) × (replace σ left ≡ s)

-- What stands at a variable.
pub record Binding : Type 0 where
  pub variable : ℕ
  pub term : Term

-- What stands in s at each variable of the left side, in prefix order.
unfoldable mutual
  pub standing : (left s : Term) → List Binding
  standing (var x) s = record { variable = x; term = s } ∷ []
  standing (app f ls) (var y) = []
  standing (app f ls) (app g ss) = standings ls ss

  pub standings : (lefts ss : Args) → List Binding
  standings nil ss = []
  standings (cons l ls) nil = []
  standings (cons l ls) (cons s ss) = standing l s ++ standings ls ss

-- The match: each variable's first binding; a variable without one stays.
unfoldable pub bound : List Binding → Replacement
bound [] x = var x
bound (b ∷ bs) x = elim (eqb b.variable x) [ true ↦ b.term | false ↦ bound bs x ]

-- The replacement that a left side's variables ask for; it makes the left side identical to s only if the rule fits.
unfoldable pub matching : (left s : Term) → Replacement
matching left s = bound (standing left s)

-- The test: the match makes the left side identical to s; "a variable that occurs twice needs identical terms".
unfoldable pub fits : (left s : Term) → Bool
fits left s = same (replace (matching left s) left) s
