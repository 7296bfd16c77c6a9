-- Cases of the tables and of prefix order, computed. Assumes nothing.
use mathlib.Core.Path.{◌≡◌, refl}
use mathlib.Core.List.{[], ◌∷◌, map}
use Rattle.term.specs.Tables.{body_length}
use Rattle.term.specs.Term.{var, app, nil, cons}
use Rattle.term.specs.Prefix.{symbolic, variable, prefix, tree}
use Rattle.term.specs.Computing.{computing}

body_lengths_lem : map body_length (1 ∷ 2 ∷ 3 ∷ 4 ∷ 5 ∷ 6 ∷ 255 ∷ []) ≡ 1 ∷ 0 ∷ 1 ∷ 1 ∷ 0 ∷ 0 ∷ 0 ∷ []
unfolding computing
body_lengths_lem = refl

-- f/3 and g/1: f(y,g(x),x)
nodes_to_a_tree : tree (3 ∷ 1 ∷ []) (symbolic 0 ∷ variable 1 ∷ symbolic 1 ∷ variable 0 ∷ variable 0 ∷ []) ≡ app 0 (cons (var 1) (cons (app 1 (cons (var 0) nil)) (cons (var 0) nil)))
unfolding computing
nodes_to_a_tree = refl

a_tree_to_bytes : prefix (app 0 (cons (var 1) (cons (app 1 (cons (var 0) nil)) nil))) ≡ 3 ∷ 0 ∷ 4 ∷ 1 ∷ 3 ∷ 1 ∷ 4 ∷ 0 ∷ []
unfolding computing
a_tree_to_bytes = refl
