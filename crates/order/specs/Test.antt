-- The order as a test that computes, over a test `above` on the symbols.
use Rattle.std.specs.Prelude.{ℕ, zero, suc, ◌+◌, Bool, true, false, ◌&&◌, ◌||◌, List, eqb}
use Rattle.term.specs.Term.{Term, Args, var, app, nil, cons, size, count, same}
use Rattle.order.specs.Precedence.{above}

unfoldable pub every_arg : (Term → Bool) → Args → Bool
every_arg test nil = true
every_arg test (cons t ts) = test t && every_arg test ts

unfoldable pub some_arg : (Term → Bool) → Args → Bool
some_arg test nil = false
some_arg test (cons t ts) = test t || some_arg test ts

-- (1)'s i: identical arguments before it; at it the first exceeds the second, and s exceeds every later one.
unfoldable pub decrease_at : (exceeds : Term → Term → Bool) (s : Term) → Args → Args → Bool
decrease_at exceeds s nil ts = false
decrease_at exceeds s (cons a ss) nil = false
decrease_at exceeds s (cons a ss) (cons b ts) =
    exceeds a b && every_arg (exceeds s) ts && eqb (count ss) (count ts) || same a b && decrease_at exceeds s ss ts

-- "identical to t or exceeds t"
unfoldable pub reaches : (exceeds : Term → Term → Bool) (t s : Term) → Bool
reaches exceeds t s = same s t || exceeds s t

-- (1) t = f(t1..tm); for some i the arguments before i are identical, si exceeds ti, and s exceeds every tj with j > i
unfoldable pub case1_holds : (exceeds : Term → Term → Bool) (f : ℕ) (ss : Args) → Term → Bool
case1_holds exceeds f ss (var y) = false
case1_holds exceeds f ss (app g ts) = eqb f g && decrease_at exceeds (app f ss) ss ts

-- (2) t = g(t1..tn), f above g, and s exceeds every tj
unfoldable pub case2_holds : (above : ℕ → ℕ → Bool) (exceeds : Term → Term → Bool) (f : ℕ) (ss : Args) → Term → Bool
case2_holds above exceeds f ss (var y) = false
case2_holds above exceeds f ss (app g ts) = above f g && every_arg (exceeds (app f ss)) ts

-- (3) some si is identical to t or exceeds t
unfoldable pub case3_holds : (exceeds : Term → Term → Bool) (ss : Args) → Term → Bool
case3_holds exceeds ss t = some_arg (reaches exceeds t) ss

-- "s = f(s1..sm) and one of these holds", `exceeds` being the test for smaller terms.
unfoldable pub at_root : (above : ℕ → ℕ → Bool) (exceeds : Term → Term → Bool) (f : ℕ) (ss : Args) → Term → Bool
at_root above exceeds f ss t = case1_holds exceeds f ss t || case2_holds above exceeds f ss t || case3_holds exceeds ss t

-- The sizes of both sides together fall, so their sum is fuel enough.
unfoldable pub exceeds_in : (fuel : ℕ) (above : ℕ → ℕ → Bool) → Term → Term → Bool
exceeds_in zero above s t = false
exceeds_in (suc fuel) above (var x) t = false
exceeds_in (suc fuel) above (app f ss) t = at_root above (exceeds_in fuel above) f ss t

unfoldable pub exceeds : (ranks : List ℕ) → Term → Term → Bool
exceeds ranks s t = exceeds_in (size s + size t) (above ranks) s t
