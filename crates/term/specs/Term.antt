-- Terms: a variable, or a symbol with its arguments.
use Rattle.std.specs.Prelude.{ℕ, suc, ◌+◌, Bool, true, false, ◌&&◌, List, [], ◌∷◌, eqb, ltb, length, get_or}

-- Argument lists are a type of their own, beside lists: a constructor that holds a list of terms would have the type inside another.
mutual
  pub data Term : Type 0 where
    var : ℕ → Term
    app : ℕ → Args → Term

  pub data Args : Type 0 where
    nil : Args
    cons : Term → Args → Args

-- The number of nodes, symbols and variables alike.
unfoldable mutual
  pub size : Term → ℕ
  size (var x) = 1
  size (app f ts) = suc (sizes ts)

  pub sizes : Args → ℕ
  sizes nil = 0
  sizes (cons t ts) = size t + sizes ts

-- How many arguments a list has.
unfoldable pub count : Args → ℕ
count nil = 0
count (cons t ts) = suc (count ts)

-- Argument lists as lists, and back.
unfoldable pub listed : Args → List Term
listed nil = []
listed (cons t ts) = t ∷ listed ts

unfoldable pub args : List Term → Args
args [] = nil
args (t ∷ ts) = cons t (args ts)

-- "Equality of terms is identity."
unfoldable mutual
  pub same : Term → Term → Bool
  same (var x) (var y) = eqb x y
  same (var x) (app g ts) = false
  same (app f ss) (var y) = false
  same (app f ss) (app g ts) = eqb f g && sames ss ts

  pub sames : Args → Args → Bool
  sames nil nil = true
  sames nil (cons t ts) = false
  sames (cons s ss) nil = false
  sames (cons s ss) (cons t ts) = same s t && sames ss ts

-- A term over declared symbols, each with as many arguments as its arity says.
unfoldable mutual
  pub over : (arities : List ℕ) → Term → Bool
  over arities (var x) = true
  over arities (app f ts) = ltb f (length arities) && eqb (get_or arities f 0) (count ts) && overs arities ts

  pub overs : (arities : List ℕ) → Args → Bool
  overs arities nil = true
  overs arities (cons t ts) = over arities t && overs arities ts

-- A term without variables.
unfoldable mutual
  pub variable_free : Term → Bool
  variable_free (var x) = false
  variable_free (app f ts) = variables_free ts

  pub variables_free : Args → Bool
  variables_free nil = true
  variables_free (cons t ts) = variable_free t && variables_free ts
