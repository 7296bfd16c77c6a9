-- The node of two bytes, and how many subterms it opens. Assumes nothing.
use Prim.Native.Nat.{ℕ}
use mathlib.Core.List.{List}
use mathlib.Core.Path.{◌≡◌, ap}
use borrow.Author.Tests.{eq-eqb, ne_eqb}
use lib.ListN.{get_or}
use Rattle.term.specs.Prefix.{symbolic, variable, node_of, arity_of}

pub symbol_node : (k b : ℕ) → k ≡ 3 → node_of k b ≡ symbolic b
unfolding node_of
symbol_node k b e = rw (node_of, eq-eqb k 3 e)

pub variable_node : (k b : ℕ) → (k ≡ 3 → ⊥) → node_of k b ≡ variable b
unfolding node_of
variable_node k b n = rw (node_of, ne_eqb k 3 n)

pub symbol_opens : (arities : List ℕ) (k b : ℕ) → k ≡ 3 → arity_of arities (node_of k b) ≡ get_or arities b 0
unfolding arity_of
symbol_opens arities k b e = ap (arity_of arities) (symbol_node k b e)

pub variable_opens : (arities : List ℕ) (k b : ℕ) → (k ≡ 3 → ⊥) → arity_of arities (node_of k b) ≡ 0
unfolding arity_of
variable_opens arities k b n = ap (arity_of arities) (variable_node k b n)
