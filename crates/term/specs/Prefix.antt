-- Terms in prefix order: as bytes, two a node, and back from nodes and from the bytes at a place.
use Rattle.std.specs.Prelude.{ℕ, zero, suc, ◌+◌, true, false, List, [], ◌∷◌, ◌++◌, eqb, get_or, take, drop}
use Rattle.term.specs.Term.{Term, Args, var, app, nil, cons, args}

-- "3 symbol node, body the symbol number; 4 variable node, body the variable number", in prefix order.
unfoldable mutual
  pub prefix : Term → List ℕ
  prefix (var x) = 4 ∷ x ∷ []
  prefix (app f ts) = 3 ∷ f ∷ prefixes ts

  pub prefixes : Args → List ℕ
  prefixes nil = []
  prefixes (cons t ts) = prefix t ++ prefixes ts

-- One node of a term, as its two bytes tell it.
pub data Node : Type 0 where
  symbolic : ℕ → Node
  variable : ℕ → Node

unfoldable pub node_of : (kind body : ℕ) → Node
node_of k b = elim (eqb k 3) [ true ↦ symbolic b | false ↦ variable b ]

-- How many subterms a node opens.
unfoldable pub arity_of : (arities : List ℕ) → Node → ℕ
arity_of arities (symbolic f) = get_or arities f 0
arity_of arities (variable x) = 0

-- A symbol takes its arguments from the trees that stand behind it.
unfoldable pub onto : (arities : List ℕ) → Node → List Term → List Term
onto arities (symbolic f) ts = app f (args (take (get_or arities f 0) ts)) ∷ drop (get_or arities f 0) ts
onto arities (variable x) ts = var x ∷ ts

-- The trees whose nodes stand one after another in prefix order.
unfoldable pub trees : (arities : List ℕ) → List Node → List Term
trees arities [] = []
trees arities (node ∷ nodes) = onto arities node (trees arities nodes)

-- The one tree of a whole term's nodes.
unfoldable pub tree : (arities : List ℕ) → List Node → Term
tree arities nodes = get_or (trees arities nodes) 0 (var 0)

-- So many nodes from place u on, and the tree of them.
unfoldable pub nodes_at : (bytes : List ℕ) (u many : ℕ) → List Node
nodes_at bytes u zero = []
nodes_at bytes u (suc many) = node_of (get_or bytes u 0) (get_or bytes (u + 1) 0) ∷ nodes_at bytes (u + 2) many

unfoldable pub tree_at : (bytes arities : List ℕ) (u many : ℕ) → Term
tree_at bytes arities u many = tree arities (nodes_at bytes u many)
