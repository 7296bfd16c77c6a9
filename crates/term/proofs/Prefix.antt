-- The trees of nodes in prefix order: nodes that fill exactly `missing` subterms are the nodes of so many trees. By recursion on how the
-- nodes fill them, from the left. Assumes nothing.
use Prim.Native.Nat.{ℕ, zero, suc, ◌+◌, pred, ◌≤◌, ◌<◌}
use mathlib.Core.Bool.{true, ◌&&◌}
use mathlib.Core.List.{List, [], ◌∷◌, ◌++◌, Memᴰ, append_assoc, append-nil}
use mathlib.Core.Path.{◌≡◌, refl, sym, ap, subst, ◌∙◌}
use native.Mathlib.Omega.{arith}
use lib.Dec.{T, eqb, ltb, lt→ltb, eqb_refl}
use lib.ListN.{length, get_or, take, drop, take-append-drop, length-drop}
use lib.Seq.{length-take-le}
use Rattle.term.specs.Term.{Term, Args, var, app, nil, cons, size, sizes, count, args, over, overs, variable_free, variables_free}
use Rattle.term.specs.Prefix.{Node, symbolic, variable, arity_of, onto, trees, tree, prefix, prefixes}
use Rattle.term.specs.Replacement.{Occurs, OccursIn, it, under, first, later}
use Rattle.reply.proofs.Tests.{and_left, and_right, and_both}

-- A node that may stand: a declared symbol, or a variable that may.
pub data NodeOver (arities : List ℕ) (Variable : ℕ → Type 0) : Node → Type 0 where
  declared : {f : ℕ} → f < length arities → NodeOver arities Variable (symbolic f)
  standing : {x : ℕ} → Variable x → NodeOver arities Variable (variable x)

-- The count of a reader: where `missing` subterms are to come and these nodes do, `remaining` are still to come behind them. A node comes
-- only where one is missing; it takes one away and adds its arity.
pub data Leaves (arities : List ℕ) (Variable : ℕ → Type 0) : (missing : ℕ) → List Node → (remaining : ℕ) → Type 0 where
  no_node : {missing : ℕ} → Leaves arities Variable missing [] missing
  node :
      {missing remaining : ℕ} {this : Node} {nodes : List Node} → NodeOver arities Variable this →
      Leaves arities Variable (missing + arity_of arities this) nodes remaining → Leaves arities Variable (suc missing) (this ∷ nodes) remaining

-- The two bytes of a node, and of nodes one after another.
unfoldable pub node_bytes : Node → List ℕ
node_bytes (symbolic f) = 3 ∷ f ∷ []
node_bytes (variable x) = 4 ∷ x ∷ []

unfoldable pub nodes_bytes : List Node → List ℕ
nodes_bytes [] = []
nodes_bytes (this ∷ nodes) = node_bytes this ++ nodes_bytes nodes

pub nodes_bytes_append : (nodes more : List Node) → nodes_bytes (nodes ++ more) ≡ nodes_bytes nodes ++ nodes_bytes more
unfolding nodes_bytes
nodes_bytes_append [] more = refl
nodes_bytes_append (this ∷ nodes) more = rw (nodes_bytes_append nodes more, append_assoc)

-- What the trees of nodes are.
pub record TreesOf (arities : List ℕ) (missing : ℕ) (nodes : List Node) (ts : List Term) : Type 0 where
  pub number : length ts ≡ missing
  pub over_symbols : T (overs arities (args ts))
  pub node_count : sizes (args ts) ≡ length nodes
  pub variables : (x : ℕ) → OccursIn x (args ts) → Memᴰ (variable x) nodes
  pub occurring : (x : ℕ) → Memᴰ (variable x) nodes → OccursIn x (args ts)
  pub bytes : prefixes (args ts) ≡ nodes_bytes nodes

module _ {arities : List ℕ} {Variable : ℕ → Type 0} where
  pub leaves_append :
      {a b c : ℕ} {nodes more : List Node} → Leaves arities Variable a nodes b → Leaves arities Variable b more c →
      Leaves arities Variable a (nodes ++ more) c
  leaves_append no_node l = l
  leaves_append (node ok k) l = node ok (leaves_append k l)

  -- One node more at the end, as a reader takes it.
  pub leaves_next :
      {a : ℕ} {nodes : List Node} {this : Node} (missing : ℕ) → 0 < missing → Leaves arities Variable a nodes missing →
      NodeOver arities Variable this → Leaves arities Variable a (nodes ++ (this ∷ [])) (pred missing + arity_of arities this)
  leaves_next zero some_missing_lem l ok = absurd (omega arith)
  leaves_next (suc missing) some_missing_lem l ok = leaves_append l (node ok no_node)

  leaves_over : {a b : ℕ} {nodes : List Node} {this : Node} → Leaves arities Variable a nodes b → Memᴰ this nodes → NodeOver arities Variable this
  leaves_over no_node m = elim m [ ]
  leaves_over (node ok k) (Memᴰ.head e) = rw e ok
  leaves_over (node ok k) (Memᴰ.tail m) = leaves_over k m

  over_variable : {x : ℕ} → NodeOver arities Variable (variable x) → Variable x
  over_variable (standing v) = v

  -- Only variables that may stand do.
  pub leaves_variable : {a b x : ℕ} {nodes : List Node} → Leaves arities Variable a nodes b → Memᴰ (variable x) nodes → Variable x
  leaves_variable l m = over_variable (leaves_over l m)

-- A term in which no variable occurs is without variables.
mutual
  unfolding variable_free

  pub no-variable→free : (t : Term) → ((x : ℕ) → Occurs x t → ⊥) → T (variable_free t)
  no-variable→free (var x) none = none x it
  no-variable→free (app f ts) none = no-variables→free ts (λ x o. none x (under o))

  no-variables→free : (ts : Args) → ((x : ℕ) → OccursIn x ts → ⊥) → T (variables_free ts)
  no-variables→free nil none = tt
  no-variables→free (cons t ts) none =
      and_both (variable_free t) (variables_free ts) (no-variable→free t (λ x o. none x (first o))) (no-variables→free ts (λ x o. none x (later o)))

-- The parts of trees one after another are the parts of the trees in front and of those behind.
count_args : (ts : List Term) → count (args ts) ≡ length ts
unfolding count args
count_args [] = refl
count_args (t ∷ ts) = ap suc (count_args ts)

overs_front : (arities : List ℕ) (front behind : List Term) → T (overs arities (args (front ++ behind))) → T (overs arities (args front))
unfolding over args
overs_front arities [] behind h = tt
overs_front arities (t ∷ front) behind h =
    and_both (over arities t) (overs arities (args front))
    (and_left (over arities t) (overs arities (args (front ++ behind))) h)
    (overs_front arities front behind (and_right (over arities t) (overs arities (args (front ++ behind))) h))

overs_behind : (arities : List ℕ) (front behind : List Term) → T (overs arities (args (front ++ behind))) → T (overs arities (args behind))
unfolding over args
overs_behind arities [] behind h = h
overs_behind arities (t ∷ front) behind h =
    overs_behind arities front behind (and_right (over arities t) (overs arities (args (front ++ behind))) h)

sizes_append : (front behind : List Term) → sizes (args (front ++ behind)) ≡ sizes (args front) + sizes (args behind)
unfolding size args
sizes_append [] behind = omega arith
sizes_append (t ∷ front) behind = omega (arith, sizes_append front behind)

prefixes_append : (front behind : List Term) → prefixes (args (front ++ behind)) ≡ prefixes (args front) ++ prefixes (args behind)
unfolding prefix args
prefixes_append [] behind = refl
prefixes_append (t ∷ front) behind = rw (prefixes_append front behind, append_assoc)

occurs_front : (x : ℕ) (front behind : List Term) → OccursIn x (args front) → OccursIn x (args (front ++ behind))
unfolding args
occurs_front x [] behind o = elim o [ ]
occurs_front x (t ∷ front) behind (first o) = first o
occurs_front x (t ∷ front) behind (later o) = later (occurs_front x front behind o)

occurs_behind : (x : ℕ) (front behind : List Term) → OccursIn x (args behind) → OccursIn x (args (front ++ behind))
unfolding args
occurs_behind x [] behind o = o
occurs_behind x (t ∷ front) behind o = later (occurs_behind x front behind o)

-- What occurs among all the trees still does once those in front stand under a symbol.
occurs_under : (x f : ℕ) (front behind : List Term) → OccursIn x (args (front ++ behind)) → OccursIn x (args (app f (args front) ∷ behind))
unfolding args
occurs_under x f [] behind o = later o
occurs_under x f (t ∷ front) behind (first o) = first (under (first o))
occurs_under x f (t ∷ front) behind (later o) = deeper (occurs_under x f front behind o)
  where
    deeper : OccursIn x (args (app f (args front) ∷ behind)) → OccursIn x (args (app f (args (t ∷ front)) ∷ behind))
    deeper (first (under o')) = first (under (later o'))
    deeper (later o') = later o'

-- A declared symbol with as many arguments as its arity says.
pub over_app : (arities : List ℕ) (f : ℕ) (ts : Args) → f < length arities → get_or arities f 0 ≡ count ts → T (overs arities ts) → T (over arities (app f ts))
unfolding over
over_app arities f ts d e h =
    and_both (ltb f (length arities) && eqb (get_or arities f 0) (count ts)) (overs arities ts)
    (and_both (ltb f (length arities)) (eqb (get_or arities f 0) (count ts)) (lt→ltb f (length arities) d) (rw e (eqb_refl (count ts))))
    h

-- A symbol takes as many trees from those behind it as its arity says.
symbol_ahead :
    (arities : List ℕ) (f missing : ℕ) (nodes : List Node) (front behind : List Term) → f < length arities →
    length front ≡ get_or arities f 0 → length behind ≡ missing → TreesOf arities (missing + get_or arities f 0) nodes (front ++ behind) →
    TreesOf arities (suc missing) (symbolic f ∷ nodes) (app f (args front) ∷ behind)
unfolding over size prefix args node_bytes nodes_bytes
symbol_ahead arities f missing nodes front behind d lf lb r =
    record {
      number = ap suc lb;
      over_symbols =
          and_both (over arities (app f (args front))) (overs arities (args behind))
          (over_app arities f (args front) d (sym (count_args front ∙ lf)) (overs_front arities front behind r.over_symbols))
          (overs_behind arities front behind r.over_symbols);
      node_count = omega (arith, sizes_append front behind, r.node_count);
      variables =
          λ x o. elim o [
            | first (under o') ↦ Memᴰ.tail (r.variables x (occurs_front x front behind o'))
            | later o' ↦ Memᴰ.tail (r.variables x (occurs_behind x front behind o'))
          ];
      occurring = λ x m. elim m [ Memᴰ.head e ↦ absurd (let z : ◌≡◌ {A = ℕ} 0 1 = cc e in omega arith) | Memᴰ.tail m' ↦ occurs_under x f front behind (r.occurring x m') ];
      bytes = ap (λ (l : List ℕ). 3 ∷ f ∷ l) (sym (prefixes_append front behind) ∙ r.bytes);
    }

-- Only x itself occurs in the variable x.
occurs_var : {x y : ℕ} → Occurs y (var x) → y ≡ x
occurs_var it = refl

var_occurs : {x y : ℕ} → y ≡ x → Occurs y (var x)
var_occurs {y = y} e = subst (λ (z : ℕ). Occurs y (var z)) e it

variable_ahead :
    (arities : List ℕ) (x missing : ℕ) (nodes : List Node) (ts : List Term) → TreesOf arities missing nodes ts →
    TreesOf arities (suc missing) (variable x ∷ nodes) (var x ∷ ts)
unfolding over size prefix args node_bytes nodes_bytes
variable_ahead arities x missing nodes ts r =
    record {
      number = ap suc r.number;
      over_symbols = r.over_symbols;
      node_count = omega (arith, r.node_count);
      variables = λ y o. elim o [ first o' ↦ Memᴰ.head (ap variable (occurs_var o')) | later o' ↦ Memᴰ.tail (r.variables y o') ];
      occurring = λ y m. elim m [ Memᴰ.head e ↦ first (var_occurs {x = x} {y = y} (cc e)) | Memᴰ.tail m' ↦ later (r.occurring y m') ];
      bytes = ap (λ (l : List ℕ). 4 ∷ x ∷ l) r.bytes;
    }

-- Nodes that fill exactly `missing` subterms have so many trees.
pub trees_fill :
    (arities : List ℕ) (Variable : ℕ → Type 0) {missing remaining : ℕ} {nodes : List Node} → Leaves arities Variable missing nodes remaining → remaining ≡ 0 →
    TreesOf arities missing nodes (trees arities nodes)
unfolding trees onto arity_of over size prefix args nodes_bytes
trees_fill arities Variable no_node e =
    record { number = sym e; over_symbols = tt; node_count = refl; variables = λ x o. elim o [ ]; occurring = λ x m. elim m [ ]; bytes = refl }
trees_fill arities Variable (node {missing} {nodes = nodes} (declared {f} d) l) e =
    let r : TreesOf arities (missing + get_or arities f 0) nodes (trees arities nodes) = trees_fill arities Variable l e in
    let k : get_or arities f 0 ≤ length (trees arities nodes) = omega (arith, r.number) in
    symbol_ahead arities f missing nodes (take (get_or arities f 0) (trees arities nodes)) (drop (get_or arities f 0) (trees arities nodes)) d
    (length-take-le (get_or arities f 0) (trees arities nodes) k)
    (length-drop (get_or arities f 0) (trees arities nodes) ∙ omega (arith, r.number))
    (rw take-append-drop r)
trees_fill arities Variable (node {missing} {nodes = nodes} (standing {x} v) l) e =
    variable_ahead arities x missing nodes (trees arities nodes) (subst (λ (m : ℕ). TreesOf arities m nodes (trees arities nodes)) (omega arith) (trees_fill arities Variable l e))

-- What the one tree of nodes is.
pub record TreeOf (arities : List ℕ) (nodes : List Node) (t : Term) : Type 0 where
  pub over_symbols : T (over arities t)
  pub node_count : size t ≡ length nodes
  pub variables : (x : ℕ) → Occurs x t → Memᴰ (variable x) nodes
  pub occurring : (x : ℕ) → Memᴰ (variable x) nodes → Occurs x t
  pub bytes : prefix t ≡ nodes_bytes nodes

-- One tree alone.
tree_alone : (arities : List ℕ) (nodes : List Node) (ts : List Term) → TreesOf arities 1 nodes ts → TreeOf arities nodes (get_or ts 0 (var 0))
unfolding over size prefix args
tree_alone arities nodes [] r = absurd (omega (arith, r.number))
tree_alone arities nodes (t ∷ []) r =
    record {
      over_symbols = and_left (over arities t) true r.over_symbols;
      node_count = omega (arith, r.node_count);
      variables = λ x o. r.variables x (first o);
      occurring = λ x m. elim (r.occurring x m) [ first o ↦ o | later o ↦ elim o [ ] ];
      bytes = sym (append-nil (prefix t)) ∙ r.bytes;
    }
tree_alone arities nodes (t ∷ u ∷ ts) r = absurd (omega (arith, r.number))

-- Nodes that fill exactly one subterm have one tree.
pub tree_fills :
    (arities : List ℕ) (Variable : ℕ → Type 0) (nodes : List Node) → Leaves arities Variable 1 nodes 0 →
    TreeOf arities nodes (tree arities nodes)
unfolding tree
tree_fills arities Variable nodes l = tree_alone arities nodes (trees arities nodes) (trees_fill arities Variable l refl)
