-- Sides in the bytes of a book: the nodes that came so far stand one after another, and once no subterm is missing the tree that they
-- are stands there. Assumes nothing.
use Prim.Native.Nat.{ℕ, suc, ◌+◌, ◌*◌, pred, ◌<◌}
use mathlib.Core.List.{List, [], ◌∷◌, ◌++◌, append_assoc}
use mathlib.Core.Path.{◌≡◌, refl, sym, ap, ap₂, subst₂, ◌∙◌}
use native.Mathlib.Nat.{add-zero}
use native.Mathlib.Numerals.{add-one, add-two}
use native.Mathlib.Omega.{arith}
use lib.ListN.{length, get_or, take, drop}
use lib.Seq.{drop-cons, drop-drop, get_or-drop, take-append_seam}
use Rattle.term.specs.Term.{Term, size}
use Rattle.term.specs.Prefix.{Node, symbolic, variable, node_of, arity_of, prefix, tree, nodes_at, tree_at}
use Rattle.term.specs.At.{At}
use Rattle.term.proofs.Prefix.{NodeOver, Leaves, no_node, leaves_next, node_bytes, nodes_bytes, TreeOf, tree_fills}
use Rattle.term.proofs.PrefixAt.{prefix_at}

-- No node is out of bounds here: what its variables may be is another law's.
abbrev pub AnyVariable : ℕ → Type 0
AnyVariable x = Unit {0}

-- The nodes of a side that came so far, from u to p, with so many subterms still missing.
pub record SoFar (bytes arities : List ℕ) (u missing : ℕ) (nodes : List Node) (p : ℕ) : Type 0 where
  pub filled : Leaves arities AnyVariable 1 nodes missing
  pub their_bytes : drop u bytes ≡ nodes_bytes nodes ++ drop p bytes

pub none_so_far : (bytes arities : List ℕ) (u : ℕ) → SoFar bytes arities u 1 [] u
unfolding nodes_bytes
none_so_far bytes arities u = record { filled = no_node; their_bytes = refl }

-- Two bytes at p.
pub two_bytes : (bytes : List ℕ) (p : ℕ) → p + 1 < length bytes → drop p bytes ≡ get_or bytes p 0 ∷ get_or bytes (p + 1) 0 ∷ drop (p + 2) bytes
two_bytes bytes p w =
    drop-cons bytes p 0 (omega arith)
    ∙ ap (λ (l : List ℕ). get_or bytes p 0 ∷ l) (drop-cons bytes (suc p) 0 (omega arith))
    ∙ ap₂ (λ (i j : ℕ). get_or bytes p 0 ∷ get_or bytes i 0 ∷ drop j bytes) (sym (add-one p)) (sym (add-two p))

nodes_append : (nodes : List Node) (this : Node) → nodes_bytes (nodes ++ (this ∷ [])) ≡ nodes_bytes nodes ++ node_bytes this
unfolding nodes_bytes node_bytes
nodes_append [] (symbolic f) = refl
nodes_append [] (variable x) = refl
nodes_append (n ∷ nodes) this = ap (λ (l : List ℕ). node_bytes n ++ l) (nodes_append nodes this) ∙ sym (append_assoc (node_bytes n) (nodes_bytes nodes) (node_bytes this))

-- One node more.
pub one_more :
    {bytes arities : List ℕ} {u missing : ℕ} {nodes : List Node} {p : ℕ} (e : ℕ) (this : Node) → SoFar bytes arities u missing nodes p → 0 < missing →
    NodeOver arities AnyVariable this → drop p bytes ≡ node_bytes this ++ drop e bytes →
    SoFar bytes arities u (pred missing + arity_of arities this) (nodes ++ (this ∷ [])) e
one_more {bytes} {arities} {u} {missing} {nodes} {p} e this so some ok its =
    record {
      filled = leaves_next missing some so.filled ok;
      their_bytes =
          so.their_bytes
          ∙ ap (λ (l : List ℕ). nodes_bytes nodes ++ l) its
          ∙ sym (append_assoc (nodes_bytes nodes) (node_bytes this) (drop e bytes))
          ∙ ap (λ (l : List ℕ). l ++ drop e bytes) (sym (nodes_append nodes this));
    }

-- What stands behind u is found at its place.
at_place : (bytes text : List ℕ) (u i : ℕ) → drop u bytes ≡ text → get_or bytes (u + i) 0 ≡ get_or text i 0
at_place bytes text u i e = sym (get_or-drop u bytes i 0) ∙ ap (λ (l : List ℕ). get_or l i 0) e

-- The node of a node's two bytes.
node_back :
    (bytes rest : List ℕ) (this : Node) (u : ℕ) → drop u bytes ≡ node_bytes this ++ rest →
    (node_of (get_or bytes u 0) (get_or bytes (u + 1) 0) ≡ this) × (drop (u + 2) bytes ≡ rest)
unfolding node_bytes node_of
node_back bytes rest (symbolic f) u e = (
  ap₂ node_of (ap (λ (i : ℕ). get_or bytes i 0) (sym (add-zero u)) ∙ at_place bytes (3 ∷ f ∷ rest) u 0 e) (at_place bytes (3 ∷ f ∷ rest) u 1 e),
  sym (drop-drop 2 u bytes) ∙ ap (drop 2) e,
)
node_back bytes rest (variable x) u e = (
  ap₂ node_of (ap (λ (i : ℕ). get_or bytes i 0) (sym (add-zero u)) ∙ at_place bytes (4 ∷ x ∷ rest) u 0 e) (at_place bytes (4 ∷ x ∷ rest) u 1 e),
  sym (drop-drop 2 u bytes) ∙ ap (drop 2) e,
)

-- Nodes are read back from their bytes.
nodes_back : (bytes rest : List ℕ) (nodes : List Node) (u : ℕ) → drop u bytes ≡ nodes_bytes nodes ++ rest → nodes_at bytes u (length nodes) ≡ nodes
unfolding nodes_bytes nodes_at
nodes_back bytes rest [] u e = refl
nodes_back bytes rest (this ∷ nodes) u e =
    let back = node_back bytes (nodes_bytes nodes ++ rest) this u (e ∙ append_assoc (node_bytes this) (nodes_bytes nodes) rest) in
    ap₂ (λ (n : Node) (ns : List Node). n ∷ ns) back.0 (nodes_back bytes rest nodes (u + 2) back.1)

-- The tree of so many nodes from u on stands there, and has so many.
pub record SideAt (bytes arities : List ℕ) (u many : ℕ) : Type 0 where
  pub stands : At bytes arities u (tree_at bytes arities u many) (u + 2 * many)
  pub nodes : size (tree_at bytes arities u many) ≡ many

-- A whole side.
pub side_whole_lem :
    {bytes arities : List ℕ} {u : ℕ} {nodes : List Node} {p : ℕ} → SoFar bytes arities u 0 nodes p →
    (tree_at bytes arities u (length nodes) ≡ tree arities nodes) × SideAt bytes arities u (length nodes)
unfolding tree_at
side_whole_lem {bytes} {arities} {u} {nodes} {p} so =
    let of : TreeOf arities nodes (tree arities nodes) = tree_fills arities AnyVariable nodes so.filled in
    let back : tree_at bytes arities u (length nodes) ≡ tree arities nodes = ap (tree arities) (nodes_back bytes (drop p bytes) nodes u so.their_bytes) in
    let its : drop u bytes ≡ prefix (tree arities nodes) ++ drop p bytes = so.their_bytes ∙ ap (λ (l : List ℕ). l ++ drop p bytes) (sym of.bytes) in
    let here : take (length (prefix (tree arities nodes))) (drop u bytes) ≡ prefix (tree arities nodes) =
    ap (take (length (prefix (tree arities nodes)))) its ∙ take-append_seam (prefix (tree arities nodes)) (drop p bytes)
    in (
      back,
      record {
        stands =
            subst₂ (λ (t : Term) (n : ℕ). At bytes arities u t (u + 2 * n)) (sym back) of.node_count (prefix_at (tree arities nodes) u of.over_symbols here);
        nodes = ap size back ∙ of.node_count;
      },
    )
