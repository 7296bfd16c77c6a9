-- The tree of the nodes at a place is the term that stands there. Assumes nothing.
use Prim.Native.Nat.{ℕ, suc, ◌+◌}
use mathlib.Core.List.{List, ◌∷◌, ◌++◌}
use mathlib.Core.Path.{◌≡◌, refl, sym, ap, ap₂, ◌∙◌}
use native.Mathlib.Nat.{add-zero, zero-add, add_assoc}
use native.Mathlib.Omega.{arith}
use lib.ListN.{length, get_or}
use lib.Seq.{take_at, drop_at}
use Rattle.term.specs.Term.{Term, Args, var, app, nil, cons, size, sizes, count, listed, args}
use Rattle.term.specs.Prefix.{symbolic, node_of, onto, trees, tree, nodes_at, tree_at}
use Rattle.term.specs.At.{At, ArgsAt, variable_at, symbol_at, none_at, and_at}
use Rattle.term.proofs.At.{args_count}

-- Argument lists as lists, and back.
args_listed : (ts : Args) → args (listed ts) ≡ ts
unfolding args listed
args_listed nil = refl
args_listed (cons t ts) = ap (cons t) (args_listed ts)

listed_length : (ts : Args) → length (listed ts) ≡ count ts
unfolding listed count
listed_length nil = refl
listed_length (cons t ts) = ap suc (listed_length ts)

-- A symbol takes its own arguments off the trees behind it.
pub own_arguments :
    (arities : List ℕ) (f : ℕ) (ts : Args) (behind : List Term) → count ts ≡ get_or arities f 0 → onto arities (symbolic f) (listed ts ++ behind) ≡ app f ts ∷ behind
unfolding onto
own_arguments arities f ts behind many =
    ap₂ (λ (l r : List Term). app f (args l) ∷ r)
    (take_at (listed ts) behind (get_or arities f 0) (listed_length ts ∙ many)) (drop_at (listed ts) behind (get_or arities f 0) (listed_length ts ∙ many))
    ∙ ap (λ (l : Args). app f l ∷ behind) (args_listed ts)

-- The trees of the node at u and of those behind it.
node_front :
    (bytes arities : List ℕ) (u n m k b : ℕ) → n ≡ suc m → get_or bytes u 0 ≡ k → get_or bytes (u + 1) 0 ≡ b →
    trees arities (nodes_at bytes u n) ≡ onto arities (node_of k b) (trees arities (nodes_at bytes (u + 2) m))
unfolding nodes_at trees
node_front bytes arities u n m k b is kind body =
    ap (λ (l : ℕ). trees arities (nodes_at bytes u l)) is ∙ ap₂ (λ (i j : ℕ). onto arities (node_of i j) (trees arities (nodes_at bytes (u + 2) m))) kind body

module _ {bytes arities : List ℕ} where
  -- The trees of some more nodes than a term has are that term and the trees behind it.
  mutual
    unfolding size node_of onto listed

    at_front :
        {u : ℕ} {t : Term} {e : ℕ} → At bytes arities u t e → (m : ℕ) → trees arities (nodes_at bytes u (size t + m)) ≡ t ∷ trees arities (nodes_at bytes e m)
    at_front (variable_at {u = u} {x = x} w k b q) m =
        node_front bytes arities u (1 + m) m 4 x (omega arith) k b ∙ ap (λ (i : ℕ). var x ∷ trees arities (nodes_at bytes i m)) (sym q)
    at_front (symbol_at {u = u} {f = f} {e = e} {ts = ts} w k b d h) m =
        node_front bytes arities u (suc (sizes ts) + m) (sizes ts + m) 3 f (omega arith) k b
        ∙ ap (onto arities (symbolic f)) (all_front h m)
        ∙ own_arguments arities f ts (trees arities (nodes_at bytes e m)) (args_count h)

    all_front :
        {many u : ℕ} {ts : Args} {e : ℕ} → ArgsAt bytes arities many u ts e → (m : ℕ) →
        trees arities (nodes_at bytes u (sizes ts + m)) ≡ listed ts ++ trees arities (nodes_at bytes e m)
    all_front (none_at {u = u}) m = ap (λ (n : ℕ). trees arities (nodes_at bytes u n)) (zero-add m)
    all_front (and_at {u = u} {t = t} {ts = ts} h hs) m =
        ap (λ (n : ℕ). trees arities (nodes_at bytes u n)) (add_assoc (size t) (sizes ts) m)
        ∙ at_front h (sizes ts + m) ∙ ap (λ (l : List Term). t ∷ l) (all_front hs m)

  pub tree_back : {u : ℕ} {t : Term} {e : ℕ} → At bytes arities u t e → tree_at bytes arities u (size t) ≡ t
  unfolding tree_at tree nodes_at trees
  tree_back {u} {t} h = ap (λ (n : ℕ). get_or (trees arities (nodes_at bytes u n)) 0 (var 0)) (sym (add-zero (size t))) ∙ ap (λ (ts : List Term). get_or ts 0 (var 0)) (at_front h 0)
