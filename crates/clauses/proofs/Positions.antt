-- Subterms in prefix order: node u of a side stands at position u of the list of its subterms. Assumes nothing.
use Prim.Native.Nat.{ℕ, zero, suc, ◌+◌, ◌<◌}
use mathlib.Core.List.{List, [], ◌∷◌, ◌++◌, Memᴰ}
use mathlib.Core.Path.{◌≡◌, refl, sym, ap, subst}
use native.Mathlib.Nat.{add-zero}
use native.Mathlib.Omega.{arith}
use lib.ListN.{length, get_or, length-append}
use Rattle.term.specs.Term.{Term, Args, var, app, nil, cons, size, sizes}
use Rattle.clauses.specs.Blocks.{Numbered, subterms, subterms_of}

mutual
  unfolding subterms size

  pub as_many_subterms : (u : ℕ) (t : Term) → length (subterms u t) ≡ size t
  as_many_subterms u (var x) = refl
  as_many_subterms u (app f ts) = ap suc (as_many_of (suc u) ts)

  as_many_of : (u : ℕ) (ts : Args) → length (subterms_of u ts) ≡ sizes ts
  as_many_of u nil = refl
  as_many_of u (cons t ts) = simp (length-append, as_many_subterms u t, as_many_of (u + size t) ts)

-- The nodes are numbered from u on, in order.
data InOrder : ℕ → List Numbered → Type 0 where
  none : {u : ℕ} → InOrder u []
  next : {u : ℕ} {s : Numbered} {ss : List Numbered} → s.node ≡ u → InOrder (suc u) ss → InOrder u (s ∷ ss)

in_order_append : {u : ℕ} {ss : List Numbered} (ts : List Numbered) → InOrder u ss → InOrder (u + length ss) ts → InOrder u (ss ++ ts)
in_order_append {u} ts none o = subst (λ (x : ℕ). InOrder x ts) (add-zero u) o
in_order_append {u} ts (next {ss = ss} e r) o =
    next e (in_order_append ts r (subst (λ (x : ℕ). InOrder x ts) (omega arith) o))

mutual
  unfolding subterms

  in_order : (u : ℕ) (t : Term) → InOrder u (subterms u t)
  in_order u (var x) = next refl none
  in_order u (app f ts) = next refl (in_order_of (suc u) ts)

  in_order_of : (u : ℕ) (ts : Args) → InOrder u (subterms_of u ts)
  in_order_of u nil = none
  in_order_of u (cons t ts) =
      in_order_append (subterms_of (u + size t) ts) (in_order u t)
      (subst (λ (x : ℕ). InOrder (u + x) (subterms_of (u + size t) ts)) (sym (as_many_subterms u t)) (in_order_of (u + size t) ts))

-- What a position behind the end gives.
unfoldable pub no_subterm : Numbered
no_subterm = record { node = 0; term = var 0 }

-- Where a member of a list in order stands.
record Position (u : ℕ) (s : Numbered) (ss : List Numbered) : Type 0 where
  at : ℕ
  counted : s.node ≡ u + at
  inside : at < length ss
  found : get_or ss at no_subterm ≡ s

position : {u : ℕ} {s : Numbered} {ss : List Numbered} → InOrder u ss → Memᴰ s ss → Position u s ss
position (next e o) (Memᴰ.head p) =
    let q = ap (λ (x : Numbered). x.node) p in
    record { at = 0; counted = omega arith; inside = omega arith; found = sym p }
position (next e o) (Memᴰ.tail m) =
    let p = position o m in
    let q = p.counted in
    let r = p.inside in
    record { at = suc p.at; counted = omega arith; inside = omega arith; found = p.found }
position {s = s} (none {u = u}) x4 = elim x4 [ ]

-- The subterm that is node u of the side.
unfoldable pub subterm_at : Term → (u : ℕ) → Term
subterm_at t u = (get_or (subterms 0 t) u no_subterm).term

module _ (t : Term) (s : Numbered) (m : Memᴰ s (subterms 0 t)) where
  here : Position 0 s (subterms 0 t)
  here = position (in_order 0 t) m

  at_its_node : here.at ≡ s.node
  at_its_node = let e = here.counted in omega arith

  pub node_within : s.node < size t
  node_within = let i = here.inside in omega (arith, at_its_node, as_many_subterms 0 t)

  pub subterm_at_node : subterm_at t s.node ≡ s.term
  unfolding subterm_at
  subterm_at_node = rw (← at_its_node) (ap (λ (x : Numbered). x.term) here.found)

listed_from : {u : ℕ} {ss : List Numbered} → InOrder u ss → (i : ℕ) → i < length ss →
    Memᴰ (record { node = u + i; term = (get_or ss i no_subterm).term }) ss
listed_from none i h = absurd (omega arith)
listed_from {u} (next {s = s} e o) zero h =
    let p : u + 0 ≡ s.node = omega arith in
    Memᴰ.head (λ i. record { node = p i; term = s.term })
listed_from {u} (next {s = s} {ss = ss} e o) (suc i) h =
    let p : u + suc i ≡ suc u + i = omega arith in
    Memᴰ.tail {xs = ss} (rw p (listed_from o i (omega arith)))

-- Every node is listed.
pub node_listed : (t : Term) (u : ℕ) → u < size t → Memᴰ (record { node = u; term = subterm_at t u }) (subterms 0 t)
unfolding subterm_at
node_listed t u h =
    let p : 0 + u ≡ u = omega arith in
    rw p at (listed_from (in_order 0 t) u (omega (arith, as_many_subterms 0 t)))
