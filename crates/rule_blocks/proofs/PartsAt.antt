-- The parts of D and of C at two nodes, by the roots that stand there. Assumes nothing.
use Prim.Native.Nat.{ℕ, suc, ◌+◌, ◌*◌, ◌<◌}
use mathlib.Core.List.{List, [], ◌∷◌, ◌++◌, map}
use mathlib.Core.Path.{◌≡◌, refl, sym, ap, ap₂, subst, ◌∙◌}
use native.Mathlib.Numerals.{add-one}
use native.Mathlib.Omega.{arith}
use lib.ListN.{length, get_or}
use borrow.Author.Tests.{eq-eqb, ne_eqb}
use Rattle.term.specs.Term.{Term, var, app, size, sizes, count, same}
use Rattle.std.specs.Prelude.{Some, None}
use Rattle.std.proofs.lemmas.Option.{same_Some, none-some}
use Rattle.term.specs.Root.{symbol_of, arguments}
use Rattle.term.specs.At.{At, ArgsAt, variable_at, symbol_at}
use Rattle.term.proofs.At.{at_arguments, args_count}
use Rattle.order.specs.Test.{some_arg}
use Rattle.clauses.specs.Numbering.{G, D}
use Rattle.clauses.specs.Blocks.{Numbered, numbered_args, Setting, CAt, DAt, parts_behind, parts_of_d, parts_of_c, some_identical}
use Rattle.rule_blocks.specs.Nodes.{NodeAt, NodesAt}
use Rattle.rule_blocks.proofs.Behind.{C_along_left}

size_arguments : (t : Term) → size t ≡ suc (sizes (arguments t))
unfolding size arguments
size_arguments (var x) = refl
size_arguments (app f ts) = refl

-- The arguments of a root stand from the next node on.
pub arguments_stand :
    {bytes arities : List ℕ} (start node : ℕ) {t : Term} {e : ℕ} {many : ℕ} → At bytes arities (start + 2 * node) t e → many ≡ count (arguments t) →
    ArgsAt bytes arities many (start + 2 * (node + 1)) (arguments t) e
arguments_stand {bytes} {arities} start node {t} {e} stands m =
    subst (λ (k : ℕ). ArgsAt bytes arities k (start + 2 * (node + 1)) (arguments t) e) (sym m)
    (subst (λ (u : ℕ). ArgsAt bytes arities (count (arguments t)) u (arguments t) e) (omega arith) (at_arguments stands))

pub node_arguments :
    {bytes arities : List ℕ} {start node many : ℕ} (here : NodeAt bytes arities start node) → many ≡ count (arguments here.term) →
    NodesAt bytes arities start (node + 1) many
node_arguments {start = start} {node = node} here m =
    record {
      terms = arguments here.term;
      behind = here.behind;
      stand = arguments_stand start node here.stands m;
      within = omega (arith, here.within, size_arguments here.term);
    }

-- A symbol at the root: it is one of sixteen, and its arity says how many arguments stand behind it.
pub record SymbolHere (arities : List ℕ) (f : ℕ) (t : Term) : Type 0 where
  pub is : t ≡ app f (arguments t)
  pub declared : f < length arities
  pub arity : count (arguments t) ≡ get_or arities f 0

pub symbol_here : {bytes arities : List ℕ} {u : ℕ} {t : Term} {e : ℕ} (f : ℕ) → At bytes arities u t e → symbol_of t ≡ Some f → SymbolHere arities f t
unfolding symbol_of arguments
symbol_here f (variable_at w k b q) root = absurd (none-some _ root)
symbol_here {arities = arities} f (symbol_at {f = g} {ts = ts} w k b l h) root =
    let same : g ≡ f = same_Some _ _ root in
    record {
      is = ap (λ (n : ℕ). app n ts) same;
      declared = subst (λ (n : ℕ). n < length arities) same l;
      arity = args_count h ∙ ap (λ (n : ℕ). get_or arities n 0) same;
    }

-- D's parts.
module _ (c : Setting) (u v : ℕ) (s t : Term) where
  pub d_variable : symbol_of s ≡ None → [] ≡ parts_of_d c u v s t
  unfolding parts_of_d symbol_of
  d_variable = go s
    where
      go : (s : Term) → symbol_of s ≡ None → [] ≡ parts_of_d c u v s t
      go (var x) e = refl
      go (app f ss) e = absurd (none-some _ (sym e))

  pub d_below_variable : symbol_of t ≡ None → [] ≡ parts_of_d c u v s t
  unfolding parts_of_d symbol_of
  d_below_variable = go s t
    where
      go : (s t : Term) → symbol_of t ≡ None → [] ≡ parts_of_d c u v s t
      go (var y) t e = refl
      go (app f ss) (var x) e = refl
      go (app f ss) (app g ts) e = absurd (none-some _ (sym e))

  pub d_same :
      {f g : ℕ} → s ≡ app f (arguments s) → t ≡ app g (arguments t) → f ≡ g →
      parts_behind c u (numbered_args (u + 1) (arguments s)) (numbered_args (v + 1) (arguments t)) ≡ parts_of_d c u v s t
  unfolding parts_of_d
  d_same {f} {g} p q e =
      ap₂ (λ (m n : ℕ). parts_behind c u (numbered_args m (arguments s)) (numbered_args n (arguments t))) (add-one u) (add-one v)
      ∙ rw (eq-eqb f g e, parts_of_d) refl
      ∙ ap₂ (parts_of_d c u v) (sym p) (sym q)

  pub d_apart :
      {f g : ℕ} → s ≡ app f (arguments s) → t ≡ app g (arguments t) → (f ≡ g → ⊥) →
      G c.n c.k f g c.k ∷ map (λ (t : Numbered). CAt c u t.node) (numbered_args (v + 1) (arguments t)) ≡ parts_of_d c u v s t
  unfolding parts_of_d
  d_apart {f} {g} p q e =
      ap (λ (n : ℕ). G c.n c.k f g c.k ∷ map (λ (t : Numbered). CAt c u t.node) (numbered_args n (arguments t))) (add-one v)
      ∙ rw (ne_eqb f g e, parts_of_d) refl
      ∙ ap₂ (parts_of_d c u v) (sym p) (sym q)

-- C's parts.
c_parts :
    (c : Setting) (u v : ℕ) (s : Term) →
    map (λ (s : Numbered). CAt c s.node v) (numbered_args (u + 1) (arguments s)) ++ (DAt c u v ∷ []) ≡ parts_of_c c u v s
unfolding parts_of_c arguments numbered_args
c_parts c u v (var x) = refl
c_parts c u v (app f ss) =
    ap (λ (n : ℕ). map (λ (s : Numbered). CAt c s.node v) (numbered_args n ss) ++ (DAt c u v ∷ [])) (add-one u)

pub c_parts_noted :
    (c : Setting) (u v : ℕ) (s : Term) {none parts whole : List ℕ} {first q : ℕ} → none ≡ [] → first ≡ CAt c 0 v →
    parts ≡ none ++ map (λ (s : Numbered). first + 2 * c.width * s.node) (numbered_args (u + 1) (arguments s)) → q ≡ CAt c u v →
    whole ≡ parts ++ ((q + 1) ∷ []) → whole ≡ parts_of_c c u v s
c_parts_noted c u v s {first = first} {q = q} e f p g w =
    w
    ∙ ap₂ (λ (l : List ℕ) (x : ℕ). l ++ (x ∷ []))
    (p
    ∙ ap (λ (l : List ℕ). l ++ map (λ (s : Numbered). first + 2 * c.width * s.node) (numbered_args (u + 1) (arguments s))) e
    ∙ C_along_left c v first f (numbered_args (u + 1) (arguments s)))
    (d_next (ap (λ (n : ℕ). n + 1) g))
    ∙ c_parts c u v s
  where
    d_next : q + 1 ≡ CAt c u v + 1 → q + 1 ≡ DAt c u v
    d_next e = unfold DAt D CAt in e

pub identical_argument : (s t : Term) → some_arg (λ sᵢ. same sᵢ t) (arguments s) ≡ some_identical s t
unfolding some_identical arguments some_arg
identical_argument (var x) t = refl
identical_argument (app f ss) t = refl
