-- Walking along subterms that stand one after another, by their node numbers: the place of a node is two bytes for each node before
-- it behind its side's start, and the next subterm's node is as many nodes further as this one has. Assumes nothing.
use Prim.Native.Nat.{ℕ, ◌+◌, ◌-◌, ◌*◌, ◌≤◌, ◌<◌}
use mathlib.Core.List.{List, [], ◌∷◌, ◌++◌, map, append_assoc, append-nil}
use mathlib.Core.Path.{◌≡◌, refl, sym, ap, subst, subst₂, ◌∙◌}
use native.Mathlib.Omega.{arith}
use Rattle.term.specs.Term.{Term, Args, cons, size, sizes}
use Rattle.term.specs.At.{At, ArgsAt, Standing}
use Rattle.term.proofs.At.{at_end_lem, args_first, args_none, args_unique, FirstAt}
use Rattle.clauses.specs.Blocks.{Numbered, numbered_args}
use Rattle.rule_blocks.specs.Nodes.{NodeAt, NodesAt, Nodes, NodesAre}
use Rattle.rule_blocks.specs.declared.PlacedRule.{PlacedRule}

pub node_stands : {bytes arities : List ℕ} {start node : ℕ} → NodeAt bytes arities start node → Standing bytes arities (start + 2 * node)
node_stands here = record { term = here.term; behind = here.behind; stands = here.stands }

-- The subterms at two nodes.
pub nodes_are :
    {bytes arities : List ℕ} {c : PlacedRule} {u v : ℕ} (here : Nodes bytes arities c u v) →
    NodesAre bytes arities c u v here.left.term here.right.term
nodes_are here =
    record { behind_left = here.left.behind; behind_right = here.right.behind; left = here.left.stands; right = here.right.stands }

-- The first of several subterms, and the others behind it.
pub record FirstNode (bytes arities : List ℕ) (start node many : ℕ) (ts : Args) (e : ℕ) : Type 0 where
  pub first : Term
  pub others : Args
  pub behind : ℕ
  pub parted : ts ≡ cons first others
  pub first_stands : At bytes arities (start + 2 * node) first behind
  pub others_stand : ArgsAt bytes arities (many - 1) (start + 2 * (node + size first)) others e

pub first_node :
    {bytes arities : List ℕ} (start node many : ℕ) {ts : Args} {e : ℕ} → ArgsAt bytes arities many (start + 2 * node) ts e → 0 < many →
    FirstNode bytes arities start node many ts e
first_node {bytes} {arities} start node many {ts} {e} stand h = go (args_first stand h)
  where
    go : FirstAt bytes arities many (start + 2 * node) ts e → FirstNode bytes arities start node many ts e
    go parts =
        record {
          first = parts.first;
          others = parts.others;
          behind = parts.behind;
          parted = parts.parted;
          first_stands = parts.first_stands;
          others_stand =
              subst (λ (u : ℕ). ArgsAt bytes arities (many - 1) u parts.others e)
              (omega (arith, at_end_lem parts.first_stands))
              parts.others_stand;
        }

-- The same of nodes that are known to stand within their side.
module _ {bytes arities : List ℕ} {start node many : ℕ} (here : NodesAt bytes arities start node many) where
  pub nodes_first : 0 < many → NodeAt bytes arities start node
  unfolding size
  nodes_first some =
      let parts = first_node start node many here.stand some in
      record {
        term = parts.first;
        behind = parts.behind;
        stands = parts.first_stands;
        within = omega (arith, here.within, ap sizes parts.parted);
      }

  pub nodes_others :
      {after many' : ℕ} → many' + 1 ≡ many → ((t : Term) (e : ℕ) → At bytes arities (start + 2 * node) t e → after ≡ node + size t) →
      NodesAt bytes arities start after many'
  unfolding size
  nodes_others {after} {many'} one behind =
      let parts = first_node start node many here.stand (omega arith) in
      let next : node + size parts.first ≡ after = sym (behind parts.first parts.behind parts.first_stands) in
      let fewer : many - 1 ≡ many' = omega arith in
      record {
        terms = parts.others;
        behind = here.behind;
        stand =
            subst₂ (λ (k n : ℕ). ArgsAt bytes arities k (start + 2 * n) parts.others here.behind) fewer next parts.others_stand;
        within = omega (arith, here.within, ap sizes parts.parted);
      }

-- A walk that has passed some of several subterms and noted a number for each.
pub record Walked
    (bytes arities : List ℕ) (start : ℕ) (noted : ℕ → ℕ) (node₀ many₀ : ℕ) (parts₀ : List ℕ) (node many : ℕ) (parts : List ℕ) :
    Type 0 where
  pub all : Args
  pub left : Args
  pub behind : ℕ
  pub all_stand : ArgsAt bytes arities many₀ (start + 2 * node₀) all behind
  pub left_stand : ArgsAt bytes arities many (start + 2 * node) left behind
  pub within : node + sizes left ≤ 10
  pub so : parts ++ map (λ (t : Numbered). noted t.node) (numbered_args node left) ≡ parts₀ ++ map (λ (t : Numbered). noted t.node) (numbered_args node₀ all)

module _ (bytes arities : List ℕ) (start : ℕ) (noted : ℕ → ℕ) (node₀ many₀ : ℕ) (parts₀ : List ℕ) where
  pub walk_starts : NodesAt bytes arities start node₀ many₀ → Walked bytes arities start noted node₀ many₀ parts₀ node₀ many₀ parts₀
  walk_starts here =
      record {
        all = here.terms;
        left = here.terms;
        behind = here.behind;
        all_stand = here.stand;
        left_stand = here.stand;
        within = here.within;
        so = refl;
      }

  module _ (node many : ℕ) (parts : List ℕ) (walk : Walked bytes arities start noted node₀ many₀ parts₀ node many parts) where
    pub walk_node : 0 < many → NodeAt bytes arities start node
    unfolding size
    walk_node h = go (first_node start node many walk.left_stand h)
      where
        go : FirstNode bytes arities start node many walk.left walk.behind → NodeAt bytes arities start node
        go parts =
            record {
              term = parts.first;
              behind = parts.behind;
              stands = parts.first_stands;
              within = omega (arith, walk.within, ap sizes parts.parted);
            }

    pub walk_goes_on :
        {node' many' : ℕ} {parts' : List ℕ} → many' + 1 ≡ many →
        ((t : Term) (e : ℕ) → At bytes arities (start + 2 * node) t e → node' ≡ node + size t) → parts' ≡ parts ++ (noted node ∷ []) →
        Walked bytes arities start noted node₀ many₀ parts₀ node' many' parts'
    unfolding size numbered_args
    walk_goes_on {node'} {many'} {parts'} one behind e = go (first_node start node many walk.left_stand (omega arith))
      where
        fewer : many - 1 ≡ many'
        fewer = omega (arith, one)

        go : FirstNode bytes arities start node many walk.left walk.behind → Walked bytes arities start noted node₀ many₀ parts₀ node' many' parts'
        go next_one =
            let next : node + size next_one.first ≡ node' = sym (behind next_one.first next_one.behind next_one.first_stands) in
            record {
              all = walk.all;
              left = next_one.others;
              behind = walk.behind;
              all_stand = walk.all_stand;
              left_stand = subst₂ (λ (k n : ℕ). ArgsAt bytes arities k (start + 2 * n) next_one.others walk.behind) fewer next next_one.others_stand;
              within = omega (arith, walk.within, ap sizes next_one.parted);
              so =
                  ap (λ (l : List ℕ). l ++ map (λ (t : Numbered). noted t.node) (numbered_args node' next_one.others)) e
                  ∙ append_assoc parts (noted node ∷ []) (map (λ (t : Numbered). noted t.node) (numbered_args node' next_one.others))
                  ∙ ap (λ (n : ℕ). parts ++ (noted node ∷ map (λ (t : Numbered). noted t.node) (numbered_args n next_one.others))) (sym next)
                  ∙ ap (λ (ts : Args). parts ++ map (λ (t : Numbered). noted t.node) (numbered_args node ts)) (sym next_one.parted)
                  ∙ walk.so;
            }

    pub walk_ends :
        many ≡ 0 → (ts : Args) (e : ℕ) → ArgsAt bytes arities many₀ (start + 2 * node₀) ts e →
        parts ≡ parts₀ ++ map (λ (t : Numbered). noted t.node) (numbered_args node₀ ts)
    unfolding numbered_args
    walk_ends h ts e stand =
        sym (append-nil parts)
        ∙ ap (λ (rest : Args). parts ++ map (λ (t : Numbered). noted t.node) (numbered_args node rest)) (sym (args_none walk.left_stand h).0)
        ∙ walk.so
        ∙ ap (λ (all : Args). parts₀ ++ map (λ (t : Numbered). noted t.node) (numbered_args node₀ all)) (args_unique walk.all_stand stand).0
