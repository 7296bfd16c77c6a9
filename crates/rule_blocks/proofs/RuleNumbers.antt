-- A rule's block by its number, at the places of the nodes: number 0 is (C of 0,0), and number 1 + u|r| + v is that of the nodes u and
-- v. Assumes nothing.
use Prim.Native.Nat.{ℕ, suc, ◌+◌, ◌-◌, ◌*◌, ◌/◌, ◌%◌, ◌≤◌, ◌<◌}
use mathlib.Core.List.{List, [], ◌∷◌, flat_map, append-nil}
use mathlib.Core.Option.{some}
use mathlib.Core.Path.{◌≡◌, sym, ap, ap₂, subst, ◌∙◌}
use native.Mathlib.Nat.{div-add-mod', div-lt_iff_lt-mul, mod-lt}
use native.Mathlib.Omega.{arith}
use lib.ListN.{length, get_or, get_elem?}
use Rattle.term.specs.Term.{Term, size, count}
use Rattle.term.specs.Root.{arguments}
use Rattle.book.specs.Book.{Rule}
use Rattle.clauses.specs.Cnf.{is, Clause}
use Rattle.clauses.specs.Blocks.{subterms, CAt, rule_blocks}
use Rattle.clauses.specs.File.{clause_bytes}
use Rattle.rule_blocks.specs.Nodes.{setting_of, nodes_block, NodeAt, Nodes}
use Rattle.rule_blocks.specs.Rules.{SmallSide, RuleStands}
use Rattle.rule_blocks.specs.TwoNodes.{Stand, AreAt, numbered_nodes}
use Rattle.rule_blocks.specs.declared.PlacedRule.{PlacedRule}
use Rattle.rule_blocks.specs.declared.nodes.TwoNodes.{TwoNodes}
use Rattle.term.specs.declared.Terms.{Terms}
use Rattle.clauses.proofs.Inside.{size_positive}
use Rattle.clauses.proofs.BlockNumbers.{rule_blocks_count, rule_root_at, rule_nodes_at}
use Rattle.clauses.proofs.Elements.{element_member, element_is}
use Rattle.rule_blocks.proofs.SubtermsAt.{SubtermAt, subterm_at_lem}
use Rattle.rule_blocks.proofs.Walk.{nodes_are}

-- A node of a side.
record SideNode (bytes arities : List ℕ) (start node : ℕ) (side : Term) : Type 0 where
  here : NodeAt bytes arities start node
  few : count (arguments here.term) ≤ 6
  listed : get_elem? (subterms 0 side) node ≡ some (record { node = node; term = here.term })

side_node :
    {bytes arities : List ℕ} {start many : ℕ} {side : Term} (stands : SmallSide bytes arities start many side) (node : ℕ) → node < many →
    SideNode bytes arities start node side
side_node {bytes} {arities} {start} {many} {side} stands node h =
    go (subterm_at_lem stands.stands 0 node (omega (arith, stands.nodes)))
  where
    go : SubtermAt bytes arities start 0 node (size side) (subterms 0 side) → SideNode bytes arities start node side
    go one =
        let number : 0 + node ≡ node = omega arith in
        let there : get_elem? (subterms 0 side) node ≡ some (record { node = node; term = one.term }) =
        one.listed ∙ ap (λ (n : ℕ). some (record { node = n; term = one.term })) number
        in
        record {
          here =
              record {
                term = one.term;
                behind = one.behind;
                stands = one.stands;
                within = omega (arith, one.within, stands.nodes, stands.small);
              };
          few = stands.few (record { node = node; term = one.term }) (element_member (subterms 0 side) node there);
          listed = there;
        }

-- Two nodes of a rule, and their block.
pub record NodePair (bytes arities : List ℕ) (c : PlacedRule) (rule : Rule) (u v : ℕ) : Type 0 where
  pub nodes : Nodes bytes arities c u v
  pub numbered :
      get_elem? (rule_blocks (setting_of c) rule) (suc (u * c.width + v))
      ≡ some (nodes_block (setting_of c) u v nodes.left.term nodes.right.term)

module _ {bytes arities : List ℕ} {c : PlacedRule} {rule : Rule} (stands : RuleStands bytes arities c rule) where
  pub width_positive : 0 < c.width
  width_positive = omega (arith, size_positive rule.right, stands.right.nodes)

  node_pair : (u v : ℕ) → u < c.height → v < c.width → NodePair bytes arities c rule u v
  unfolding nodes_block
  node_pair u v h k = go (side_node stands.left u h) (side_node stands.right v k)
    where
      go : SideNode bytes arities c.left u rule.left → SideNode bytes arities c.right v rule.right → NodePair bytes arities c rule u v
      go s t =
          record {
            nodes = record { bounded = stands.bounded; left = s.here; right = t.here; few_left = s.few; few_right = t.few };
            numbered =
                ap (λ (w : ℕ). get_elem? (rule_blocks (setting_of c) rule) (suc (u * w + v))) (sym stands.right.nodes)
                ∙ rule_nodes_at (setting_of c) rule u v s.listed t.listed (omega (arith, stands.right.nodes));
          }

  -- The nodes of a number.
  module _ (number : ℕ) (some : number ≡ 0 → ⊥) (within : number ≤ c.height * c.width) where
    pub numbered_pair : NodePair bytes arities c rule ((number - 1) / c.width) ((number - 1) % c.width)
    numbered_pair =
        node_pair ((number - 1) / c.width) ((number - 1) % c.width)
        ((div-lt_iff_lt-mul width_positive).1 (omega arith))
        (mod-lt (number - 1) width_positive)

    pub numbered_block_lem :
        nodes_block (setting_of c) ((number - 1) / c.width) ((number - 1) % c.width) numbered_pair.nodes.left.term numbered_pair.nodes.right.term
        ≡ get_or (rule_blocks (setting_of c) rule) number []
    numbered_block_lem =
        let there : suc ((number - 1) / c.width * c.width + (number - 1) % c.width) ≡ number = omega (arith, div-add-mod' (number - 1) c.width) in
        element_is (rule_blocks (setting_of c) rule) number []
        (ap (get_elem? (rule_blocks (setting_of c) rule)) (sym there) ∙ numbered_pair.numbered)

  pub zeroth_block : (number : ℕ) → number ≡ 0 → (is (CAt (setting_of c) 0 0) ∷ []) ∷ [] ≡ get_or (rule_blocks (setting_of c) rule) number []
  zeroth_block number e =
      element_is (rule_blocks (setting_of c) rule) number []
      (ap (get_elem? (rule_blocks (setting_of c) rule)) e ∙ rule_root_at (setting_of c) rule)

  pub zeroth_text :
      (number : ℕ) → number ≡ 0 → {q : ℕ} → q ≡ CAt (setting_of c) 0 0 →
      clause_bytes (is q ∷ []) ≡ flat_map clause_bytes (get_or (rule_blocks (setting_of c) rule) number [])
  unfolding flat_map
  zeroth_text number e {q} p =
      sym (append-nil (clause_bytes (is q ∷ [])))
      ∙ ap (λ (n : ℕ). flat_map clause_bytes ((is n ∷ []) ∷ [])) p
      ∙ ap (flat_map clause_bytes) (zeroth_block number e)

  pub blocks_counted : length (rule_blocks (setting_of c) rule) ≡ c.height * c.width + 1
  blocks_counted =
      rule_blocks_count (setting_of c) rule ∙ omega (arith, ap₂ ◌*◌ stands.left.nodes stands.right.nodes)

-- The same of the nodes as the code holds them.
module _
    (terms : Terms) {c : PlacedRule} {rule : Rule} (stands : RuleStands terms.bytes.now terms.arities c rule) (number : ℕ) (some : number ≡ 0 → ⊥)
    (within : number ≤ c.height * c.width) {two : TwoNodes} (are : two ≡ numbered_nodes terms c number) where
  pub numbered_stand : Stand two
  unfolding numbered_nodes
  numbered_stand = rw are (numbered_pair stands number some within).nodes

  -- What holds of their block, whichever subterms stand there, holds of the rule's block of this number.
  pub numbered_holds :
      (P : List Clause → Type 0) → ((s t : Term) → AreAt two s t → P (nodes_block (setting_of two.placed) two.u two.v s t)) →
      P (get_or (rule_blocks (setting_of c) rule) number [])
  unfolding numbered_nodes
  numbered_holds P =
      rw are (λ (holds : (s t : Term) → AreAt (numbered_nodes terms c number) s t → P (nodes_block (setting_of c) ((number - 1) / c.width) ((number - 1) % c.width) s t)).
      subst P (numbered_block_lem stands number some within) (holds _ _ (nodes_are (numbered_pair stands number some within).nodes)))
