-- The parts behind the arguments of one symbol, argument by argument; and C's number along a side, which is linear in the node's.
-- Assumes nothing.
use Prim.Native.Nat.{ℕ, ◌+◌, ◌-◌, ◌*◌, ◌≤◌, ◌<◌}
use mathlib.Core.Bool.{true, false}
use mathlib.Core.List.{List, [], ◌∷◌, ◌++◌, map}
use mathlib.Core.Path.{◌≡◌, refl, sym, ap, ap₂, subst, ◌∙◌}
use native.Mathlib.Nat.{mul_assoc, mul_comm}
use native.Mathlib.Omega.{arith}
use Rattle.term.specs.Term.{Term, Args, cons, size, same}
use Rattle.term.specs.At.{At, ArgsAt}
use Rattle.term.proofs.At.{args_none}
use Rattle.clauses.specs.Numbering.{C}
use Rattle.clauses.specs.Blocks.{Numbered, numbered_args, Setting, CAt, parts_behind}
use Rattle.rule_blocks.specs.Nodes.{setting_of, WithinMaximum, NodesAt}
use Rattle.rule_blocks.specs.declared.PlacedRule.{PlacedRule}
use Rattle.numbering.proofs.Small.{product}
use Rattle.rule_blocks.proofs.Walk.{FirstNode, first_node, nodes_others}

map_same : {A B : Type 0} (f g : A → B) → ((x : A) → f x ≡ g x) → (l : List A) → map f l ≡ map g l
map_same f g h [] = refl
map_same {B = B} f g h (x ∷ l) = ap₂ (λ (y : B) (ys : List B). y ∷ ys) (h x) (map_same f g h l)

pub C_small : (c : PlacedRule) (u v : ℕ) → WithinMaximum c → u ≤ 10 → v ≤ 10 → CAt (setting_of c) u v ≤ 8000
unfolding CAt C setting_of
C_small c u v bounded h k = omega (arith, bounded.base, product u c.width 10 10 h bounded.width)

-- Along the right side, and along the left.
pub C_along_right : (c : Setting) (u first : ℕ) → first ≡ CAt c u 0 → (l : List Numbered) → map (λ (t : Numbered). first + 2 * t.node) l ≡ map (λ (t : Numbered). CAt c u t.node) l
C_along_right c u first e l = map_same _ _ (λ t. along t.node) l
  where
    along : (v : ℕ) → first + 2 * v ≡ CAt c u v
    along v = unfold CAt C in omega arith

-- One part, and those along the right side behind it.
pub part_then_right :
    (c : Setting) (u : ℕ) {none parts : List ℕ} {q first x : ℕ} → none ≡ [] → parts ≡ none ++ (q ∷ []) → q ≡ x → first ≡ CAt c u 0 →
    (l : List Numbered) → parts ++ map (λ (t : Numbered). first + 2 * t.node) l ≡ x ∷ map (λ (t : Numbered). CAt c u t.node) l
part_then_right c u {first = first} e f p g l =
    ap₂ (λ (l m : List ℕ). l ++ m) (f ∙ ap₂ (λ (l : List ℕ) (y : ℕ). l ++ (y ∷ [])) e p) (C_along_right c u first g l)

pub C_along_left :
    (c : Setting) (v first : ℕ) → first ≡ CAt c 0 v → (l : List Numbered) →
    map (λ (s : Numbered). first + 2 * c.width * s.node) l ≡ map (λ (s : Numbered). CAt c s.node v) l
C_along_left c v first e l = map_same _ _ (λ s. along s.node) l
  where
    along : (u : ℕ) → first + 2 * c.width * u ≡ CAt c u v
    along u = unfold CAt C in rw (mul_assoc 2 c.width u, mul_comm c.width u) (omega arith)

module _
    {bytes arities : List ℕ} (c : Setting) (u left a right b many : ℕ) {ss ts : Args} {d e : ℕ}
    (hs : ArgsAt bytes arities many (left + 2 * a) ss d) (ht : ArgsAt bytes arities many (right + 2 * b) ts e) where
  pub behind_none : many ≡ 0 → [] ≡ parts_behind c u (numbered_args a ss) (numbered_args b ts)
  unfolding parts_behind numbered_args
  behind_none h = sym (ap (λ (l : Args). parts_behind c u (numbered_args a l) (numbered_args b ts)) (args_none hs h).0)

  -- Both lists by their first terms.
  by_first : (one : FirstNode bytes arities left a many ss d) (other : FirstNode bytes arities right b many ts e) →
      parts_behind c u (numbered_args a (cons one.first one.others)) (numbered_args b (cons other.first other.others))
      ≡ parts_behind c u (numbered_args a ss) (numbered_args b ts)
  by_first one other = ap₂ (λ (l m : Args). parts_behind c u (numbered_args a l) (numbered_args b m)) (sym one.parted) (sym other.parted)

  pub behind_same :
      0 < many → ((s t : Term) (d e : ℕ) → At bytes arities (left + 2 * a) s d → At bytes arities (right + 2 * b) t e → true ≡ same s t) →
      (after behind : ℕ) →
      ((s : Term) (d : ℕ) → At bytes arities (left + 2 * a) s d → after ≡ a + size s) →
      ((t : Term) (e : ℕ) → At bytes arities (right + 2 * b) t e → behind ≡ b + size t) → (found : List ℕ) →
      ((ss ts : Args) (d e : ℕ) → ArgsAt bytes arities (many - 1) (left + 2 * after) ss d → ArgsAt bytes arities (many - 1) (right + 2 * behind) ts e →
      found ≡ parts_behind c u (numbered_args after ss) (numbered_args behind ts)) →
      found ≡ parts_behind c u (numbered_args a ss) (numbered_args b ts)
  unfolding parts_behind numbered_args
  behind_same h alike after behind ha hb found later =
      let one = first_node left a many hs h in
      let other = first_node right b many ht h in
      let same-roots : true ≡ same one.first other.first = alike one.first other.first one.behind other.behind one.first_stands other.first_stands in
      let at_a : a + size one.first ≡ after = sym (ha one.first one.behind one.first_stands) in
      let at_b : b + size other.first ≡ behind = sym (hb other.first other.behind other.first_stands) in
      later one.others other.others d e
      (subst (λ (n : ℕ). ArgsAt bytes arities (many - 1) (left + 2 * n) one.others d) at_a one.others_stand)
      (subst (λ (n : ℕ). ArgsAt bytes arities (many - 1) (right + 2 * n) other.others e) at_b other.others_stand)
      ∙ ap₂ (λ (m n : ℕ). parts_behind c u (numbered_args m one.others) (numbered_args n other.others)) (sym at_a) (sym at_b)
      ∙ rw (← same-roots, parts_behind) refl
      ∙ by_first one other

  pub behind_differs :
      0 < many → ((s t : Term) (d e : ℕ) → At bytes arities (left + 2 * a) s d → At bytes arities (right + 2 * b) t e → false ≡ same s t) →
      (behind : ℕ) → ((t : Term) (e : ℕ) → At bytes arities (right + 2 * b) t e → behind ≡ b + size t) → (found : List ℕ) →
      ((ts : Args) (e : ℕ) → ArgsAt bytes arities (many - 1) (right + 2 * behind) ts e →
      found ≡ CAt c a b ∷ map (λ (t : Numbered). CAt c u t.node) (numbered_args behind ts)) →
      found ≡ parts_behind c u (numbered_args a ss) (numbered_args b ts)
  unfolding parts_behind numbered_args
  behind_differs h unlike behind hb found later =
      let one = first_node left a many hs h in
      let other = first_node right b many ht h in
      let differ : false ≡ same one.first other.first = unlike one.first other.first one.behind other.behind one.first_stands other.first_stands in
      let at_b : b + size other.first ≡ behind = sym (hb other.first other.behind other.first_stands) in
      later other.others e (subst (λ (n : ℕ). ArgsAt bytes arities (many - 1) (right + 2 * n) other.others e) at_b other.others_stand)
      ∙ ap (λ (n : ℕ). CAt c a b ∷ map (λ (t : Numbered). CAt c u t.node) (numbered_args n other.others)) (sym at_b)
      ∙ rw (← differ, parts_behind) refl
      ∙ by_first one other

-- A walk that has passed some of the arguments of both, which are identical pair by pair: the parts of those that are left are the parts
-- of all.
pub record Alike (bytes arities : List ℕ) (c : Setting) (u left₀ right₀ a₀ b₀ many₀ a b many : ℕ) : Type 0 where
  pub left : NodesAt bytes arities left₀ a many
  pub right : NodesAt bytes arities right₀ b many
  pub all :
      (found : List ℕ) →
      ((ss ts : Args) (d e : ℕ) → ArgsAt bytes arities many (left₀ + 2 * a) ss d → ArgsAt bytes arities many (right₀ + 2 * b) ts e →
      found ≡ parts_behind c u (numbered_args a ss) (numbered_args b ts)) →
      (ss ts : Args) (d e : ℕ) → ArgsAt bytes arities many₀ (left₀ + 2 * a₀) ss d → ArgsAt bytes arities many₀ (right₀ + 2 * b₀) ts e →
      found ≡ parts_behind c u (numbered_args a₀ ss) (numbered_args b₀ ts)

pub alike_none :
    {bytes arities : List ℕ} {c : Setting} {u left₀ right₀ a₀ b₀ many₀ many : ℕ} → many ≡ many₀ → NodesAt bytes arities left₀ a₀ many₀ →
    NodesAt bytes arities right₀ b₀ many₀ → Alike bytes arities c u left₀ right₀ a₀ b₀ many₀ a₀ b₀ many
alike_none {bytes} {arities} {c} {u} {left₀} {right₀} {a₀} {b₀} {many₀} e hs ht =
    subst (Alike bytes arities c u left₀ right₀ a₀ b₀ many₀ a₀ b₀) (sym e) record { left = hs; right = ht; all = λ found later. later }

module _
    {bytes arities : List ℕ} {c : Setting} {u left₀ right₀ a₀ b₀ many₀ a b many : ℕ}
    (passed : Alike bytes arities c u left₀ right₀ a₀ b₀ many₀ a b many) where
  pub alike_one :
      {after behind many' : ℕ} → many' + 1 ≡ many →
      ((s t : Term) (d e : ℕ) → At bytes arities (left₀ + 2 * a) s d → At bytes arities (right₀ + 2 * b) t e → true ≡ same s t) →
      ((s : Term) (d : ℕ) → At bytes arities (left₀ + 2 * a) s d → after ≡ a + size s) →
      ((t : Term) (e : ℕ) → At bytes arities (right₀ + 2 * b) t e → behind ≡ b + size t) →
      Alike bytes arities c u left₀ right₀ a₀ b₀ many₀ after behind many'
  alike_one {after} {behind} {many'} one alike ha hb =
      let fewer : many - 1 ≡ many' = omega arith in
      record {
        left = nodes_others passed.left one ha;
        right = nodes_others passed.right one hb;
        all = λ found later.
            passed.all found
            (λ ss ts d e hs ht.
            behind_same c u left₀ a right₀ b many hs ht (omega arith) alike after behind ha hb found
            (λ ss' ts' d' e' h k.
            later ss' ts' d' e' (subst (λ (n : ℕ). ArgsAt bytes arities n (left₀ + 2 * after) ss' d') fewer h)
            (subst (λ (n : ℕ). ArgsAt bytes arities n (right₀ + 2 * behind) ts' e') fewer k)));
      }

  pub alike_ends :
      many ≡ 0 → {found : List ℕ} → found ≡ [] → (ss ts : Args) (d e : ℕ) → ArgsAt bytes arities many₀ (left₀ + 2 * a₀) ss d →
      ArgsAt bytes arities many₀ (right₀ + 2 * b₀) ts e → found ≡ parts_behind c u (numbered_args a₀ ss) (numbered_args b₀ ts)
  alike_ends none {found} empty = passed.all found (λ ss ts d e hs ht. empty ∙ behind_none c u left₀ a right₀ b many hs ht none)

  pub alike_differs :
      {behind many' : ℕ} → many' + 1 ≡ many →
      ((s t : Term) (d e : ℕ) → At bytes arities (left₀ + 2 * a) s d → At bytes arities (right₀ + 2 * b) t e → false ≡ same s t) →
      ((t : Term) (e : ℕ) → At bytes arities (right₀ + 2 * b) t e → behind ≡ b + size t) → {found : List ℕ} →
      ((ts : Args) (e : ℕ) → ArgsAt bytes arities many' (right₀ + 2 * behind) ts e →
      found ≡ CAt c a b ∷ map (λ (t : Numbered). CAt c u t.node) (numbered_args behind ts)) →
      (ss ts : Args) (d e : ℕ) → ArgsAt bytes arities many₀ (left₀ + 2 * a₀) ss d → ArgsAt bytes arities many₀ (right₀ + 2 * b₀) ts e →
      found ≡ parts_behind c u (numbered_args a₀ ss) (numbered_args b₀ ts)
  alike_differs {behind} {many'} one unlike hb {found} later =
      let fewer : many - 1 ≡ many' = omega arith in
      passed.all found
      (λ ss ts d e hs ht.
      behind_differs c u left₀ a right₀ b many hs ht (omega arith) unlike behind hb found
      (λ ts' e' k. later ts' e' (subst (λ (n : ℕ). ArgsAt bytes arities n (right₀ + 2 * behind) ts' e') fewer k)))
