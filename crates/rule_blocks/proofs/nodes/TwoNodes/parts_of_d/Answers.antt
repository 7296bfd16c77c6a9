-- D's parts by the roots at the two nodes.
use Rattle.std.proofs.Common.{rules, arith, ℕ, List, ◌≡◌, sym, ap, ◌∙◌, length}
use lib.ListN.{get_or}
use Rattle.term.specs.Term.{Term, count}
use Rattle.term.specs.Root.{arguments}
use Rattle.rule_blocks.specs.Nodes.{setting_of}
use Rattle.rule_blocks.proofs.PartsAt.{SymbolHere, symbol_here, arguments_stand, node_arguments, d_variable, d_below_variable, d_same, d_apart}
use Rattle.rule_blocks.proofs.nodes.TwoNodes.parts_of_d.Goals as goal

-- Both have as many arguments where the symbols are the same.
as_many : {arities : List ℕ} {s t : Term} {f g many : ℕ} → SymbolHere arities f s → SymbolHere arities g t → many ≡ count (arguments t) → f ≡ g → many ≡ count (arguments s)
as_many {arities} p q few same = few ∙ q.arity ∙ ap (λ (n : ℕ). get_or arities n 0) (sym same) ∙ sym p.arity

pub returns-in_default-clause-are : goal.returns-in_default-clause-are
returns-in_default-clause-are c =
    λ s t here.
    c.none.ensures.1
    ∙ d_variable (setting_of c.args.self.now.placed) c.args.self.now.u c.args.self.now.v s t (sym (c.symbol_at.ensures s _ here.left) ∙ c.in_default.is)

pub returns-in_default-symbol_at-clause-are : goal.returns-in_default-symbol_at-clause-are
returns-in_default-symbol_at-clause-are c =
    λ s t here.
    c.none-in_default-symbol_at.ensures.1
    ∙ d_below_variable (setting_of c.args.self.now.placed) c.args.self.now.u c.args.self.now.v s t
    (sym (c.symbol_at-2.ensures t _ here.right) ∙ c.in_default-symbol_at.is)

pub parts_behind-requires-clause-nodes_at : goal.parts_behind-requires-clause-nodes_at
parts_behind-requires-clause-nodes_at c =
    let left = c.requires.left in
    let right = c.requires.right in
    let few : c.arguments_at-many.result ≡ count (arguments right.term) = c.arguments_at-many.ensures right.term right.behind right.stands in (
      node_arguments left
          (as_many (symbol_here _ left.stands (sym (c.symbol_at.ensures left.term left.behind left.stands) ∙ c.in-Some.is))
          (symbol_here _ right.stands (sym (c.symbol_at-2.ensures right.term right.behind right.stands) ∙ c.in-Some-symbol_at.is)) few c.if-f-g.true),
      node_arguments right few,
    )

pub parts_apart-requires-clause-within_maximum : goal.parts_apart-requires-clause-within_maximum
parts_apart-requires-clause-within_maximum c =
    let left = c.requires.left in
    let right = c.requires.right in
    let table : length c.args.self.now.terms.arities ≡ 16 = search rules in
    let few : c.arguments_at-many.result ≡ count (arguments right.term) = c.arguments_at-many.ensures right.term right.behind right.stands in (
      c.requires.bounded,
      omega arith,
      omega arith,
      record {
        few = c.requires.bounded.symbols;
        one = omega (arith, (symbol_here c.in-Some.f left.stands (sym (c.symbol_at.ensures left.term left.behind left.stands) ∙ c.in-Some.is)).declared);
        other = omega (arith, (symbol_here c.in-Some-symbol_at.g right.stands (sym (c.symbol_at-2.ensures right.term right.behind right.stands) ∙ c.in-Some-symbol_at.is)).declared);
        different = c.if-f-g.false;
      },
    )

pub parts_apart-requires-clause-nodes_at : goal.parts_apart-requires-clause-nodes_at
parts_apart-requires-clause-nodes_at c =
    node_arguments c.requires.right (c.arguments_at-many.ensures c.requires.right.term c.requires.right.behind c.requires.right.stands)

pub returns-then-f-g-clause-are : goal.returns-then-f-g-clause-are
returns-then-f-g-clause-are c =
    λ s t here.
    let s_here = symbol_here c.in-Some.f here.left (sym (c.symbol_at.ensures s _ here.left) ∙ c.in-Some.is) in
    let t_here = symbol_here c.in-Some-symbol_at.g here.right (sym (c.symbol_at-2.ensures t _ here.right) ∙ c.in-Some-symbol_at.is) in
    let few = c.arguments_at-many.ensures t _ here.right in
    c.parts_behind.ensures.are _ _ _ _ (arguments_stand _ _ here.left (as_many s_here t_here few c.if-f-g.true)) (arguments_stand _ _ here.right few)
    ∙ d_same (setting_of c.args.self.now.placed) c.args.self.now.u c.args.self.now.v s t s_here.is t_here.is c.if-f-g.true

pub returns-else-f-g-clause-are : goal.returns-else-f-g-clause-are
unfolding setting_of
returns-else-f-g-clause-are c =
    λ s t here.
    let s_here = symbol_here c.in-Some.f here.left (sym (c.symbol_at.ensures s _ here.left) ∙ c.in-Some.is) in
    let t_here = symbol_here c.in-Some-symbol_at.g here.right (sym (c.symbol_at-2.ensures t _ here.right) ∙ c.in-Some-symbol_at.is) in
    c.parts_apart.ensures.are _ _ (arguments_stand _ _ here.right (c.arguments_at-many.ensures t _ here.right))
    ∙ d_apart (setting_of c.args.self.now.placed) c.args.self.now.u c.args.self.now.v s t s_here.is t_here.is c.if-f-g.false
