-- The reading of the nodes goes on from the locals at `at`: each answer for a node is what the definition finds there.
use Prim.Native.Nat.{ℕ, ◌+◌, ◌<◌, pred, min}
use mathlib.Core.List.{List}
use mathlib.Core.Path.{◌≡◌, sym, ap, subst, ◌∙◌}
use native.Mathlib.Omega.{arith}
use borrow.Author.Rules.{rules}
use Rattle.std.proofs.Common.{Fits, w8}
use Rattle.std.specs.Prelude.{Result, Ok, Err}
use Rattle.std.proofs.lemmas.Result.{err_from_is_err_and}
use lib.ListN.{length, get_or, take, drop, length-take}
use lib.Seq.{get_or-take}
use Rattle.reply.specs.Reply.{given}
use Rattle.reply.specs.Replied.{result_of}
use Rattle.record.specs.Record.{record_node}
use Rattle.record.specs.declared.RecordFault.{RecordFault}
use Rattle.record.specs.Meaning.{term_found}
use Rattle.record.proofs.Going.{NodesGoing, nodes_start, NodePassed, node_passed, was_given, was_refused, node_faulty, node_on, term_ends}
use Rattle.record.proofs.read_term.Goals as goal

-- The table's first symbols are as many as are declared.
module _ (bytes table : List ℕ) (symbols n nodes at : ℕ) (told : n ≡ min symbols 16) (all : length table ≡ 16) where
  declared : n ≡ length (take symbols table)
  declared = told ∙ ap (min symbols) (sym all) ∙ sym (length-take symbols table)

  module _ (r : Result ℕ RecordFault) (e : r ≡ result_of (record_node n (length bytes) nodes at (drop at bytes))) where
    -- What is found at a node is what the definition finds there.
    node_told : result_of (record_node (length (take symbols table)) (length bytes) nodes at (drop at bytes)) ≡ r
    node_told = sym (subst (λ (m : ℕ). r ≡ result_of (record_node m (length bytes) nodes at (drop at bytes))) declared e)

    -- What holds of a node that is taken.
    taken : (f : ℕ) → r ≡ Ok f → record_node (length (take symbols table)) (length bytes) nodes at (drop at bytes) ≡ given f
    taken f is = was_given _ f (node_told ∙ is)

    passed : (f : ℕ) → r ≡ Ok f → NodePassed bytes (length (take symbols table)) nodes at f
    passed f is = node_passed bytes (length (take symbols table)) nodes at f (taken f is)

    within : (f : ℕ) → r ≡ Ok f → f < 16
    within f is = omega (arith, (passed f is).declared, declared)

    turn :
        (f arity missing : ℕ) → NodesGoing bytes (take symbols table) missing nodes at → 0 < missing → r ≡ Ok f → arity ≡ get_or table f 0 →
        arity < 256 → NodesGoing bytes (take symbols table) (pred missing + arity) (nodes + 1) (at + 2)
    turn f arity missing going some is its small =
        node_on bytes (take symbols table) missing nodes at going some f arity (taken f is)
        (its ∙ sym (get_or-take symbols table f 0 (omega (arith, (passed f is).declared, declared)))) small

pub loop-missing-init : goal.loop-missing-init
loop-missing-init c = nodes_start _ _

pub returns-in_err-symbol : goal.returns-in_err-symbol
unfolding term_found
returns-in_err-symbol c =
    let a = c.args in
    let l = c.loop-missing in
    let p = err_from_is_err_and c.from_residual.result c.from_residual.ensures.1 in
    p.1 ∙ ap Err p.2
    ∙ ap term_found
    (sym (node_faulty a.bytes.now (take a.symbols a.arities) l.missing l.nodes l.at l.invariant c.loop-missing-test.true _
    (was_refused _ _ (node_told a.bytes.now a.arities a.symbols _ l.nodes l.at c.min-declared.ensures (omega arith) _ c.node_at.ensures ∙ c.in_err-symbol.was))))

pub bounds-arities-symbol : goal.bounds-arities-symbol
bounds-arities-symbol c =
    let a = c.args in
    within a.bytes.now a.arities a.symbols _ c.loop-missing.nodes c.loop-missing.at c.min-declared.ensures (omega arith) _ c.node_at.ensures _ c.in_ok-symbol.was

pub loop-missing-smaller : goal.loop-missing-smaller
loop-missing-smaller c =
    let a = c.args in
    let l = c.loop-missing in
    omega (arith, (passed a.bytes.now a.arities a.symbols _ l.nodes l.at c.min-declared.ensures (omega arith) _ c.node_at.ensures _ c.in_ok-symbol.was).whole)

pub loop-missing-preserved : goal.loop-missing-preserved
loop-missing-preserved c =
    let a = c.args in
    let l = c.loop-missing in
    let small : Fits w8 (get_or a.arities c.in_ok-symbol.symbol 0) = search rules in
    subst (λ (m : ℕ). NodesGoing a.bytes.now (take a.symbols a.arities) m (l.nodes + 1) (l.at + 2)) (omega arith)
    (turn a.bytes.now a.arities a.symbols _ l.nodes l.at c.min-declared.ensures (omega arith) _ c.node_at.ensures _ c.wide.result l.missing l.invariant
    c.loop-missing-test.true c.in_ok-symbol.was c.wide.ensures (omega arith))

pub returns : goal.returns
unfolding term_found
returns c =
    let a = c.args in
    let l = c.loop-missing in
    ap (λ (n : ℕ). Ok (record { nodes = n; behind = l.at })) l.invariant.count
    ∙ ap term_found (sym (term_ends a.bytes.now (take a.symbols a.arities) l.missing l.nodes l.at l.invariant (omega arith)))
