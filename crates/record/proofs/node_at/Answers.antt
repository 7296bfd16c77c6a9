-- Each return is what the bytes at the place say.
use mathlib.Core.Path.{◌≡◌, sym, ap, ◌∙◌}
use native.Mathlib.Omega.{arith}
use borrow.Author.Rules.{rules}
use Rattle.std.proofs.Common.{Ok}
use Rattle.reply.specs.Replied.{result_of}
use Rattle.term.specs.declared.kinds.Kind.TheVariants.{SymbolNode}
use Rattle.term.proofs.KindByte.{is_node, not_node}
use Rattle.record.proofs.Steps.{wrong_kind, node_cut, not_declared, too_many, node_given}
use Rattle.record.proofs.node_at.Goals as goal

pub returns-then-ne : goal.returns-then-ne
unfolding result_of
returns-then-ne c =
    let a = c.args in
    let (here, byte) = c.in-Some.ensures.lookup.3 in
    let other : c.try_from.result ≡ Ok SymbolNode → ⊥ = search rules in
    ap result_of (sym (wrong_kind a.bytes.now a.symbols a.nodes a.at here (λ e. not_node _ _ c.try_from.ensures other (byte 0 ∙ e))))

pub returns-in_default-get : goal.returns-in_default-get
unfolding result_of
returns-in_default-get c =
    let a = c.args in
    let (here, byte) = c.in-Some.ensures.lookup.3 in
    let node : c.try_from.result ≡ Ok SymbolNode = search rules in
    ap result_of (sym (node_cut a.bytes.now a.symbols a.nodes a.at here (sym (byte 0) ∙ is_node _ _ c.try_from.ensures node) c.in_default-get.ensures.lookup.3))

pub returns-then-symbols-symbol : goal.returns-then-symbols-symbol
unfolding result_of
returns-then-symbols-symbol c =
    let a = c.args in
    let (here, byte) = c.in-Some.ensures.lookup.3 in
    let (there, body) = c.in-Some-get.ensures.lookup.3 in
    let node : c.try_from.result ≡ Ok SymbolNode = search rules in
    ap result_of (sym (not_declared a.bytes.now a.symbols a.nodes a.at here (sym (byte 0) ∙ is_node _ _ c.try_from.ensures node) there (omega (arith, body 0))))

pub returns-then-nodes-ge-MOST_NODES : goal.returns-then-nodes-ge-MOST_NODES
unfolding result_of
returns-then-nodes-ge-MOST_NODES c =
    let a = c.args in
    let (here, byte) = c.in-Some.ensures.lookup.3 in
    let (there, body) = c.in-Some-get.ensures.lookup.3 in
    let node : c.try_from.result ≡ Ok SymbolNode = search rules in
    ap result_of
    (sym (too_many a.bytes.now a.symbols a.nodes a.at here (sym (byte 0) ∙ is_node _ _ c.try_from.ensures node) there (omega (arith, body 0)) c.if-nodes-ge-MOST_NODES.true))

pub returns : goal.returns
unfolding result_of
returns c =
    let a = c.args in
    let (here, byte) = c.in-Some.ensures.lookup.3 in
    let (there, body) = c.in-Some-get.ensures.lookup.3 in
    let node : c.try_from.result ≡ Ok SymbolNode = search rules in
    ap Ok (c.wide-symbol.ensures ∙ body 0)
    ∙ ap result_of
    (sym (node_given a.bytes.now a.symbols a.nodes a.at here (sym (byte 0) ∙ is_node _ _ c.try_from.ensures node) there (omega (arith, body 0)) c.if-nodes-ge-MOST_NODES.false))
