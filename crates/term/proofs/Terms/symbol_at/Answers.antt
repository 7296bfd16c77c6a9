-- The node's kind byte was read, and it says whether there is a symbol. Assumes nothing.
use mathlib.Core.Path.{◌≡◌, sym, ap, ◌∙◌}
use Rattle.std.proofs.Common.{rules, Ok, Some}
use Rattle.term.specs.declared.kinds.Kind.TheVariants.{SymbolNode}
use Rattle.term.proofs.At.{root_symbol, root_variable}
use Rattle.term.proofs.KindByte.{is_node, not_node}
use Rattle.term.proofs.Terms.symbol_at.Goals as goal

pub returns-then-eq : goal.returns-then-eq
returns-then-eq c t e stands =
    let node : c.try_from.result ≡ Ok SymbolNode = search rules in
    ap Some c.wide.ensures ∙ sym (root_symbol stands (is_node _ _ c.try_from.ensures node))

pub returns-else-eq : goal.returns-else-eq
returns-else-eq c t e stands =
    let other : c.try_from.result ≡ Ok SymbolNode → ⊥ = search rules in
    sym (root_variable stands (not_node _ _ c.try_from.ensures other))
