-- The roots of the left side and of the subterm. Assumes nothing.
use mathlib.Core.Path.{sym, ap, ap₂, ◌∙◌}
use lib.Dec.{eqb}
use Rattle.std.specs.Prelude.{is_some}
use Rattle.std.specs.Option.{option_eq}
use Rattle.matching.proofs.Alike.{no_symbol_alike, symbols_compared}
use Rattle.matching.proofs.table.begins_alike.Goals as goal

pub returns-then-is_none : goal.returns-then-is_none
returns-then-is_none c l s d e h k =
    c.if-is_none.true ∙ no_symbol_alike l s (ap is_some (sym (c.symbol_at-symbol.ensures l d h)) ∙ c.if-is_none.ensures)

pub returns-else-is_none : goal.returns-else-is_none
returns-else-is_none c l s d e h k =
    let left = c.symbol_at-symbol.ensures l d h in
    c.eq.ensures
    ∙ ap₂ (option_eq eqb) left (c.symbol_at.ensures s e k)
    ∙ symbols_compared l s (ap is_some (sym left) ∙ c.if-is_none.ensures)
