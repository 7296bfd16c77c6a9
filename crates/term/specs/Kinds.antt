-- The kinds of records as the code has them.
use Rattle.std.specs.Prelude.{Result, Ok, Err}
use Rattle.term.specs.Tables.{Kind, unknown, symbol, rule, symbol_node, variable_node, end}
use Rattle.term.specs.declared.kinds.Kind.{Kind as Named}
use Rattle.term.specs.declared.kinds.Kind.TheVariants.{Symbol, Rule, SymbolNode, VariableNode, End}
use Rattle.term.specs.declared.kinds.UnknownKind.{UnknownKind}

-- The same kind on paper.
unfoldable pub on_paper : Named → Kind
on_paper Symbol = symbol
on_paper Rule = rule
on_paper SymbolNode = symbol_node
on_paper VariableNode = variable_node
on_paper End = end

-- What was read of a kind byte: its kind, or that it is unknown.
unfoldable pub kind_read : Result Named UnknownKind → Kind
kind_read (Ok kind) = on_paper kind
kind_read (Err why) = unknown
