-- The kind of a byte is a symbol node's exactly for 3. Assumes nothing.
use Prim.Native.Nat.{ℕ}
use mathlib.Core.Bool.{false}
use mathlib.Core.Path.{◌≡◌, sym, ap, ◌∙◌}
use borrow.Author.Tests.{eq-eqb, ne_eqb}
use Rattle.std.specs.Prelude.{Result, Ok, Err, eqb}
use Rattle.std.specs.Result.{result_eq}
use Rattle.term.specs.Tables.{symbol_node, kind_of}
use Rattle.term.specs.Kinds.{kind_read, on_paper}
use Rattle.term.specs.declared.kinds.Kind.{Kind as Named}
use Rattle.term.specs.declared.kinds.Kind.TheVariants.{Symbol, Rule, SymbolNode, VariableNode, End}
use Rattle.term.specs.declared.kinds.UnknownKind.{UnknownKind}
use Rattle.term.specs.contracts.kinds.KindPartialEq as KindEq
use Rattle.term.specs.contracts.kinds.UnknownKindPartialEq as UnknownEq
use Rattle.term.proofs.KindByte.{node_byte}
use Rattle.term_text.proofs.is_symbol.Goals as goal

no_other : (k : ℕ) → (symbol_node ≡ kind_of k → ⊥) → false ≡ eqb k 3
unfolding kind_of
no_other k n = sym (ne_eqb k 3 (λ e. n (sym (ap kind_of e))))

test : (r : Result Named UnknownKind) (k : ℕ) → kind_read r ≡ kind_of k →
    result_eq KindEq.TheImpl.eq-value.it UnknownEq.TheImpl.eq-value.it r (Ok SymbolNode) ≡ eqb k 3
unfolding kind_read on_paper
test (Ok SymbolNode) k e = sym (eq-eqb k 3 (node_byte k e))
test (Ok Symbol) k e = no_other k (λ d. cc)
test (Ok Rule) k e = no_other k (λ d. cc)
test (Ok VariableNode) k e = no_other k (λ d. cc)
test (Ok End) k e = no_other k (λ d. cc)
test (Err why) k e = no_other k (λ d. cc)

pub returns : goal.returns
returns c = c.eq.ensures ∙ test c.try_from.result c.args.kind c.try_from.ensures
