-- What a kind byte was read as tells the byte. Assumes nothing.
use Prim.Native.Nat.{ℕ, zero, suc}
use mathlib.Core.Path.{◌≡◌, refl, sym, ap, ◌∙◌}
use Rattle.std.specs.Prelude.{Result, Ok, Err}
use Rattle.term.specs.Tables as paper
use Rattle.term.specs.Tables.{kind_of}
use Rattle.term.specs.Kinds.{on_paper, kind_read}
use Rattle.term.specs.declared.kinds.Kind.{Kind}
use Rattle.term.specs.declared.kinds.Kind.TheVariants.{Symbol, Rule, SymbolNode, VariableNode, End}
use Rattle.term.specs.declared.kinds.UnknownKind.{UnknownKind}

-- 3 alone is a symbol node, and 5 alone an end.
pub node_byte : (b : ℕ) → paper.symbol_node ≡ kind_of b → b ≡ 3
unfolding kind_of
node_byte zero e = cc
node_byte (suc zero) e = cc
node_byte (suc (suc zero)) e = cc
node_byte (suc (suc (suc zero))) e = refl
node_byte (suc (suc (suc (suc zero)))) e = cc
node_byte (suc (suc (suc (suc (suc zero))))) e = cc
node_byte (suc (suc (suc (suc (suc (suc b)))))) e = cc

end_byte : (b : ℕ) → paper.end ≡ kind_of b → b ≡ 5
unfolding kind_of
end_byte zero e = cc
end_byte (suc zero) e = cc
end_byte (suc (suc zero)) e = cc
end_byte (suc (suc (suc zero))) e = cc
end_byte (suc (suc (suc (suc zero)))) e = cc
end_byte (suc (suc (suc (suc (suc zero))))) e = refl
end_byte (suc (suc (suc (suc (suc (suc b)))))) e = cc

node_read : (r : Result Kind UnknownKind) → kind_read r ≡ paper.symbol_node → r ≡ Ok SymbolNode
unfolding kind_read on_paper
node_read (Ok Symbol) e = cc
node_read (Ok Rule) e = cc
node_read (Ok SymbolNode) e = refl
node_read (Ok VariableNode) e = cc
node_read (Ok End) e = cc
node_read (Err why) e = cc

end_read : (r : Result Kind UnknownKind) → kind_read r ≡ paper.end → r ≡ Ok End
unfolding kind_read on_paper
end_read (Ok Symbol) e = cc
end_read (Ok Rule) e = cc
end_read (Ok SymbolNode) e = cc
end_read (Ok VariableNode) e = cc
end_read (Ok End) e = refl
end_read (Err why) e = cc

-- The byte is read as one of these exactly if it is that number.
module _ (r : Result Kind UnknownKind) (b : ℕ) (read : kind_read r ≡ kind_of b) where
  pub is_node : r ≡ Ok SymbolNode → b ≡ 3
  unfolding kind_read on_paper
  is_node is = node_byte b (ap kind_read (sym is) ∙ read)

  pub not_node : (r ≡ Ok SymbolNode → ⊥) → b ≡ 3 → ⊥
  unfolding kind_of
  not_node other is = other (node_read r (read ∙ ap kind_of is))

  pub is_end : r ≡ Ok End → b ≡ 5
  unfolding kind_read on_paper
  is_end is = end_byte b (ap kind_read (sym is) ∙ read)

  pub not_end : (r ≡ Ok End → ⊥) → b ≡ 5 → ⊥
  unfolding kind_of
  not_end other is = other (end_read r (read ∙ ap kind_of is))
