-- The name of the node that the two bytes tell. Assumes nothing.
use Prim.Native.Nat.{ℕ}
use mathlib.Core.Bool.{Bool, true, false}
use mathlib.Core.Path.{◌≡◌, sym, ap, ap₂, ◌∙◌}
use Rattle.std.specs.Prelude.{eqb}
use Rattle.text.specs.Text.{ascii}
use Rattle.text.proofs.Laying.{lays_as}
use Rattle.number_text.specs.Numbers.{counted}
use Rattle.term.specs.Prefix.{symbolic, variable, node_of}
use Rattle.term_text.specs.TermText.{name_text}
use Rattle.term_text.proofs.write_name.Goals as goal
use Rattle.term_text.proofs.write_name.Goals.{then-is_symbol, else-is_symbol}

symbol_name : (k b : ℕ) → eqb k 3 ≡ true → counted (ascii "f") b ≡ name_text (node_of k b)
unfolding name_text node_of
symbol_name k b e = ap (λ (t : Bool). name_text (elim t [ true ↦ symbolic b | false ↦ variable b ])) (sym e)

variable_name : (k b : ℕ) → eqb k 3 ≡ false → counted (ascii "x") b ≡ name_text (node_of k b)
unfolding name_text node_of
variable_name k b e = ap (λ (t : Bool). name_text (elim t [ true ↦ symbolic b | false ↦ variable b ])) (sym e)

pub returns : goal.returns
unfolding ascii
returns c =
    elim c.if-is_symbol.branch [
      | then-is_symbol w ↦
          let e = symbol_name c.args.kind c.args.body (sym c.is_symbol.ensures ∙ w.if-is_symbol.true) in
          lays_as (ap₂ (λ a b. counted a b) (ap (λ a. a.now) w.word-is) c.wide.ensures ∙ e) c.write_counted.ensures
      | else-is_symbol w ↦
          let e = variable_name c.args.kind c.args.body (sym c.is_symbol.ensures ∙ w.if-is_symbol.false) in
          lays_as (ap₂ (λ a b. counted a b) (ap (λ a. a.now) w.word-is) c.wide.ensures ∙ e) c.write_counted.ensures
    ]
