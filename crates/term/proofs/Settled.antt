-- Two replies that the contract of one function allows are equal, and so is what they leave in the lent buffer, said of the contracts
-- themselves. Where a term must stand at a place, it is the term that stands there. Assumes nothing.
use Prim.Native.Nat.{ℕ}
use mathlib.Core.Bool.{Bool}
use mathlib.Core.Path.{◌≡◌, refl, sym, ap, ◌∙◌}
use contract.Lifetimes.{Lfts}
use borrow.Fn.Kinds.{Dens, ended_of}
use denote.Triple.Clauses.{AtExit}
use Rattle.std.specs.Prelude.{Option, Result, Ok, Err}
use Rattle.term.specs.Tables.{Kind, unknown, symbol, rule, symbol_node, variable_node, end}
use Rattle.term.specs.Kinds.{on_paper, kind_read}
use Rattle.term.specs.declared.kinds.Kind.{Kind as Named}
use Rattle.term.specs.declared.kinds.Kind.TheVariants.{Symbol, Rule, SymbolNode, VariableNode, End}
use Rattle.term.specs.declared.kinds.UnknownKind.{UnknownKind}
use Rattle.term.proofs.body_length.Kinds as body_length_kinds
use Rattle.term.proofs.body_length.Reads as body_length
use Rattle.term.proofs.rank_bits.Kinds as rank_bits_kinds
use Rattle.term.proofs.rank_bits.Reads as rank_bits
use Rattle.term.proofs.Terms.symbol_at.Kinds as symbol_at_kinds
use Rattle.term.proofs.Terms.symbol_at.Reads as symbol_at
use Rattle.term.proofs.Terms.arguments_at.Kinds as arguments_at_kinds
use Rattle.term.proofs.Terms.arguments_at.Reads as arguments_at
use Rattle.term.proofs.Terms.end_of.Kinds as end_of_kinds
use Rattle.term.proofs.Terms.end_of.Reads as end_of_lem
use Rattle.term.proofs.Terms.same_at.Kinds as same_at_kinds
use Rattle.term.proofs.Terms.same_at.Reads as same_at
use Rattle.term.proofs.kinds.KindTryFromU8.try_from.Kinds as kind_read_kinds
use Rattle.term.proofs.kinds.KindTryFromU8.try_from.Reads as kind_read_lem
use Rattle.term.proofs.copy.Kinds as copy_kinds
use Rattle.term.proofs.copy.Reads as copy

pub body_length_settled :
    (κs : Lfts 0) (a : Dens κs body_length_kinds.ps) (r r' : ℕ) (e e' : AtExit (ended_of 0 body_length_kinds.ps body_length_kinds.r) κs) →
    body_length.Post κs a r e → body_length.Post κs a r' e' → r ≡ r'
body_length_settled κs a r r' e e' p p' = p ∙ sym p'

pub rank_bits_settled :
    (κs : Lfts 0) (a : Dens κs rank_bits_kinds.ps) (r r' : ℕ) (e e' : AtExit (ended_of 0 rank_bits_kinds.ps rank_bits_kinds.r) κs) →
    rank_bits.Post κs a r e → rank_bits.Post κs a r' e' → r ≡ r'
rank_bits_settled κs a r r' e e' p p' = p ∙ sym p'

-- Each kind has one value in the code, and an unknown kind one refusal.
read_back : Kind → Result Named UnknownKind
read_back unknown = Err _
read_back symbol = Ok Symbol
read_back rule = Ok Rule
read_back symbol_node = Ok SymbolNode
read_back variable_node = Ok VariableNode
read_back end = Ok End

reads_back : (r : Result Named UnknownKind) → read_back (kind_read r) ≡ r
unfolding read_back kind_read on_paper
reads_back (Ok Symbol) = refl
reads_back (Ok Rule) = refl
reads_back (Ok SymbolNode) = refl
reads_back (Ok VariableNode) = refl
reads_back (Ok End) = refl
reads_back (Err why) = refl

pub kind_read_settled :
    (κs : Lfts 0) (a : Dens κs kind_read_kinds.ps) (r r' : Result Named UnknownKind) (e e' : AtExit (ended_of 0 kind_read_kinds.ps kind_read_kinds.r) κs) →
    kind_read_lem.Post κs a r e → kind_read_lem.Post κs a r' e' → r ≡ r'
kind_read_settled κs a r r' e e' p p' = sym (reads_back r) ∙ ap read_back (p ∙ sym p') ∙ reads_back r'

pub symbol_at_settled :
    (κs : Lfts 2) (a : Dens κs symbol_at_kinds.ps) (r r' : Option ℕ) (e e' : AtExit (ended_of 2 symbol_at_kinds.ps symbol_at_kinds.r) κs) →
    symbol_at.Pre κs a → symbol_at.Post κs a r e → symbol_at.Post κs a r' e' → r ≡ r'
symbol_at_settled κs a r r' e e' here p p' = p here.term here.behind here.stands ∙ sym (p' here.term here.behind here.stands)

pub arguments_at_settled :
    (κs : Lfts 2) (a : Dens κs arguments_at_kinds.ps) (r r' : ℕ) (e e' : AtExit (ended_of 2 arguments_at_kinds.ps arguments_at_kinds.r) κs) →
    arguments_at.Pre κs a → arguments_at.Post κs a r e → arguments_at.Post κs a r' e' → r ≡ r'
arguments_at_settled κs a r r' e e' here p p' = p here.term here.behind here.stands ∙ sym (p' here.term here.behind here.stands)

pub end_of_settled :
    (κs : Lfts 2) (a : Dens κs end_of_kinds.ps) (r r' : ℕ) (e e' : AtExit (ended_of 2 end_of_kinds.ps end_of_kinds.r) κs) →
    end_of_lem.Pre κs a → end_of_lem.Post κs a r e → end_of_lem.Post κs a r' e' → r ≡ r'
end_of_settled κs a r r' e e' here p p' = p here.term here.behind here.stands ∙ sym (p' here.term here.behind here.stands)

pub same_at_settled :
    (κs : Lfts 2) (a : Dens κs same_at_kinds.ps) (r r' : Bool) (e e' : AtExit (ended_of 2 same_at_kinds.ps same_at_kinds.r) κs) →
    same_at.Pre κs a → same_at.Post κs a r e → same_at.Post κs a r' e' → r ≡ r'
same_at_settled κs a r r' e e' (s, t) p p' =
    p s.term t.term s.behind t.behind s.stands t.stands
    ∙ sym (p' s.term t.term s.behind t.behind s.stands t.stands)

-- The copier: how many bytes it laid, and the lent buffer's last content.
pub copy_settled :
    (κs : Lfts 2) (a : Dens κs copy_kinds.ps) (r r' : ℕ) (e e' : AtExit (ended_of 2 copy_kinds.ps copy_kinds.r) κs) →
    copy.Post κs a r e → copy.Post κs a r' e' → (r ≡ r') × (e.1.1.1.0.now ≡ e'.1.1.1.0.now)
copy_settled κs a r r' e e' p p' = (p.0 ∙ sym p'.0, p.1 ∙ sym p'.1)
