-- The kinds of records by their numbers. Assumes nothing.
use Prim.Native.Nat.{ℕ, zero, suc, ◌≤◌, ◌<◌}
use mathlib.Core.Bool.{true}
use mathlib.Core.Path.{◌≡◌, refl, sym, ap, ◌∙◌}
use native.Mathlib.Omega.{arith}
use Rattle.term.specs.Kinds.{on_paper}
use Rattle.term.specs.declared.kinds.Kind.{Kind as Named}
use Rattle.term.specs.declared.kinds.Kind.TheVariants.{Symbol, Rule, SymbolNode, VariableNode, End}
use Rattle.book.specs.Checks.{known}
use Rattle.term.specs.Tables.{Kind, unknown, symbol, rule, symbol_node, variable_node, end, kind_of}

-- What holds of each kind by its number holds of the kind of a byte.
pub by_kind :
    (P : Kind → Type 0) (k : ℕ) → ((1 ≤ k → 5 < k) → P unknown) → (k ≡ 1 → P symbol) → (k ≡ 2 → P rule) → (k ≡ 3 → P symbol_node) →
    (k ≡ 4 → P variable_node) → (k ≡ 5 → P end) → P (kind_of k)
unfolding kind_of
by_kind P zero u p₁ p₂ p₃ p₄ p₅ = u (λ l. absurd (omega arith))
by_kind P (suc zero) u p₁ p₂ p₃ p₄ p₅ = p₁ refl
by_kind P (suc (suc zero)) u p₁ p₂ p₃ p₄ p₅ = p₂ refl
by_kind P (suc (suc (suc zero))) u p₁ p₂ p₃ p₄ p₅ = p₃ refl
by_kind P (suc (suc (suc (suc zero)))) u p₁ p₂ p₃ p₄ p₅ = p₄ refl
by_kind P (suc (suc (suc (suc (suc zero))))) u p₁ p₂ p₃ p₄ p₅ = p₅ refl
by_kind P (suc (suc (suc (suc (suc (suc k)))))) u p₁ p₂ p₃ p₄ p₅ = u (λ l. omega arith)

-- What the code reads as a kind is known, and has its number.
pub known_named : (kind : Named) → known (on_paper kind) ≡ true
unfolding known on_paper
known_named Symbol = refl
known_named Rule = refl
known_named SymbolNode = refl
known_named VariableNode = refl
known_named End = refl

abbrev pub number_of : Named → ℕ
number_of Symbol = 1
number_of Rule = 2
number_of SymbolNode = 3
number_of VariableNode = 4
number_of End = 5

number : Kind → ℕ
number unknown = 0
number symbol = 1
number rule = 2
number symbol_node = 3
number variable_node = 4
number end = 5

number_named : (kind : Named) → number (on_paper kind) ≡ number_of kind
unfolding number on_paper
number_named Symbol = refl
number_named Rule = refl
number_named SymbolNode = refl
number_named VariableNode = refl
number_named End = refl

number_known : (k : ℕ) → known (kind_of k) ≡ true → k ≡ number (kind_of k)
unfolding number known
number_known k e =
    by_kind (λ (kind : Kind). known kind ≡ true → k ≡ number kind) k
    (λ u no. absurd (cc)) (λ is kn. is) (λ is kn. is) (λ is kn. is) (λ is kn. is) (λ is kn. is) e

pub its_number : {kind this : Named} {k : ℕ} → on_paper kind ≡ kind_of k → kind ≡ this → k ≡ number_of this
its_number {kind} {this} {k} read is = number_known k (ap known (sym read) ∙ known_named kind) ∙ ap number (sym read) ∙ number_named kind ∙ ap number_of is
