-- Places that match a book of trees hold it: its counts and arities, and side by side its trees stand at the places. Assumes nothing.
use Prim.Native.Nat.{ℕ, zero, suc, ◌≤◌, ◌<◌}
use mathlib.Core.List.{List, [], ◌∷◌}
use mathlib.Core.Path.{◌≡◌, refl, sym, ap, subst, ◌∙◌}
use native.Mathlib.Decide.{dec_lt}
use native.Mathlib.Omega.{arith}
use lib.ListN.{length, get_or, length-append, get_or-append}
use lib.Seq.{get_or_at}
use Rattle.term.specs.Term.{Term}
use Rattle.term.specs.Prefix.{tree_at}
use Rattle.book.specs.Book.{Book, Rule, symbols}
use Rattle.book.specs.Meaning.{arities_of, rule_at, rules_before}
use Rattle.book.specs.Standing.{SideStands, BookStands}
use Rattle.book.specs.declared.Book.{Book as PlacedBook}
use Rattle.term.proofs.MoreSymbols.{at_table}
use Rattle.book.proofs.SideBytes.{SideAt}
use Rattle.book.proofs.Matched.{Matched}

-- Rule i of the rules before another.
rules_length : (bytes : List ℕ) (b : PlacedBook) (n : ℕ) → length (rules_before bytes b n) ≡ n
unfolding rules_before
rules_length bytes b zero = refl
rules_length bytes b (suc n) = length-append (rules_before bytes b n) (rule_at bytes b n ∷ []) ∙ omega (arith, rules_length bytes b n)

rule_of_lem : (bytes : List ℕ) (b : PlacedBook) (n i : ℕ) (other : Rule) → i < n → get_or (rules_before bytes b n) i other ≡ rule_at bytes b i
unfolding rules_before
rule_of_lem bytes b zero i other h = absurd (omega arith)
rule_of_lem bytes b (suc n) i other h =
    elim (dec_lt i n) [
      | yes before ↦
          get_or-append (rules_before bytes b n) (rule_at bytes b n ∷ []) other i (omega (arith, rules_length bytes b n)) ∙ rule_of_lem bytes b n i other before
      | no last ↦
          let is : n ≡ i = omega arith in
          get_or_at (rules_before bytes b n) (rule_at bytes b n) [] other i (rules_length bytes b n ∙ is) ∙ ap (rule_at bytes b) is
    ]

-- A side that stands over the declared symbols, told of the rule that has it.
side_stands :
    (bytes : List ℕ) (b : PlacedBook) (arities : List ℕ) (u many : ℕ) (side : Term) → arities_of b ≡ arities → SideAt bytes arities u many →
    side ≡ tree_at bytes (arities_of b) u many → SideStands bytes b.arities u many side
unfolding arities_of
side_stands bytes b arities u many side same stood is =
    let over : SideAt bytes (arities_of b) u many = subst (λ (l : List ℕ). SideAt bytes l u many) (sym same) stood in
    subst (λ (t : Term). SideStands bytes b.arities u many t) (sym is)
    (record { stands = at_table b.symbols b.arities over.stands; counted = over.nodes })

pub matched_stands :
    (bytes : List ℕ) (b : PlacedBook) (book : Book) → Matched bytes book.arities book.rules b → symbols book ≤ 16 → length book.rules ≤ 32 →
    BookStands bytes b book
unfolding symbols arities_of rule_at
matched_stands bytes b book m few_symbols few_rules =
    record {
      symbol_count = m.symbol_count;
      few_symbols = omega (arith, m.symbol_count);
      table = m.sized.arities;
      declared = m.declared;
      rule_count = m.rule_count;
      few_rules = omega (arith, m.rule_count);
      left = λ i other h. side_stands bytes b book.arities _ _ _ m.declared (m.stand i h).left (ap (λ (r : Rule). r.left) (rule_i i other h));
      right = λ i other h. side_stands bytes b book.arities _ _ _ m.declared (m.stand i h).right (ap (λ (r : Rule). r.right) (rule_i i other h));
    }
  where
    rule_i : (i : ℕ) (other : Rule) → i < b.rules → get_or book.rules i other ≡ rule_at bytes b i
    rule_i i other h = ap (λ (rs : List Rule). get_or rs i other) (sym m.rules_there) ∙ rule_of_lem bytes b b.rules i other h
