-- Places that match a book of trees: as many symbols and rules, the same arities, and rule by rule the trees stand at the places. Storing
-- a further entry keeps what matched. Assumes nothing.
use Prim.Native.Nat.{ℕ, zero, suc, ◌+◌, ◌<◌}
use mathlib.Core.List.{List, [], ◌∷◌, ◌++◌}
use mathlib.Core.Path.{◌≡◌, refl, sym, ap, ap₂, subst, ◌∙◌}
use native.Mathlib.Decide.{dec_lt}
use native.Mathlib.Numerals.{add-one}
use native.Mathlib.Omega.{arith}
use lib.ListN.{length, get_or, take, set, length-append, length-set}
use lib.Seq.{get_or-set_same, get_or-set_other, take-suc-set}
use Rattle.term.specs.Prefix.{tree_at}
use Rattle.book.specs.Book.{Rule}
use Rattle.book.specs.Entries.{nowhere, places_of, nothing_read, placing, with_symbol, with_left, with_right, with_rule}
use Rattle.book.specs.Meaning.{arities_of, rule_at, rules_before}
use Rattle.book.specs.declared.Book.{Book as PlacedBook}
use Rattle.book.specs.declared.RulePlaces.{RulePlaces}
use Rattle.book.proofs.SideBytes.{SideAt}

-- The arrays' lengths.
pub record Sized (b : PlacedBook) : Type 0 where
  pub arities : length b.arities ≡ 16
  pub places : length b.places ≡ 32

pub record EntryStands (bytes arities : List ℕ) (e : RulePlaces) : Type 0 where
  pub left : SideAt bytes arities e.left.at e.left.nodes
  pub right : SideAt bytes arities e.right.at e.right.nodes

pub record Matched (bytes arities : List ℕ) (rules : List Rule) (b : PlacedBook) : Type 0 where
  pub sized : Sized b
  pub symbol_count : b.symbols ≡ length arities
  pub declared : arities_of b ≡ arities
  pub rule_count : b.rules ≡ length rules
  pub rules_there : rules_before bytes b b.rules ≡ rules
  pub stand : (i : ℕ) → i < b.rules → EntryStands bytes arities (places_of b i)

pub nothing_matched : (bytes : List ℕ) → Matched bytes [] [] nothing_read
unfolding nothing_read arities_of rules_before
nothing_matched bytes =
    record {
      sized = record { arities = refl; places = refl };
      symbol_count = refl;
      declared = refl;
      rule_count = refl;
      rules_there = refl;
      stand = λ i h. absurd (omega arith);
    }

-- An entry before the one that is stored stays.
earlier : (l : List RulePlaces) (n : ℕ) (v : RulePlaces) (i : ℕ) → i < n → get_or l i nowhere ≡ get_or (set l n v) i nowhere
earlier l n v i h = sym (get_or-set_other l n i v nowhere (λ e. omega arith))

-- The rule of an entry, and the rules of entries that agree.
abbrev pub rule_of : (bytes arities : List ℕ) → RulePlaces → Rule
rule_of bytes arities e = record { left = tree_at bytes arities e.left.at e.left.nodes; right = tree_at bytes arities e.right.at e.right.nodes }

rules_agree :
    (bytes : List ℕ) (b b' : PlacedBook) → arities_of b ≡ arities_of b' → (n : ℕ) → ((i : ℕ) → i < n → places_of b i ≡ places_of b' i) →
    rules_before bytes b n ≡ rules_before bytes b' n
unfolding rules_before rule_at
rules_agree bytes b b' same zero agree = refl
rules_agree bytes b b' same (suc n) agree =
    ap₂ (λ (rs : List Rule) (r : Rule). rs ++ (r ∷ [])) (rules_agree bytes b b' same n (λ i h. agree i (omega arith)))
    (ap₂ (λ (arities : List ℕ) (e : RulePlaces). rule_of bytes arities e) same (agree n (omega arith)))

module _ {bytes arities : List ℕ} {rules : List Rule} {b : PlacedBook} (m : Matched bytes arities rules b) where
  -- Other arrays with the same entries below the count of rules.
  matched_again :
      (b' : PlacedBook) → Sized b' → b'.symbols ≡ b.symbols → arities_of b ≡ arities_of b' → b'.rules ≡ b.rules →
      ((i : ℕ) → i < b.rules → places_of b i ≡ places_of b' i) → Matched bytes arities rules b'
  matched_again b' sized symbols same count agree =
      record {
        sized = sized;
        symbol_count = symbols ∙ m.symbol_count;
        declared = sym same ∙ m.declared;
        rule_count = count ∙ m.rule_count;
        rules_there = ap (rules_before bytes b') count ∙ sym (rules_agree bytes b b' same b.rules agree) ∙ m.rules_there;
        stand = λ i h. subst (λ (e : RulePlaces). EntryStands bytes arities e) (agree i (omega arith)) (m.stand i (omega arith));
      }

  -- The next rule's places do not concern the rules before it.
  placing_matched : (its : RulePlaces) → Matched bytes arities rules (placing b its)
  unfolding arities_of
  placing_matched its =
      matched_again (placing b its) (record { arities = m.sized.arities; places = length-set b.places b.rules its ∙ m.sized.places }) refl refl refl
      (λ i h. earlier b.places b.rules its i h)

  -- The next rule's left side starts at u.
  pub left_matched : (u : ℕ) → Matched bytes arities rules (with_left b u)
  unfolding with_left
  left_matched u = placing_matched _

  -- Its left side has n nodes, and its right side starts at u.
  pub right_matched : (n u : ℕ) → Matched bytes arities rules (with_right b n u)
  unfolding with_right
  right_matched n u = placing_matched _

  -- Its right side has n nodes: both sides stand, and the rule is one more.
  abbrev whole : (n : ℕ) → RulePlaces
  whole n = record { left = (places_of b b.rules).left; right = record { at = (places_of b b.rules).right.at; nodes = n } }

  pub rule_matched :
      (n : ℕ) (r : Rule) → b.rules < 32 → EntryStands bytes arities (whole n) → rule_of bytes arities (whole n) ≡ r →
      Matched bytes arities (rules ++ (r ∷ [])) (with_rule b n)
  unfolding with_rule arities_of rules_before rule_at
  rule_matched n r room both is =
      record {
        sized = record { arities = m.sized.arities; places = length-set b.places b.rules (whole n) ∙ m.sized.places };
        symbol_count = m.symbol_count;
        declared = m.declared;
        rule_count = simp length-append (omega (arith, m.rule_count));
        rules_there =
            ap (rules_before bytes (with_rule b n)) (add-one b.rules)
            ∙ ap₂ (λ (rs : List Rule) (one : Rule). rs ++ (one ∷ []))
            (sym (rules_agree bytes b (with_rule b n) refl b.rules below) ∙ m.rules_there)
            (ap₂ (λ (l : List ℕ) (e : RulePlaces). rule_of bytes l e) m.declared last ∙ is);
        stand = stands;
      }
    where
      below : (i : ℕ) → i < b.rules → places_of b i ≡ places_of (with_rule b n) i
      below i h = earlier b.places b.rules (whole n) i h

      last : places_of (with_rule b n) b.rules ≡ whole n
      last = get_or-set_same b.places b.rules (whole n) nowhere (omega (arith, m.sized.places))

      stands : (i : ℕ) → i < b.rules + 1 → EntryStands bytes arities (places_of (with_rule b n) i)
      stands i h =
          elim (dec_lt i b.rules) [
            | yes before ↦ subst (λ (e : RulePlaces). EntryStands bytes arities e) (below i before) (m.stand i before)
            | no behind ↦
                let here : b.rules ≡ i = omega arith in
                subst (λ (e : RulePlaces). EntryStands bytes arities e) (sym last ∙ ap (places_of (with_rule b n)) here) both
          ]

-- One symbol more, while there is no rule.
pub symbol_matched :
    {bytes arities : List ℕ} {b : PlacedBook} (arity : ℕ) → Matched bytes arities [] b → b.symbols < 16 → Matched bytes (arities ++ (arity ∷ [])) [] (with_symbol b arity)
unfolding with_symbol arities_of rules_before
symbol_matched {bytes} {arities} {b} arity m room =
    record {
      sized = record { arities = length-set b.arities b.symbols arity ∙ m.sized.arities; places = m.sized.places };
      symbol_count = simp length-append (omega (arith, m.symbol_count));
      declared =
          ap (λ (n : ℕ). take n (set b.arities b.symbols arity)) (add-one b.symbols)
          ∙ take-suc-set b.arities b.symbols arity (omega (arith, m.sized.arities))
          ∙ ap (λ (l : List ℕ). l ++ (arity ∷ [])) m.declared;
      rule_count = m.rule_count;
      rules_there = ap (rules_before bytes (with_symbol b arity)) m.rule_count;
      stand = λ i h. absurd (omega (arith, m.rule_count));
    }
