-- The rules' blocks from rule to rule, looked for by number and counted. Assumes nothing.
use Prim.Native.Nat.{ℕ, ◌+◌, ◌-◌, ◌*◌, ◌≤◌, ◌<◌}
use mathlib.Core.List.{List, ◌++◌, flatten}
use mathlib.Core.Path.{◌≡◌, sym, ap, ap₂, ◌∙◌}
use native.Mathlib.Omega.{arith}
use lib.ListN.{length, get_elem?, length-append}
use Rattle.std.specs.Prelude.{Some, None}
use Rattle.term.specs.Tables.{rank_bits}
use Rattle.book.specs.Book.{Rule}
use Rattle.book.specs.BookOf.{book_of}
use Rattle.book.specs.declared.read.ReadBook.{ReadBook}
use Rattle.clauses.specs.Cnf.{Clause}
use Rattle.clauses.specs.Numbering.{first_base}
use Rattle.clauses.specs.Blocks.{pair_blocks, rule_blocks, rules_blocks, blocks}
use Rattle.clauses.proofs.Elements.{element_left, element_right}
use Rattle.clauses.proofs.Lists.{flatten_append}
use Rattle.counts.proofs.ReadRules.{read_symbols}
use Rattle.rule_blocks.specs.Nodes.{setting_of}
use Rattle.rule_blocks.specs.Rules.{RuleStands}
use Rattle.rule_blocks.specs.declared.PlacedRule.{PlacedRule}
use Rattle.rule_blocks.proofs.RuleNumbers.{blocks_counted}
use Rattle.blocks.specs.RulePlaces.{rules_of}
use Rattle.blocks.specs.Found.{Finds}
use Rattle.blocks.proofs.RulesWalk.{blocks_from, blocks_ended, behind, RuleHere}

-- The block that is looked for is block `rest` from rule i on.
abbrev pub Sought : ReadBook → (number base i rest : ℕ) → Type 0
Sought b number base i rest = get_elem? (rules_of b.bytes.now b.places) number ≡ get_elem? (blocks_from b base i) rest

pub sought_starts : (b : ReadBook) (number base : ℕ) → base ≡ first_base b.places.symbols (rank_bits b.places.symbols) → Sought b number base 0 number
unfolding rules_of
sought_starts b number base e = ap (λ (x : ℕ). get_elem? (blocks_from b x 0) number) (sym e)

module _ {b : ReadBook} {base i : ℕ} {c : PlacedRule} (here : RuleHere b base i c) (number rest : ℕ) (sought : Sought b number base i rest) where
  pub sought_goes_on : c.height * c.width < rest → Sought b number (behind base c) (i + 1) (rest - (c.height * c.width + 1))
  sought_goes_on later =
      let own = rule_blocks (setting_of c) here.rule in
      let others = blocks_from b (behind base c) (i + 1) in
      let split : length own + (rest - (c.height * c.width + 1)) ≡ rest = omega (arith, blocks_counted here.stands) in
      sought
      ∙ ap (λ (l : List (List Clause)). get_elem? l rest) here.parted
      ∙ ap (get_elem? (own ++ others)) (sym split)
      ∙ element_right own others (rest - (c.height * c.width + 1))

  pub sought_found : rest ≤ c.height * c.width → Finds b number (Some (c, rest))
  unfolding Finds
  sought_found within =
      record {
        rule = here.rule;
        stands = here.stands;
        within = within;
        same =
            sought
            ∙ ap (λ (l : List (List Clause)). get_elem? l rest) here.parted
            ∙ element_left (rule_blocks (setting_of c) here.rule) _ rest (omega (arith, blocks_counted here.stands));
      }

pub sought_none : (b : ReadBook) (number base i rest : ℕ) → Sought b number base i rest → b.places.rules ≤ i → Finds b number None
unfolding Finds
sought_none b number base i rest sought h = sought ∙ ap (λ (l : List (List Clause)). get_elem? l rest) (blocks_ended b base i h)

-- Clauses that were counted, and those of the rules that are left.
abbrev pub Counted : ReadBook → (base i clauses : ℕ) → Type 0
Counted b base i clauses = clauses + length (flatten (blocks_from b base i)) ≡ length (flatten (blocks (book_of b)))

abbrev rules_over : List Rule → ℕ → List (List Clause)
rules_over rules n = rules_blocks n (rank_bits n) (first_base n (rank_bits n)) rules

pub counted_starts :
    (b : ReadBook) (base clauses : ℕ) → base ≡ first_base b.places.symbols (rank_bits b.places.symbols) →
    clauses ≡ length (flatten (pair_blocks b.places.symbols (rank_bits b.places.symbols))) → Counted b base 0 clauses
unfolding blocks
counted_starts b base clauses e f =
    let pairs = pair_blocks b.places.symbols (rank_bits b.places.symbols) in
    ap₂ (λ (m x : ℕ). m + length (flatten (blocks_from b x 0))) f e
    ∙ sym (length-append (flatten pairs) (flatten (rules_over (book_of b).rules b.places.symbols)))
    ∙ ap length (sym (flatten_append pairs (rules_over (book_of b).rules b.places.symbols)))
    ∙ ap (λ (n : ℕ). length (flatten (pair_blocks n (rank_bits n) ++ rules_over (book_of b).rules n))) (sym (read_symbols b.read))

pub counted_goes_on :
    {b : ReadBook} {base i : ℕ} {c : PlacedRule} (here : RuleHere b base i c) (clauses more : ℕ) → Counted b base i clauses →
    ((rule : Rule) → RuleStands b.bytes.now b.places.arities c rule → more ≡ length (flatten (rule_blocks (setting_of c) rule))) →
    Counted b (behind base c) (i + 1) (clauses + more)
counted_goes_on {b} {base} {i} {c} here clauses more counted count =
    let own = rule_blocks (setting_of c) here.rule in
    let others = blocks_from b (behind base c) (i + 1) in
    let parted : length (flatten (blocks_from b base i)) ≡ length (flatten own) + length (flatten others) =
    ap (λ (l : List (List Clause)). length (flatten l)) here.parted
    ∙ ap length (flatten_append own others)
    ∙ length-append (flatten own) (flatten others)
    in
    omega (arith, count here.rule here.stands)

pub counted_ends : (b : ReadBook) (base i clauses : ℕ) → Counted b base i clauses → b.places.rules ≤ i → clauses ≡ length (flatten (blocks (book_of b)))
unfolding flatten
counted_ends b base i clauses counted h = omega (arith, ap (λ (l : List (List Clause)). length (flatten l)) (blocks_ended b base i h))
