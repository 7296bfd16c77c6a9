-- A read book's file by numbers: the header, then the pairs, then the rules. Assumes nothing.
use Prim.Native.Nat.{ℕ, zero, suc, ◌+◌, ◌-◌, ◌*◌, ◌≤◌, ◌<◌}
use mathlib.Core.List.{List, [], ◌∷◌, ◌++◌, map, flat_map}
use mathlib.Core.Option.{Option, none, some}
use mathlib.Core.Path.{◌≡◌, refl, ap, subst, ◌∙◌}
use native.Mathlib.Omega.{arith}
use lib.ListN.{length, get_elem?}
use Rattle.std.specs.Prelude.{Option as Maybe, Some, None}
use Rattle.term.specs.Tables.{rank_bits}
use Rattle.book.specs.BookOf.{book_of}
use Rattle.book.specs.declared.read.ReadBook.{ReadBook}
use Rattle.clauses.specs.Cnf.{Clause}
use Rattle.clauses.specs.Numbering.{first_base}
use Rattle.clauses.specs.Blocks.{pair_blocks, rule_blocks, rules_blocks, blocks}
use Rattle.clauses.specs.File.{clause_bytes, header, file_blocks}
use Rattle.clauses.proofs.BlockNumbers.{pairs_count}
use Rattle.clauses.proofs.Elements.{element_left, element_right, element_there, element_map, element_map_none}
use Rattle.counts.proofs.ReadRules.{read_symbols}
use Rattle.rule_blocks.specs.Nodes.{setting_of}
use Rattle.rule_blocks.specs.declared.PlacedRule.{PlacedRule}
use Rattle.rule_blocks.proofs.RuleNumbers.{blocks_counted}
use Rattle.blocks.specs.RulePlaces.{rules_of}
use Rattle.blocks.specs.Found.{Finds, FindsPlace, FindsBlock}
use Rattle.blocks.specs.declared.finding.Place.{Place}
use Rattle.blocks.specs.declared.finding.Place.TheVariants.{Header, Pair, InRule}

-- A number above 0 is one more than another.
one_more : {A : Type 0} (l : List A) (x : A) (number : ℕ) → (number ≡ 0 → ⊥) → get_elem? (x ∷ l) number ≡ get_elem? l (number - 1)
one_more l x zero ne = absurd (ne refl)
one_more l x (suc i) ne = let same : i ≡ suc i - 1 = omega arith in ap (get_elem? l) same

module _ (b : ReadBook) where
  abbrev pairs_blocks : List (List Clause)
  pairs_blocks = pair_blocks b.places.symbols (rank_bits b.places.symbols)

  abbrev behind_them : List (List Clause)
  behind_them = rules_of b.bytes.now b.places

  blocks_of_lem : blocks (book_of b) ≡ pairs_blocks ++ behind_them
  unfolding blocks rules_of
  blocks_of_lem =
      ap (λ (n : ℕ). pair_blocks n (rank_bits n) ++ rules_blocks n (rank_bits n) (first_base n (rank_bits n)) (book_of b).rules) (read_symbols b.read)

  many_pairs : length pairs_blocks ≡ b.places.symbols * (b.places.symbols - 1)
  many_pairs = pairs_count b.places.symbols (rank_bits b.places.symbols)

  module _ (number : ℕ) where
    pub found_header : number ≡ 0 → FindsPlace b number Header
    unfolding FindsPlace file_blocks
    found_header e = ap (get_elem? (header (book_of b) ∷ map (flat_map clause_bytes) (blocks (book_of b)))) e

    module _ (ne : number ≡ 0 → ⊥) (pairs : ℕ) (counted : pairs ≡ b.places.symbols * (b.places.symbols - 1)) where
      -- The text of the block behind the header.
      text_at : {block : List Clause} → get_elem? (blocks (book_of b)) (number - 1) ≡ some block → get_elem? (file_blocks (book_of b)) number ≡ some (flat_map clause_bytes block)
      unfolding file_blocks
      text_at e =
          one_more (map (flat_map clause_bytes) (blocks (book_of b))) (header (book_of b)) number ne
          ∙ element_map (flat_map clause_bytes) (blocks (book_of b)) (number - 1) e

      none_at_lem : get_elem? (blocks (book_of b)) (number - 1) ≡ none → get_elem? (file_blocks (book_of b)) number ≡ none
      unfolding file_blocks
      none_at_lem e =
          one_more (map (flat_map clause_bytes) (blocks (book_of b))) (header (book_of b)) number ne
          ∙ element_map_none (flat_map clause_bytes) (blocks (book_of b)) (number - 1) e

      pub found_pair : number ≤ pairs → FindsPlace b number (Pair (number - 1))
      unfolding FindsPlace
      found_pair h = (
        omega arith,
        text_at
            (ap (λ (l : List (List Clause)). get_elem? l (number - 1)) blocks_of_lem
            ∙ element_left pairs_blocks behind_them (number - 1) (omega (arith, many_pairs))
            ∙ element_there pairs_blocks (number - 1) [] (omega (arith, many_pairs))),
      )

      module _ (h : pairs < number) where
        behind_pairs : get_elem? (blocks (book_of b)) (number - 1) ≡ get_elem? behind_them (number - 1 - pairs)
        behind_pairs =
            let split : number - 1 ≡ length pairs_blocks + (number - 1 - pairs) = omega (arith, many_pairs) in
            ap (λ (l : List (List Clause)). get_elem? l (number - 1)) blocks_of_lem
            ∙ ap (get_elem? (pairs_blocks ++ behind_them)) split
            ∙ element_right pairs_blocks behind_them (number - 1 - pairs)

        pub found_rule : (c : PlacedRule) (rest : ℕ) → Finds b (number - 1 - pairs) (Some (c, rest)) → FindsPlace b number (InRule c rest)
        unfolding Finds FindsPlace
        found_rule c rest found =
            record {
              rule = found.rule;
              stands = found.stands;
              within = found.within;
              text =
                  text_at
                  (behind_pairs
                  ∙ found.same
                  ∙ element_there (rule_blocks (setting_of c) found.rule) rest [] (omega (arith, found.within, blocks_counted found.stands)));
            }

        pub found_nowhere : Finds b (number - 1 - pairs) None → FindsBlock b number None
        unfolding Finds FindsBlock
        found_nowhere e = none_at_lem (behind_pairs ∙ e)

-- The place that was found.
pub found_there :
    (b : ReadBook) (number : ℕ) {found : Maybe Place} {place : Place} → FindsBlock b number found → found ≡ Some place → FindsPlace b number place
unfolding FindsBlock
found_there b number finds is = subst (FindsBlock b number) is finds

-- A block that is somewhere has a text.
pub some_text :
    (b : ReadBook) (number : ℕ) (place : Place) → FindsPlace b number place → (text : List ℕ) × (get_elem? (file_blocks (book_of b)) number ≡ some text)
unfolding FindsPlace
some_text b number Header finds = (_, finds)
some_text b number (Pair p) finds = (_, finds.1)
some_text b number (InRule c rest) finds = (_, finds.text)

-- There is one text.
pub one_text : {found : Option (List ℕ)} {a b : List ℕ} → found ≡ some a → found ≡ some b → a ≡ b
one_text p q = cc
