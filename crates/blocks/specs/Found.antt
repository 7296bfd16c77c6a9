-- Where a read book's block of a number is, and what laying it promises.
use Rattle.std.specs.Prelude.{ℕ, ◌-◌, ◌*◌, ◌≤◌, ◌<◌, ◌≡◌, get_or, Option as Maybe, Some, None}
use mathlib.Core.List.{List, [], flat_map}
use Rattle.std.proofs.Math.Option.{Option, none, some}
use Rattle.std.proofs.Math.ListN.{get_elem?}
use Rattle.term.specs.Tables.{rank_bits}
use Rattle.book.specs.Book.{Rule}
use Rattle.book.specs.BookOf.{book_of}
use Rattle.book.specs.declared.read.ReadBook.{ReadBook}
use Rattle.clauses.specs.Blocks.{pair_blocks, rule_blocks}
use Rattle.clauses.specs.File.{clause_bytes, header, file_blocks}
use Rattle.rule_blocks.specs.Nodes.{setting_of}
use Rattle.blocks.specs.RulePlaces.{rules_of}
use Rattle.rule_blocks.specs.Rules.{RuleStands}
use Rattle.blocks.specs.declared.finding.Place.{Place}
use Rattle.blocks.specs.declared.finding.Place.TheVariants.{Header, Pair, InRule}
use Rattle.rule_blocks.specs.declared.PlacedRule.{PlacedRule}

-- A block of the rules is block `rest` of the rule at these places.
pub record FoundIn (b : ReadBook) (number : ℕ) (c : PlacedRule) (rest : ℕ) : Type 0 where
  pub rule : Rule
  pub stands : RuleStands b.bytes.now b.places.arities c rule
  pub within : rest ≤ c.height * c.width
  pub same : get_elem? (rules_of b.bytes.now b.places) number ≡ get_elem? (rule_blocks (setting_of c) rule) rest

-- Where the rules' block of a number is.
unfoldable pub Finds : ReadBook → (number : ℕ) → Maybe (PlacedRule × ℕ) → Type 0
Finds b number (Some found) = FoundIn b number found.0 found.1
Finds b number None = get_elem? (rules_of b.bytes.now b.places) number ≡ none

-- Block `rest` of the rule at these places, as text.
pub record RuleText (b : ReadBook) (found : Option (List ℕ)) (c : PlacedRule) (rest : ℕ) : Type 0 where
  pub rule : Rule
  pub stands : RuleStands b.bytes.now b.places.arities c rule
  pub within : rest ≤ c.height * c.width
  pub text : found ≡ some (flat_map clause_bytes (get_or (rule_blocks (setting_of c) rule) rest []))

-- The book's block of a number is at this place.
unfoldable pub FindsPlace : ReadBook → (number : ℕ) → Place → Type 0
FindsPlace b number Header = get_elem? (file_blocks (book_of b)) number ≡ some (header (book_of b))
FindsPlace b number (Pair p) =
    (p < b.places.symbols * (b.places.symbols - 1))
    × (get_elem? (file_blocks (book_of b)) number ≡ some (flat_map clause_bytes (get_or (pair_blocks b.places.symbols (rank_bits b.places.symbols)) p [])))
FindsPlace b number (InRule c rest) = RuleText b (get_elem? (file_blocks (book_of b)) number) c rest

-- Where the book's block of a number is.
unfoldable pub FindsBlock : ReadBook → (number : ℕ) → Maybe Place → Type 0
FindsBlock b number (Some place) = FindsPlace b number place
FindsBlock b number None = get_elem? (file_blocks (book_of b)) number ≡ none

-- The place was found for some number.
pub record SomeNumber (b : ReadBook) (place : Place) : Type 0 where
  pub number : ℕ
  pub finds : FindsPlace b number place
