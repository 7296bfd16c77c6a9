-- The rules of a read book at their places.
use Rattle.std.specs.Prelude.{ℕ, List}
use Rattle.term.specs.Tables.{rank_bits}
use Rattle.book.specs.Entries.{places_of}
use Rattle.book.specs.Meaning.{book_at}
use Rattle.book.specs.declared.Book.{Book as PlacedBook}
use Rattle.clauses.specs.Cnf.{Clause}
use Rattle.clauses.specs.Numbering.{first_base}
use Rattle.clauses.specs.Blocks.{rules_blocks}
use Rattle.rule_blocks.specs.declared.PlacedRule.{PlacedRule}

-- Rule i, whose numbers of C and D start at this base.
unfoldable pub placed_rule : PlacedBook → (base i : ℕ) → PlacedRule
placed_rule b base i =
    record {
      symbols = b.symbols;
      bits = rank_bits b.symbols;
      base = base;
      left = (places_of b i).left.at;
      height = (places_of b i).left.nodes;
      right = (places_of b i).right.at;
      width = (places_of b i).right.nodes;
    }

-- The blocks of a read book's rules, behind those of the pairs.
unfoldable pub rules_of : (bytes : List ℕ) → PlacedBook → List (List Clause)
rules_of bytes b =
    rules_blocks b.symbols (rank_bits b.symbols) (first_base b.symbols (rank_bits b.symbols)) (book_at bytes b).rules
