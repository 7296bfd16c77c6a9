-- A book of trees that stands in its bytes, at the places of a read book.
use Rattle.std.specs.Prelude.{ℕ, ◌+◌, ◌*◌, ◌≤◌, ◌<◌, List, ◌≡◌, length, get_or, take}
use Rattle.term.specs.Term.{Term, size}
use Rattle.term.specs.At.{At}
use Rattle.book.specs.Book.{Book, Rule, symbols}
use Rattle.book.specs.Entries.{places_of}
use Rattle.book.specs.declared.Book.{Book as PlacedBook}

-- A side: the term stands from its place on, over the array of arities, and has so many nodes, two bytes each.
pub record SideStands (bytes arities : List ℕ) (u nodes : ℕ) (side : Term) : Type 0 where
  pub stands : At bytes arities u side (u + 2 * nodes)
  pub counted : size side ≡ nodes

-- As many symbols and rules, and side by side its trees. Rule i is taken from the list of rules, whatever stands for a rule past its end.
pub record BookStands (bytes : List ℕ) (b : PlacedBook) (book : Book) : Type 0 where
  pub symbol_count : b.symbols ≡ symbols book
  pub few_symbols : b.symbols ≤ 16
  pub table : length b.arities ≡ 16
  pub declared : take b.symbols b.arities ≡ book.arities
  pub rule_count : b.rules ≡ length book.rules
  pub few_rules : b.rules ≤ 32
  pub left :
      (i : ℕ) (other : Rule) → i < b.rules →
      SideStands bytes b.arities (places_of b i).left.at (places_of b i).left.nodes (get_or book.rules i other).left
  pub right :
      (i : ℕ) (other : Rule) → i < b.rules →
      SideStands bytes b.arities (places_of b i).right.at (places_of b i).right.nodes (get_or book.rules i other).right
