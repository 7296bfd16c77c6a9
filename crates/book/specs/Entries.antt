-- What is stored of a book that is being read: the arity of each symbol, and for each rule where its sides stand and how many nodes they
-- have. Entries past the counts are 0.
use Rattle.std.specs.Prelude.{ℕ, ◌+◌, get_or, set, replicate}
use Rattle.book.specs.declared.Book.{Book as PlacedBook}
use Rattle.book.specs.declared.RulePlaces.{RulePlaces}

-- The places of no rule.
abbrev pub nowhere : RulePlaces
nowhere = record { left = record { at = 0; nodes = 0 }; right = record { at = 0; nodes = 0 } }

-- Where rule i stands.
abbrev pub places_of : PlacedBook → (i : ℕ) → RulePlaces
places_of b i = get_or b.places i nowhere

-- Nothing read: no symbol, no rule, every entry 0.
unfoldable pub nothing_read : PlacedBook
nothing_read = record { symbols = 0; arities = replicate 16 0; rules = 0; places = replicate 32 nowhere }

-- One symbol more, of this arity.
unfoldable pub with_symbol : PlacedBook → (arity : ℕ) → PlacedBook
with_symbol b arity =
    record { symbols = b.symbols + 1; arities = set b.arities b.symbols arity; rules = b.rules; places = b.places }

-- The next rule, with these places.
abbrev pub placing : PlacedBook → RulePlaces → PlacedBook
placing b its = record { symbols = b.symbols; arities = b.arities; rules = b.rules; places = set b.places b.rules its }

-- The left side of the next rule starts at u.
unfoldable pub with_left : PlacedBook → (u : ℕ) → PlacedBook
with_left b u =
    let its = places_of b b.rules in
    placing b (record { left = record { at = u; nodes = its.left.nodes }; right = its.right })

-- Its left side has so many nodes, and its right side starts at u.
unfoldable pub with_right : PlacedBook → (nodes u : ℕ) → PlacedBook
with_right b nodes u =
    let its = places_of b b.rules in
    placing b (record { left = record { at = its.left.at; nodes = nodes }; right = record { at = u; nodes = its.right.nodes } })

-- Its right side has so many nodes: one rule more.
unfoldable pub with_rule : PlacedBook → (nodes : ℕ) → PlacedBook
with_rule b nodes =
    let its = places_of b b.rules in
    record {
      symbols = b.symbols;
      arities = b.arities;
      rules = b.rules + 1;
      places = set b.places b.rules (record { left = its.left; right = record { at = its.right.at; nodes = nodes } });
    }
