-- The values of an answer: the items of its v lines.
use Rattle.std.specs.Prelude.{ℕ, Bool, true, false, not, ◌||◌, List, [], ◌∷◌, leb, eqb}
use Rattle.reply.specs.Reply.{Refusal, Reply, given, refused, unless, ◌>>◌, ◌>>=◌}
use Rattle.clauses.specs.Cnf.{Literal, is, is_not, Assignment, variable_of}
use Rattle.clauses.specs.Item.{Item, closing, literal, faulty, item}

-- How far the values have come, with the literals of the rank variables that were named.
pub data Values : Type 0 where
  unclosed : List Literal → Values
  closed : List Literal → Values

unfoldable pub names : (v : ℕ) → List Literal → Bool
names v [] = false
names v (l ∷ ls) = eqb (variable_of l) v || names v ls

-- "A rank variable (a bit's) may be named once .. Other variables are read for form only." The rank variables are 1 to n·k. `fault`
-- is the refusal of the line.
unfoldable pub named : (fault : Refusal) (rank_variables : ℕ) → Literal → List Literal → Reply Values
named fault rank_variables l ls =
    elim (leb (variable_of l) rank_variables) [
      | true ↦ do
        unless (not (names (variable_of l) ls)) fault
        given (unclosed (l ∷ ls))
      | false ↦ given (unclosed ls)
    ]

-- "A single 0 closes the values; only spaces and c lines may follow."
unfoldable pub item_after : (fault : Refusal) (rank_variables : ℕ) → Values → Item → Reply Values
item_after fault rank_variables (closed ls) i = refused fault
item_after fault rank_variables (unclosed ls) closing = given (closed ls)
item_after fault rank_variables (unclosed ls) (literal l) = named fault rank_variables l ls
item_after fault rank_variables (unclosed ls) faulty = refused fault

unfoldable pub items_after : (fault : Refusal) (variables rank_variables : ℕ) → Values → (items : List (List ℕ)) → Reply Values
items_after fault variables rank_variables vs [] = given vs
items_after fault variables rank_variables vs (i ∷ is') = do
  vs' ← item_after fault rank_variables vs (item variables i)
  items_after fault variables rank_variables vs' is'

-- The value that literals give a variable: "one not named counts as 0".
unfoldable pub valued : List Literal → Assignment
valued [] v = false
valued (is u ∷ ls) v = eqb u v || valued ls v
valued (is_not u ∷ ls) v = valued ls v
