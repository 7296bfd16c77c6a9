-- "A table of 16 places, one for each variable, holds the match": what the table means for terms that stand in a record's bytes.
use Rattle.std.specs.Prelude.{ℕ, ◌+◌, ◌*◌, ◌<◌, Bool, true, false, List, ◌≡◌, length, set, replicate, Option, Some, None}
use Rattle.term.specs.Term.{Term, Args, var, app, nil, cons, size, same}
use Rattle.term.specs.Replacement.{Occurs}
use Rattle.term.specs.At.{At, Standing}
use Rattle.steps.specs.Fits.{matching, fits}
use Rattle.building.specs.Right.{start_of, TermAt}
use Rattle.building.specs.declared.Match.{Match}

-- A match of nothing yet.
abbrev pub nothing_bound : Match
nothing_bound = record { starts = replicate 16 None }

-- Variable x is bound at a place, unless it is bound already.
unfoldable pub met : Match → (x place : ℕ) → Match
met table x place =
    elim (start_of table x) [
      | Some start ↦ table
      | None ↦ record { starts = set table.starts x (Some place) }
    ]

-- Where the variables of a left side stand in a subterm that starts at a place: each is bound where it occurs first, in prefix order.
unfoldable mutual
  pub bound_in : (left s : Term) (place : ℕ) → Match → Match
  bound_in (var x) s p table = met table x p
  bound_in (app f ls) (var y) p table = table
  bound_in (app f ls) (app g ss) p table = bound_in_args ls ss (p + 2) table

  pub bound_in_args : (lefts ss : Args) (place : ℕ) → Match → Match
  bound_in_args nil ss p table = table
  bound_in_args (cons l ls) nil p table = table
  bound_in_args (cons l ls) (cons s ss) p table = bound_in_args ls ss (p + 2 * size s) (bound_in l s p table)

-- The table of a left side that fits.
abbrev pub table_of : (left s : Term) (place : ℕ) → Match
table_of left s p = bound_in left s p nothing_bound

-- The table, if two terms are identical.
unfoldable pub if_same : Bool → Match → Option Match
if_same true table = Some table
if_same false table = None

-- Variable x meets the term at a place: where it is free it is bound there; where it is bound, the terms have to be identical.
pub record Meets (bytes arities : List ℕ) (table : Match) (x place : ℕ) (after : Option Match) : Type 0 where
  pub free : start_of table x ≡ None → after ≡ Some (met table x place)
  pub bound :
      (start : ℕ) → start_of table x ≡ Some start → (t u : Term) (d e : ℕ) → At bytes arities start t d → At bytes arities place u e →
      after ≡ if_same (same t u) table

-- Sixteen places; where a variable is bound, some term of the record stands.
pub record TableAt (bytes arities : List ℕ) (table : Match) : Type 0 where
  pub places : length table.starts ≡ 16
  pub stands : (x start : ℕ) → start_of table x ≡ Some start → Standing bytes arities start

-- A left side stands from u to e: its variables have places in the table.
pub record LeftAt (bytes arities : List ℕ) (u e : ℕ) : Type 0 where
  pub left : Term
  pub stands : At bytes arities u left e
  pub variables : (x : ℕ) → Occurs x left → x < 16

-- The left side fits the subterm at a place, and the table holds the match: each variable's term stands where the table says.
pub record FitsAt (bytes arities : List ℕ) (left s : Term) (place : ℕ) (table : Match) : Type 0 where
  pub fitting : fits left s ≡ true
  pub whole : table ≡ table_of left s place
  pub variables : (x : ℕ) → Occurs x left → TermAt bytes arities (start_of table x) (matching left s x)

-- What the match of a left side and a subterm at a place is: none where the left side does not fit, and else its table.
unfoldable pub Holds : (bytes arities : List ℕ) (left s : Term) (place : ℕ) → Option Match → Type 0
Holds bytes arities left s place None = fits left s ≡ false
Holds bytes arities left s place (Some table) = FitsAt bytes arities left s place table
