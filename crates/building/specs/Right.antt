-- A right side under a match: its variables' terms are those that stand where the table says.
use Rattle.std.specs.Prelude.{ℕ, ◌+◌, ◌-◌, ◌<◌, ◌≤◌, List, ◌++◌, ◌≡◌, length, get_or, take, drop, Option, Some, None}
use Rattle.term.specs.Term.{Term, size}
use Rattle.term.specs.Replacement.{Replacement, Occurs, replace}
use Rattle.term.specs.Prefix.{prefix}
use Rattle.term.specs.At.{At}
use Rattle.building.specs.declared.Match.{Match}
use Rattle.building.specs.declared.Place.{Place}

-- Where the term of variable x starts, if it is bound.
abbrev pub start_of : Match → (x : ℕ) → Option ℕ
start_of table x = get_or table.starts x None

-- There is such a place, and the term t stands at it.
pub record TermAt (bytes arities : List ℕ) (u : Option ℕ) (t : Term) : Type 0 where
  pub place : ℕ
  pub bound : u ≡ Some place
  pub behind : ℕ
  pub stands : At bytes arities place t behind

-- The term that replaces each variable stands at its place.
pub record Held (bytes arities : List ℕ) (table : Match) (right : Term) (σ : Replacement) : Type 0 where
  pub small : (x : ℕ) → Occurs x right → x < 16
  pub terms : (x : ℕ) → Occurs x right → TermAt bytes arities (start_of table x) (σ x)

-- A right side of "at most 10 nodes" stands from u to e, and its variables are held.
pub record RightAt (book bytes arities : List ℕ) (table : Match) (u e : ℕ) : Type 0 where
  pub right : Term
  pub replacement : Replacement
  pub stands : At book arities u right e
  pub held : Held bytes arities table right replacement
  pub nodes : size right ≤ 10

-- What is known of the right side from u to e and of a replacement that the table holds.
abbrev pub UnderMatch : (book bytes arities : List ℕ) (table : Match) (u e : ℕ) → (Term → Type 0) → Type 0
UnderMatch book bytes arities table u e Known =
    (right : Term) (σ : Replacement) → At book arities u right e → Held bytes arities table right σ → Known (replace σ right)

-- The bytes of a term fit behind so many.
abbrev pub FitsBehind : (at room : ℕ) → Term → Type 0
FitsBehind at room t = at + length (prefix t) ≤ room

-- The bytes of a term were laid behind the first `at` bytes, up to `end`; later bytes keep their values.
pub record LaidBehind (at end : ℕ) (before after : List ℕ) (t : Term) : Type 0 where
  pub ends : end ≡ at + length (prefix t)
  pub laid : take end after ≡ take at before ++ prefix t
  pub kept : drop end after ≡ drop end before

-- The whole next term: what stood before the place, the new subterm and what stood behind it, up to `end`; later bytes keep their values.
pub record Built (bytes : List ℕ) (place : Place) (end : ℕ) (before after : List ℕ) (t : Term) : Type 0 where
  pub ends : end ≡ place.at + (length (prefix t) + (length bytes - place.end))
  pub built : take end after ≡ take place.at bytes ++ (prefix t ++ drop place.end bytes)
  pub kept : drop end after ≡ drop end before

-- It fits a buffer.
abbrev pub BuiltFits : (bytes : List ℕ) (place : Place) (room : ℕ) → Term → Type 0
BuiltFits bytes place room t = place.at + (length (prefix t) + (length bytes - place.end)) ≤ room

-- A part of the bytes.
pub record Within (bytes : List ℕ) (place : Place) : Type 0 where
  pub ordered : place.at ≤ place.end
  pub inside : place.end ≤ length bytes
