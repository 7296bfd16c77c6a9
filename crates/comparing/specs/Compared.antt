-- The order on terms that stand in bytes: what a comparison asks of its places, and what it promises of them.
use Rattle.std.specs.Prelude.{ℕ, ◌<◌, ◌≤◌, Bool, List, ◌≡◌, Option, Some, None, get_or}
use Rattle.term.specs.Term.{Term, Args, app, size, sizes}
use Rattle.term.specs.Root.{symbol_of, arguments}
use Rattle.term.specs.At.{At, ArgsAt, Standing}
use Rattle.comparing.specs.declared.Root.{Root}
use Rattle.order.specs.Test.{every_arg, decrease_at, case3_holds, exceeds}

-- The root of whatever term stands at u: of a variable, none; else its symbol, which is declared, with the arguments that its arity says.
pub record Rooted (bytes arities : List ℕ) (root : Root) (t : Term) (e : ℕ) : Type 0 where
  pub parted : t ≡ app root.symbol (arguments t)
  pub under : ArgsAt bytes arities root.many root.first (arguments t) e

pub record RootIs (bytes arities : List ℕ) (u : ℕ) (root : Root) : Type 0 where
  pub declared : root.symbol < 16
  pub arity : root.many ≡ get_or arities root.symbol 0
  pub parts : (t : Term) (e : ℕ) → At bytes arities u t e → Rooted bytes arities root t e

abbrev pub RootAt : (bytes arities : List ℕ) (u : ℕ) → Option Root → Type 0
RootAt bytes arities u None = (t : Term) (e : ℕ) → At bytes arities u t e → None ≡ symbol_of t
RootAt bytes arities u (Some root) = RootIs bytes arities u root

-- So many terms stand from u on.
pub record ArgumentsAt (bytes arities : List ℕ) (many u : ℕ) : Type 0 where
  pub terms : Args
  pub behind : ℕ
  pub stand : ArgsAt bytes arities many u terms behind

-- s, and so many of its arguments and of another term's, side by side.
pub record ListsAt (bytes arities : List ℕ) (s many ss ts : ℕ) : Type 0 where
  pub term : Standing bytes arities s
  pub lefts : ArgumentsAt bytes arities many ss
  pub rights : ArgumentsAt bytes arities many ts
  pub within : sizes lefts.terms ≤ size term.term

-- The answer is the test's, whatever terms stand at the places.
abbrev pub ExceedsAt : (bytes arities ranks : List ℕ) (s t : ℕ) → Bool → Type 0
ExceedsAt bytes arities ranks s t r = (a b : Term) (d e : ℕ) → At bytes arities s a d → At bytes arities t b e → r ≡ exceeds ranks a b

abbrev pub SomeReachesAt : (bytes arities ranks : List ℕ) (many ss t : ℕ) → Bool → Type 0
SomeReachesAt bytes arities ranks many ss t r =
    (a : Args) (b : Term) (d e : ℕ) → ArgsAt bytes arities many ss a d → At bytes arities t b e → r ≡ case3_holds (exceeds ranks) a b

abbrev pub ExceedsEveryAt : (bytes arities ranks : List ℕ) (s many ts : ℕ) → Bool → Type 0
ExceedsEveryAt bytes arities ranks s many ts r =
    (a : Term) (b : Args) (d e : ℕ) → At bytes arities s a d → ArgsAt bytes arities many ts b e → r ≡ every_arg (exceeds ranks a) b

abbrev pub DecreasesAt : (bytes arities ranks : List ℕ) (s many ss ts : ℕ) → Bool → Type 0
DecreasesAt bytes arities ranks s many ss ts r =
    (c : Term) (a b : Args) (d e h : ℕ) → At bytes arities s c d → ArgsAt bytes arities many ss a e → ArgsAt bytes arities many ts b h →
    r ≡ decrease_at (exceeds ranks) c a b
