-- The rules of a book that was read, as the rank check goes over them: where the sides of each stand, and what the comparison answers of it.
-- Assumes nothing.
use Prim.Native.Nat.{ℕ, ◌<◌, ◌≤◌}
use mathlib.Core.Bool.{Bool}
use mathlib.Core.List.{List}
use mathlib.Core.Path.{◌≡◌}
use native.Mathlib.Omega.{arith}
use lib.ListN.{length, get_or, take}
use Rattle.std.proofs.lemmas.List.{get_or-take, length-take}
use Rattle.term.specs.Term.{Term}
use Rattle.term.specs.At.{Standing}
use Rattle.book.specs.BookOf.{book_of}
use Rattle.book.specs.Entries.{nowhere, places_of}
use Rattle.book.specs.Standing.{SideStands}
use Rattle.book.specs.WasRead.{ReadFrom}
use Rattle.book.specs.declared.Book.{Book as PlacedBook}
use Rattle.book.specs.declared.RulePlaces.{RulePlaces}
use Rattle.book.specs.declared.read.ReadBook.{ReadBook}
use Rattle.book.proofs.WasRead.{read_stands}
use Rattle.order.specs.Test.{exceeds}
use Rattle.order.specs.Clearing.{decreases}
use Rattle.comparing.specs.Compared.{ExceedsAt}
use Rattle.clearing.proofs.Lowest.{other}

side_standing : {bytes arities : List ℕ} {u n : ℕ} {t : Term} → SideStands bytes arities u n t → Standing bytes arities u
side_standing side = record { term = _; behind = _; stands = side.stands }

pub few_rules : {bytes : List ℕ} {b : PlacedBook} → ReadFrom bytes b → b.rules ≤ 32
few_rules read = (read_stands read).few_rules

module _ (book : ReadBook) where
  -- The places of the rules.
  abbrev pub its : (rule : ℕ) → RulePlaces
  its rule = get_or (take book.places.rules book.places.places) rule nowhere

  pub how_many : book.places.rules ≡ length (book_of book).rules
  how_many = (read_stands book.read).rule_count

  module _ (rule : ℕ) (h : rule < length (take book.places.rules book.places.places)) where
    within : rule < book.places.rules
    within = omega (arith, length-take book.places.rules book.places.places)

    pub below : rule < length (book_of book).rules
    below = omega (arith, how_many, within)

    is : its rule ≡ places_of book.places rule
    is = get_or-take book.places.rules book.places.places rule nowhere within

    pub left_standing : Standing book.bytes.now book.places.arities (its rule).left.at
    left_standing = rw is (side_standing ((read_stands book.read).left rule other within))

    pub right_standing : Standing book.bytes.now book.places.arities (its rule).right.at
    right_standing = rw is (side_standing ((read_stands book.read).right rule other within))

    pub answered :
        (ranks : List ℕ) {r : Bool} → ExceedsAt book.bytes.now book.places.arities ranks (its rule).left.at (its rule).right.at r →
        r ≡ decreases (exceeds ranks) (get_or (book_of book).rules rule other)
    unfolding decreases
    answered ranks told =
        let stand = read_stands book.read in
        (rw is at told) _ _ _ _ (stand.left rule other within).stands (stand.right rule other within).stands
