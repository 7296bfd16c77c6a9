-- The left sides of a read book stand at their places, and their variables have places in the table. Assumes nothing.
use Prim.Native.Nat.{ℕ, ◌+◌, ◌*◌, ◌<◌, ◌≤◌}
use mathlib.Core.List.{List}
use mathlib.Core.Path.{◌≡◌, sym, ap}
use native.Mathlib.Omega.{arith}
use lib.ListN.{length, get_or, take, length-take}
use lib.Seq.{get_or-take}
use Rattle.term.specs.Term.{var}
use Rattle.term.specs.Replacement.{Occurs}
use Rattle.term.specs.At.{At}
use Rattle.book.specs.Book.{Rule}
use Rattle.book.specs.Entries.{nowhere, places_of}
use Rattle.book.specs.WasRead.{ReadFrom}
use Rattle.book.specs.declared.Book.{Book as Places}
use Rattle.book.specs.declared.RulePlaces.{RulePlaces}
use Rattle.book.specs.declared.SidePlace.{SidePlace}
use Rattle.book.proofs.WasRead.{read_stands, read_limits, left_limits}
use Rattle.steps.specs.Step.{rule_of}
use Rattle.matching.specs.RulesIn.{rules_in}
use Rattle.matching.specs.Table.{LeftAt}

-- Where the left side of rule i ends, two bytes a node.
abbrev pub left_end : Places → (i : ℕ) → ℕ
left_end places i = (places_of places i).left.at + 2 * (places_of places i).left.nodes

pub record LeftsAt (bytes : List ℕ) (places : Places) (rules : List Rule) : Type 0 where
  pub counted : places.rules ≡ length rules
  pub few : length rules ≤ 32
  pub lefts : (i : ℕ) → i < length rules → At bytes places.arities (places_of places i).left.at (rule_of rules i).left (left_end places i)
  pub variables : (i : ℕ) → i < length rules → (x : ℕ) → Occurs x (rule_of rules i).left → x < 16

-- What stands for a rule past the last.
abbrev none : Rule
none = record { left = var 0; right = var 0 }

pub lefts_stand : {bytes : List ℕ} {places : Places} → ReadFrom bytes places → LeftsAt bytes places (rules_in bytes places)
lefts_stand read =
    let stands = read_stands read in
    record {
      counted = stands.rule_count;
      few = omega (arith, stands.rule_count, stands.few_rules);
      lefts = λ i p. (stands.left i none (omega (arith, stands.rule_count))).stands;
      variables = λ i p x o. let small = (left_limits (read_limits read) i none p).variables x o in omega arith;
    }

-- The places of a book's rules, one by one.
module _ {bytes : List ℕ} {places : Places} (read : ReadFrom bytes places) where
  pub few_rules : places.rules ≤ 32
  few_rules = (read_stands read).few_rules

  pub rule_count : places.rules ≡ length (rules_in bytes places)
  rule_count = (read_stands read).rule_count

  module _ (i : ℕ) (p : i < length (take places.rules places.places)) where
    abbrev pub item : SidePlace
    item = (get_or (take places.rules places.places) i nowhere).left

    pub in_range : i < length (rules_in bytes places)
    in_range = omega (arith, length-take places.rules places.places, (read_stands read).rule_count)

    is_item : (places_of places i).left ≡ item
    is_item = ap (λ (r : RulePlaces). r.left) (sym (get_or-take places.rules places.places i nowhere (omega (arith, length-take places.rules places.places))))

    pub item_stands : At bytes places.arities item.at (rule_of (rules_in bytes places) i).left (item.at + 2 * item.nodes)
    item_stands = rw is_item at ((lefts_stand read).lefts i in_range)

    pub left_at : LeftAt bytes places.arities item.at (item.at + 2 * item.nodes)
    left_at = record { left = (rule_of (rules_in bytes places) i).left; stands = item_stands; variables = (lefts_stand read).variables i in_range }
