-- The rules of a read book that can be run stand at their places: they keep to the limits, and no right side holds a variable that the left
-- lacks. Assumes nothing.
use Prim.Native.Nat.{ℕ, ◌+◌, ◌*◌, ◌<◌, ◌≤◌}
use mathlib.Core.List.{List}
use native.Mathlib.Omega.{arith}
use lib.ListN.{length}
use Rattle.term.specs.Term.{var, size}
use Rattle.term.specs.Replacement.{Occurs}
use Rattle.term.specs.At.{At}
use Rattle.book.specs.Book.{Rule}
use Rattle.book.specs.Entries.{places_of}
use Rattle.book.specs.WasRead.{ReadFrom}
use Rattle.book.specs.declared.Book.{Book as Places}
use Rattle.book.proofs.WasRead.{read_stands, read_limits, right_limits}
use Rattle.steps.specs.Step.{NoNewVariable, rule_of}
use Rattle.steps.proofs.StaysOver.{rule_member}
use Rattle.matching.specs.RulesIn.{rules_in}
use Rattle.matching.proofs.LeftsAt.{LeftsAt, lefts_stand}

-- Where the right side of rule i ends, two bytes a node.
abbrev pub right_end : Places → (i : ℕ) → ℕ
right_end places i = (places_of places i).right.at + 2 * (places_of places i).right.nodes

-- The right sides, and the left sides that are looked at.
pub record RulesAt (bytes : List ℕ) (places : Places) (rules : List Rule) : Type 0 where
  pub lefts : LeftsAt bytes places rules
  pub rights : (i : ℕ) → i < length rules → At bytes places.arities (places_of places i).right.at (rule_of rules i).right (right_end places i)
  pub no_new : (i : ℕ) → i < length rules → (x : ℕ) → Occurs x (rule_of rules i).right → Occurs x (rule_of rules i).left
  pub nodes : (i : ℕ) → i < length rules → size (rule_of rules i).right ≤ 10

-- What stands for a rule past the last.
abbrev none : Rule
none = record { left = var 0; right = var 0 }

module _ {bytes : List ℕ} {places : Places} where
  pub rules_stand : ReadFrom bytes places → NoNewVariable (rules_in bytes places) → RulesAt bytes places (rules_in bytes places)
  unfolding NoNewVariable
  rules_stand read no_new =
      let stands = read_stands read in
      record {
        lefts = lefts_stand read;
        rights = λ i p. (stands.right i none (omega (arith, stands.rule_count))).stands;
        no_new = λ i p x o. no_new (rule_of (rules_in bytes places) i) (rule_member (rules_in bytes places) i p) x o;
        nodes = λ i p. (right_limits (read_limits read) i none p).nodes;
      }
