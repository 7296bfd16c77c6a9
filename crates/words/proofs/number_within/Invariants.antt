-- What is left of the text, behind the value so far, is the whole text's number.
use Prim.Native.Nat.{◌≤◌}
use mathlib.Core.Path.{◌≡◌}
use lib.ListN.{drop}
use Rattle.text.specs.Decimal.{number, within}
use Rattle.words.proofs.Numbers.{behind}
use Rattle.words.proofs.number_within.Given as goal

abbrev pub invariant-loop-byte : goal.invariant-loop-byte
invariant-loop-byte l = (l.value ≤ l.top) × (behind l.top l.value (drop l.byte-index l.text) ≡ within l.top (number l.text))
