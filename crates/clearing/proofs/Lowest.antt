-- Looking for the lowest rule that does not decrease, one rule after another: what the rules from i on reply is what rule i decides, or
-- what those behind it reply. Assumes nothing.
use Prim.Native.Nat.{ℕ, ◌+◌, ◌≤◌, ◌<◌}
use mathlib.Core.Bool.{Bool, true, false}
use mathlib.Core.List.{List}
use mathlib.Core.Path.{◌≡◌, refl, ap, ◌∙◌}
use native.Mathlib.Numerals.{add-one}
use lib.ListN.{length, get_or, drop, drop_of_length-le}
use lib.Seq.{drop-cons}
use Rattle.reply.specs.Reply.{Reply, given, refused, unless, ◌>>◌, ◌at◌}
use Rattle.term.specs.Term.{Term, var}
use Rattle.book.specs.Book.{Rule}
use Rattle.order.specs.Clearing.{decreases, all_decrease}

-- What stands for a rule past the end of the list.
pub other : Rule
other = record { left = var 0; right = var 0 }

module _ (exceeds : Term → Term → Bool) (rules : List Rule) where
  -- What the rules from i on reply.
  pub from : (i : ℕ) → Reply (Unit {0})
  from i = all_decrease exceeds i (drop i rules)

  this_first : (i : ℕ) → i < length rules → from i ≡ ◌>>◌ (unless (decreases exceeds (get_or rules i other)) (8 at i)) (from (i + 1))
  unfolding from all_decrease
  this_first i h = rw (drop-cons rules i other h, add-one)

  pub all_from_first : from 0 ≡ all_decrease exceeds 0 rules
  unfolding from
  all_from_first = refl

  pub decreases_here : (i : ℕ) → i < length rules → decreases exceeds (get_or rules i other) ≡ true → from i ≡ from (i + 1)
  unfolding unless ◌>>◌
  decreases_here i h e = this_first i h ∙ rw (e, ◌>>◌)

  pub fails_here : (i : ℕ) → i < length rules → decreases exceeds (get_or rules i other) ≡ false → from i ≡ refused (8 at i)
  unfolding unless ◌>>◌
  fails_here i h e = this_first i h ∙ rw (e, ◌>>◌)

  pub none_left : (i : ℕ) → length rules ≤ i → from i ≡ given tt
  unfolding from all_decrease
  none_left i h = ap (all_decrease exceeds i) (drop_of_length-le rules h)
