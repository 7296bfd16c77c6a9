-- Two replies that the contract of `read_item` allows are equal, said of the contract itself: an item can be told from what it means.
-- Assumes nothing.
use mathlib.Core.Path.{◌≡◌, refl, sym, ap, ◌∙◌}
use contract.Lifetimes.{Lfts}
use borrow.Fn.Kinds.{Dens, ended_of}
use denote.Triple.Clauses.{AtExit}
use Rattle.clauses.specs.Cnf.{is, is_not}
use Rattle.clauses.specs.Item as Paper
use Rattle.std.specs.Prelude.{Option, Some, None}
use Rattle.items.specs.Meaning.{item_meaning}
use Rattle.items.specs.declared.Item.{Item}
use Rattle.items.specs.declared.Item.TheVariants.{Closing, Is, IsNot}
use Rattle.items.proofs.read_item.Kinds as read_item_kinds
use Rattle.items.proofs.read_item.Reads as read_item

-- The item with this meaning, none for a faulty word.
item_of : Paper.Item → Option Item
item_of Paper.closing = Some Closing
item_of (Paper.literal (is v)) = Some (Is v)
item_of (Paper.literal (is_not v)) = Some (IsNot v)
item_of Paper.faulty = None

item_back : (i : Option Item) → item_of (item_meaning i) ≡ i
unfolding item_of
item_back (Some Closing) = refl
item_back (Some (Is v)) = refl
item_back (Some (IsNot v)) = refl
item_back None = refl

pub read_item_settled :
    (κs : Lfts 1) (a : Dens κs read_item_kinds.ps) (r r' : Option Item) (e e' : AtExit (ended_of 1 read_item_kinds.ps read_item_kinds.r) κs) →
    read_item.Post κs a r e → read_item.Post κs a r' e' → r ≡ r'
read_item_settled κs a r r' e e' p p' = sym (item_back r) ∙ ap item_of (p ∙ sym p') ∙ item_back r'
