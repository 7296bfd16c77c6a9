-- What an item that the code has read is on paper.
use Rattle.std.specs.Prelude.{Option, Some, None}
use Rattle.clauses.specs.Cnf.{is, is_not}
use Rattle.clauses.specs.Item as Paper
use Rattle.items.specs.declared.Item.{Item}
use Rattle.items.specs.declared.Item.TheVariants.{Closing, Is, IsNot}

-- "An item is a literal or the closing 0"; any other word is faulty.
abbrev pub item_meaning : Option Item → Paper.Item
item_meaning (Some Closing) = Paper.closing
item_meaning (Some (Is v)) = Paper.literal (is v)
item_meaning (Some (IsNot v)) = Paper.literal (is_not v)
item_meaning None = Paper.faulty
