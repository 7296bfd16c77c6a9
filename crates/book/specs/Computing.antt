-- A key for computed cases: what opens it may compute with every definition of this crate and of those below.
use Rattle.term.specs.Computing
use Rattle.book.specs.Book.{symbols}
use Rattle.book.specs.Sides.{side_open, no_rule_yet, left_open, no_side, opened, with_node}
use Rattle.book.specs.Checks.{known, allowed, body_fits, body_checked, room_left, checked, body_at, nothing_more, tested}
use Rattle.book.specs.Reading.{side_of, left_after, right_after, node_at, next, record_at, ended, read_from, start, read_book}
use Rattle.book.specs.Entries.{nothing_read, with_symbol, with_left, with_right, with_rule}
use Rattle.book.specs.Placed as places
use Rattle.book.specs.Meaning.{arities_of, rule_at, rules_before, book_at, meaning}
use Rattle.book.specs.Examples.{
  fx_to_gx,
  example1,
  undoing,
  div_ie,
  associative,
  reversed,
  fx_to_x,
  fx_to_fx,
  fx_to_y,
  x_to_x,
  only_end,
  empty_book,
  adding,
  forgetful,
}

unfoldable sides : Unit {0}
unfolding symbols side_open no_rule_yet left_open no_side opened with_node
sides = tt

unfoldable checks : Unit {0}
unfolding known allowed body_fits body_checked room_left checked body_at nothing_more tested
checks = tt

unfoldable trees : Unit {0}
unfolding side_of left_after right_after node_at next record_at ended read_from start read_book
trees = tt

unfoldable entries : Unit {0}
unfolding nothing_read with_symbol with_left with_right with_rule places.side_whole places.side_after places.behind_node places.node_taken places.next places.ended
entries = tt

unfoldable placing : Unit {0}
unfolding places.placed_from places.start places.placed arities_of rule_at rules_before book_at meaning
placing = tt

unfoldable examples : Unit {0}
unfolding fx_to_gx example1 undoing div_ie associative reversed fx_to_x fx_to_fx fx_to_y x_to_x only_end empty_book adding forgetful
examples = tt

unfoldable pub computing : Unit {0}
unfolding Computing.computing sides checks trees entries placing examples
computing = tt
