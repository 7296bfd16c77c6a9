-- A key for computed cases: what opens it may compute with every definition of this crate and of those below.
use Rattle.reply.specs.Computing
use Rattle.text.specs.Decimal.{digits, decimal, value_of, number, not_above, within}
use Rattle.text.specs.Text.{ascii, same_text, onto_first, pieces, up_to, space, newline, nonempty, words, refused_line}

unfoldable pub computing : Unit {0}
unfolding Computing.computing ascii digits decimal value_of number not_above within same_text onto_first pieces up_to space newline nonempty words refused_line
computing = tt
