-- A key for computed cases: what opens it may compute with every definition of this crate and of those below.
use Rattle.text.specs.Computing
use Rattle.term.specs.Tables.{kind_of, body_lengths, body_length, rank_bits_table, rank_bits}
use Rattle.term.specs.Term.{size, count, listed, args, same, over, variable_free}
use Rattle.term.specs.Root.{arguments}
use Rattle.term.specs.Prefix.{prefix, node_of, arity_of, onto, trees, tree, nodes_at, tree_at}
use Rattle.term.specs.Replacement.{replace}
use Rattle.term.specs.Copied.{copied}

unfoldable tables : Unit {0}
unfolding kind_of body_lengths body_length rank_bits_table rank_bits
tables = tt

unfoldable terms : Unit {0}
unfolding size count listed args same over variable_free arguments prefix node_of arity_of onto trees tree nodes_at tree_at replace copied
terms = tt

unfoldable pub computing : Unit {0}
unfolding Computing.computing tables terms
computing = tt
