-- A key for computed cases: what opens it may compute with every definition of this crate and of those below.
use mathlib.Core.List.{flat_map, flatten}
use Rattle.order.specs.Computing
use Rattle.clauses.specs.Cnf.{holds, some_holds, all_hold, Satisfies}
use Rattle.clauses.specs.Numbering.{bit, pair_number, G, first_base, base_after, C, D, numbers, rank_below, ranks_of}
use Rattle.clauses.specs.Blocks.{
  lowest_bit,
  higher_bit,
  pair_clauses,
  pair_block,
  pair_blocks_of,
  pair_blocks,
  numbered_args,
  subterms,
  CAt,
  DAt,
  parts_behind,
  parts_of_d,
  parts_of_c,
  some_identical,
  clauses_of_c,
  node_block,
  rule_blocks,
  rules_blocks,
  blocks,
  base_behind,
  «V»,
}
use Rattle.clauses.specs.Wholes.{all_parts, some_parts}
use Rattle.clauses.specs.File.{
  clause_file,
  literal_bytes,
  clause_bytes,
  counts_text,
  header,
  file_blocks,
  file_bytes,
  numbered_block,
  block_of,
  block,
  printed,
  clause_program,
}
use Rattle.clauses.specs.Item.{signed, literal_of, item}
use Rattle.clauses.specs.Dimacs.{blank, ahead, all_closed, clauses_of, counted, behind_header, from_words, read_dimacs}

unfoldable pub computing_numbers : Unit {0}
unfolding flat_map flatten holds some_holds all_hold Satisfies bit pair_number G first_base base_after C D numbers rank_below ranks_of
computing_numbers = tt

unfoldable pub computing_pairs : Unit {0}
unfolding lowest_bit higher_bit pair_clauses pair_block pair_blocks_of pair_blocks
computing_pairs = tt

unfoldable pub computing_rules : Unit {0}
unfolding numbered_args subterms CAt DAt parts_behind parts_of_d parts_of_c some_identical all_parts some_parts clauses_of_c node_block rule_blocks rules_blocks
computing_rules = tt

unfoldable pub computing_file : Unit {0}
unfolding blocks base_behind «V» clause_file literal_bytes clause_bytes counts_text header file_blocks file_bytes numbered_block block_of block printed clause_program
computing_file = tt

unfoldable pub computing_dimacs : Unit {0}
unfolding signed literal_of item blank ahead all_closed clauses_of counted behind_header from_words read_dimacs
computing_dimacs = tt

unfoldable pub computing : Unit {0}
unfolding Computing.computing computing_numbers computing_pairs computing_rules computing_file computing_dimacs
computing = tt
