-- So many clauses for each pair: 6k − 3, and none without bits.
use Rattle.clauses.proofs.PairCount.{pairs_clauses_count}
use Rattle.term.specs.Tables.{rank_bits}
use Rattle.numbering.proofs.pairs_clauses.Goals as goal

pub returns-clause-count : goal.returns-clause-count
returns-clause-count c =
    rw (pairs_clauses_count c.args.n (rank_bits c.args.n), c.saturating_sub.ensures, c.saturating_sub-2.ensures, c.rank_bits-k.ensures)
