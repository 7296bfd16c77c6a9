-- The pair with number p, and its block among those of all pairs.
use Rattle.std.proofs.Common.{arith, refl, sym, ap, ◌/◌, ◌-◌}
use mathlib.Core.List.{flat_map}
use mathlib.Core.Path.{subst}
use Rattle.clauses.specs.File.{clause_bytes}
use Rattle.clauses.specs.Pairs.{Pair}
use Rattle.clauses.proofs.BlockNumbers.{pair_of_number, block_of_number}
use Rattle.clauses.proofs.RankBits.{rank_bits_few}
use Rattle.text.proofs.Laying.{lays_as}
use Rattle.pair_blocks.proofs.write_pair.Goals as goal

-- The two symbols are a pair.
pub write_pair_block-requires : goal.write_pair_block-requires
write_pair_block-requires c =
    let n = c.args.n in
    let pair = pair_of_number n c.args.p (n - 1) c.requires.0 c.requires.1 refl in (
      subst (Pair n (c.args.p / (n - 1))) (sym c.other_symbol-g.ensures) pair,
      omega (arith, c.rank_bits-k.ensures, rank_bits_few n c.requires.0),
    )

-- Its block is the one with number p.
pub returns : goal.returns
returns c =
    let same =
    block_of_number c.args.n c.args.p (c.args.n - 1) c.requires.0 c.requires.1 refl c.rank_bits-k.ensures c.other_symbol-g.ensures in
    lays_as (ap (flat_map clause_bytes) same) c.write_pair_block.ensures
