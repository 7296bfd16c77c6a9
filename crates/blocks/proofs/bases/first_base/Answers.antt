-- n² is at most 256, and k at most 4.
use Prim.Native.Nat.{◌*◌}
use native.Mathlib.Omega.{arith}
use Rattle.numbering.proofs.Small.{product}
use Rattle.clauses.proofs.RankBits.{rank_bits_few}
use Rattle.blocks.proofs.bases.first_base.Goals as goal

pub overflow_mul-result-2 : goal.overflow_mul-result-2
overflow_mul-result-2 c =
    omega (
      arith,
      product (c.args.n * c.args.n) c.rank_bits.result 256 4 (product c.args.n c.args.n 16 16 (omega arith) (omega arith))
          (omega (arith, c.rank_bits.ensures, rank_bits_few c.args.n c.requires)),
    )
