-- What the loop has laid goes on by the byte that it passes. Assumes nothing.
use mathlib.Core.List.{flat_map}
use mathlib.Core.Path.{ap}
use native.Mathlib.Omega.{arith}
use lib.Seq.{take_all}
use Rattle.text.proofs.Laying.{lays_as}
use Rattle.text.proofs.Each.{lays_none, lays_next}
use Rattle.term_lines.specs.Hex.{hex_of, hex_text}
use Rattle.term_lines.proofs.write_hex.Goals as goal

pub loop-byte-init : goal.loop-byte-init
loop-byte-init c = lays_none hex_of c.args.bytes.now c.args.out.now

pub loop-byte-preserved : goal.loop-byte-preserved
loop-byte-preserved c = let b = c.loop-byte in lays_next hex_of c.args.bytes.now b.byte-index (omega arith) b.invariant c.write_hex_byte-at.ensures

pub returns : goal.returns
unfolding hex_text
returns c =
    let b = c.loop-byte in
    lays_as (ap (flat_map hex_of) (take_all b.byte-index c.args.bytes.now (omega arith))) b.invariant
