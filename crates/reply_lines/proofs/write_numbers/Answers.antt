-- What the loop has laid goes on by the number that it passes. Assumes nothing.
use mathlib.Core.List.{flat_map}
use mathlib.Core.Path.{ap}
use native.Mathlib.Omega.{arith}
use lib.Seq.{take_all}
use Rattle.text.specs.Text.{ascii}
use Rattle.text.proofs.Laying.{lays_as}
use Rattle.text.proofs.Each.{lays_none, lays_next}
use Rattle.reply_lines.specs.Lines.{numbers_text}
use Rattle.reply_lines.proofs.write_numbers.Invariants.{each}
use Rattle.reply_lines.proofs.write_numbers.Goals as goal

pub loop-byte-init : goal.loop-byte-init
loop-byte-init c = lays_none each c.args.bytes.now c.args.out.now

pub loop-byte-preserved : goal.loop-byte-preserved
unfolding ascii
loop-byte-preserved c =
    let b = c.loop-byte in
    lays_next each c.args.bytes.now b.byte-index (omega arith) b.invariant (lays_as (ap each c.wide.ensures) c.write_counted-at.ensures)

pub returns : goal.returns
unfolding numbers_text
returns c =
    let b = c.loop-byte in
    lays_as (ap (flat_map each) (take_all b.byte-index c.args.bytes.now (omega arith))) b.invariant
