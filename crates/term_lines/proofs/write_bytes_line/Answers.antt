-- The word, the bytes, no more than there are, and the line's end, one laid behind the other. Assumes nothing.
use Prim.Native.Nat.{ℕ}
use mathlib.Core.Path.{ap, ◌∙◌}
use lib.ListN.{take}
use Rattle.std.proofs.lemmas.List.{take_min}
use Rattle.text.specs.Text.{ascii}
use Rattle.text.proofs.Laying.{lays_as, lays_then}
use Rattle.term_lines.specs.Lines.{bytes_line}
use Rattle.term_lines.proofs.write_bytes_line.Goals as goal

pub returns : goal.returns
unfolding bytes_line ascii
returns c =
    let bytes = c.args.bytes.now in
    lays_as (ap bytes_line (ap (λ (n : ℕ). take n bytes) c.min.ensures ∙ take_min c.args.many bytes))
    (lays_then (lays_then c.write_text-start.ensures c.write_hex.ensures) c.write_byte.ensures)
