-- The loop has laid the bytes that it passed. Assumes nothing.
use Rattle.std.proofs.Common.{take}
use mathlib.Core.List.{flat_map}
use Rattle.text.specs.Laying.{Lays}
use Rattle.term_lines.specs.Hex.{hex_of}
use Rattle.term_lines.proofs.write_hex.Given as goal

abbrev pub invariant-loop-byte : goal.invariant-loop-byte
invariant-loop-byte l = Lays (flat_map hex_of (take l.byte-index l.bytes)) l.initial.out l.at l.out
