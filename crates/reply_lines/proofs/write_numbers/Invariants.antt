-- The loop has laid the numbers that it passed. Assumes nothing.
use Rattle.std.proofs.Common.{ℕ, List, take}
use mathlib.Core.List.{flat_map}
use Rattle.text.specs.Text.{ascii}
use Rattle.text.specs.Laying.{Lays}
use Rattle.number_text.specs.Numbers.{counted}
use Rattle.reply_lines.proofs.write_numbers.Given as goal

abbrev pub each : ℕ → List ℕ
each = counted (ascii " ")

abbrev pub invariant-loop-byte : goal.invariant-loop-byte
invariant-loop-byte l = Lays (flat_map each (take l.byte-index l.bytes)) l.initial.out l.at l.out
