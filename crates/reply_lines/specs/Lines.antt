-- The lines by which a verdict and ranks are told; a refusal's line is what the clause program prints too.
use Rattle.std.specs.Prelude.{ℕ, take}
use mathlib.Core.List.{List, ◌++◌, flat_map}
use Rattle.reply.specs.Reply.{Reply, given, refused}
use Rattle.text.specs.Text.{ascii, refused_line}
use Rattle.number_text.specs.Numbers.{counted}

-- The rank check's reply.
unfoldable pub verdict_lines : Reply (Unit {0}) → List ℕ
verdict_lines (given u) = ascii "cleared\n"
verdict_lines (refused r) = refused_line r

-- The reply of "ranks from an answer": `cleared`, then `ranks` and the rank of each symbol, a blank before each.
unfoldable pub numbers_text : List ℕ → List ℕ
numbers_text bytes = flat_map (counted (ascii " ")) bytes

unfoldable pub accepted_lines : (ranks : List ℕ) → List ℕ
accepted_lines ranks = (ascii "cleared\nranks" ++ numbers_text ranks) ++ ascii "\n"

unfoldable pub rank_lines : (bytes : List ℕ) → Reply ℕ → List ℕ
rank_lines bytes (given many) = accepted_lines (take many bytes)
rank_lines bytes (refused r) = refused_line r
