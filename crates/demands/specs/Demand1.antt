-- Demand 1: "Every entry point takes arbitrary bytes as book, ranks, record or solver answer, ends, and replies with a result or a numbered
-- refusal. A refusal changes no byte of any buffer we lend."
use Rattle.std.specs.Prelude.{ℕ, ◌≡◌}
use mathlib.Core.List.{List, Memᴰ}
use Rattle.reply.specs.Reply.{Refusal, Reply, given, refused}
use Rattle.reply.specs.Refusals.{numbered}
use Rattle.reply.specs.declared.Refusal.{Refusal as Named}
use Rattle.demands.specs.EntryPoints.{Bytes, EntryPoint, buffer_after, entry_points}

-- A row of "Refusals by number" tells the refusal: its number, and its place, "a place that no text names is 0".
pub record InTable (r : Refusal) : Type 0 where
  pub row : Named
  pub tells : numbered row ≡ r

-- "a result or a numbered refusal": one of the numbers that document 01 gives the entry point, as the table has it.
unfoldable pub ResultOrRefusal : {A : Type 0} → (numbers : List ℕ) → Reply A → Type 0
ResultOrRefusal numbers (given result) = Unit {0}
ResultOrRefusal numbers (refused r) = Memᴰ r.number numbers × InTable r

-- What is asked ranges over all bytes and numbers, and the functions are total: "takes arbitrary bytes .., ends".
pub record Demanded (e : EntryPoint) : Type 0 where
  pub replies : (asked : e.Asked) → ResultOrRefusal e.numbers (e.reply asked)
  pub untouched : (asked : e.Asked) (buffer : Bytes) (r : Refusal) → e.reply asked ≡ refused r → buffer_after e asked buffer ≡ buffer

unfoldable pub Demand1 : Type 1
Demand1 = (e : EntryPoint) → Memᴰ e entry_points → Demanded e
