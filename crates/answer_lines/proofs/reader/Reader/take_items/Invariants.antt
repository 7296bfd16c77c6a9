-- At every turn the stage and the table hold the values behind the words that were read.
use Prim.Native.Nat.{◌-◌}
use mathlib.Core.List.{List}
use lib.ListN.{length}
use Rattle.reply.specs.Reply.{Refusal}
use Rattle.clauses.specs.Cnf.{Literal}
use Rattle.answer_lines.specs.Values.{unclosed}
use Rattle.answer_lines.specs.Progress.{HoldsValues, SameCounts}
use Rattle.answer_lines.proofs.ValueLine.{Behind}
use Rattle.answer_lines.proofs.reader.Reader.take_items.Given as goal

abbrev pub invariant-loop-at : goal.invariant-loop-at
invariant-loop-at l = record {
  same : SameCounts l.initial.self l.self;
  behind : (fault : Refusal) (ls : List Literal) → HoldsValues (unclosed ls) l.initial.self.stage l.initial.self.table →
      Behind fault l.initial.self.variables l.initial.self.rank_variables l.items ls l.found l.self.stage l.self.table l.at;
}

abbrev pub decreases-loop-at : goal.decreases-loop-at
decreases-loop-at l = length l.items - l.at
