-- What an answer that was read is on paper.
use Rattle.std.specs.Prelude.{Bool, List, ◌≡◌, Option, Result, Ok, Err}
use Rattle.reply.specs.Reply.{Reply, given, refused}
use Rattle.reply.specs.Refusals.{numbered}
use Rattle.clauses.specs.Cnf.{Literal}
use Rattle.answer_lines.specs.Marks.{table_of}
use Rattle.reply.specs.declared.Refusal.{Refusal}

-- The rank variables' literals, by the marks that they leave, or the refusal.
abbrev pub ReadAs : Reply (List Literal) → Result (List (Option Bool)) Refusal → Type 0
ReadAs reply (Ok table) = (literals : List Literal) × (reply ≡ given literals) × (table ≡ table_of literals)
ReadAs reply (Err why) = reply ≡ refused (numbered why)
