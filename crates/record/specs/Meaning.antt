-- What the answer of reading a record means: the tree that stands in its bytes, or the first fault with its byte.
use Rattle.std.specs.Prelude.{ℕ, List, length, Result, Ok, Err}
use Rattle.reply.specs.Reply.{Attempt, given, refused}
use Rattle.term.specs.Term.{Term, size}
use Rattle.record.specs.Record.{OneTerm}
use Rattle.term.specs.Prefix.{tree_at}
use Rattle.record.specs.declared.RecordFault.{RecordFault}
use Rattle.record.specs.declared.TermEnds.{TermEnds}

-- The term is the tree of so many nodes from the record's start on, over the declared symbols.
unfoldable pub record_meaning : (bytes arities : List ℕ) → Result ℕ RecordFault → Attempt RecordFault Term
record_meaning bytes arities (Ok nodes) = given (tree_at bytes arities 0 nodes)
record_meaning bytes arities (Err fault) = refused fault

-- The answer for what was read: a term is answered by its number of nodes.
unfoldable pub record_verdict : Attempt RecordFault Term → Result ℕ RecordFault
record_verdict (given t) = Ok (size t)
record_verdict (refused fault) = Err fault

-- The answer for one term.
unfoldable pub term_found : Attempt RecordFault OneTerm → Result TermEnds RecordFault
term_found (given found) = Ok (record { nodes = length found.nodes; behind = found.behind })
term_found (refused fault) = Err fault
