-- Which bytes are read as a record, and to what: exactly those of a term without variables over the declared symbols, of at most 256 nodes.
-- Assumes nothing.
use Prim.Native.Nat.{ℕ, ◌≤◌}
use mathlib.Core.List.{List}
use mathlib.Core.Logic.{◌↔◌}
use mathlib.Core.Path.{◌≡◌, ap, ◌∙◌}
use lib.Dec.{T}
use Rattle.reply.specs.Reply.{given}
use Rattle.term.specs.Term.{Term, size, over, variable_free}
use Rattle.record.specs.Record.{record_bytes, read_record}
use Rattle.record.proofs.ReadRecord.{record_read}
use Rattle.record.proofs.RecordBack.{record_back}

pub record_read_exactly :
    (arities bytes : List ℕ) (t : Term) →
    (read_record arities bytes ≡ given t) ↔ (T (over arities t) × T (variable_free t) × (size t ≤ 256) × (bytes ≡ record_bytes t))
record_read_exactly arities bytes t =
    (record_read arities bytes t, λ h. ap (read_record arities) h.3 ∙ record_back arities t h.0 h.1 h.2)
