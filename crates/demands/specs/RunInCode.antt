-- Demands 2 and 3 of the running code's `run`, said of every call that its contract allows.
use Rattle.std.specs.Prelude.{ℕ, ◌≤◌, ◌⊎◌, ◌≡◌, length}
use Rattle.reply.specs.Reply.{given}
use Rattle.reply.specs.Lent.{laid}
use Rattle.term.specs.Term.{Term}
use Rattle.book.specs.Book.{Book}
use Rattle.book.specs.Reading.{read_book}
use Rattle.record.specs.Record.{record_bytes, read_record}
use Rattle.order.specs.Clearing.{check_ranks}
use Rattle.steps.specs.Run.{done, too_large, Yields}
use Rattle.running.specs.RunMeaning.{Told}
use Rattle.demands.specs.EntryPoints.{Bytes, a_run}
use Rattle.demands.specs.Demand3.{Bounds}
use Rattle.demands.specs.InCode.{InCode}

-- "A run yields the term and the step count of the rewriting rules in document 01": the answer's outcome and steps are yielded with the term
-- whose record the lent buffer then begins with, as long as the answer says; its other bytes keep their values.
pub record Yielded (book : Book) (t : Term) (budget : ℕ) (told : Told) (before after : Bytes) : Type 0 where
  pub reached : Term
  pub yields : Yields book.rules budget t (record { outcome = told.outcome; steps = told.steps; reached = reached })
  pub long : told.length ≡ length (record_bytes reached)
  pub holds : after ≡ laid (given (record_bytes reached)) before

unfoldable pub RunYieldsInCode : InCode a_run → Type 0
RunYieldsInCode code =
    (call : code.Call) (bytes ranks record' : Bytes) (budget room : ℕ) (book : Book) (t : Term) (told : Told) →
    code.asked call ≡ (bytes, ranks, record', budget, room) → read_book bytes ≡ given book → read_record book.arities record' ≡ given t →
    code.answered call ≡ given told → Yielded book t budget told (code.before call) (code.after call)

-- "So a run that isn't refused, with a budget of N or more, never answers "budget spent": it ends where no rule fits, or stops because the
-- next term would pass 256 nodes", whichever N no sequence of steps exceeds ..
unfoldable pub NeverSpentInCode : InCode a_run → Type 0
NeverSpentInCode code =
    (call : code.Call) (bytes ranks record' : Bytes) (budget room : ℕ) (book : Book) (t : Term) (N : ℕ) (told : Told) →
    code.asked call ≡ (bytes, ranks, record', budget, room) → read_book bytes ≡ given book → read_record book.arities record' ≡ given t →
    Bounds book.rules t N → N ≤ budget → code.answered call ≡ given told → (told.outcome ≡ done) ⊎ (told.outcome ≡ too_large)

-- .. and with ranks that are accepted, a well-formed record and room for 513 bytes it isn't refused.
unfoldable pub NotRefusedInCode : InCode a_run → Type 0
NotRefusedInCode code =
    (call : code.Call) (bytes ranks record' : Bytes) (budget room : ℕ) (book : Book) (t : Term) →
    code.asked call ≡ (bytes, ranks, record', budget, room) → read_book bytes ≡ given book → check_ranks bytes ranks ≡ given tt →
    read_record book.arities record' ≡ given t → 513 ≤ room → (told : Told) × (code.answered call ≡ given told)
