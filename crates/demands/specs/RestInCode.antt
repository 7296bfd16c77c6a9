-- Demand 3 of the running code: ranks that the code accepts bound the sequences of steps, and a run under them comes to rest.
use Rattle.std.specs.Prelude.{ℕ, ◌≤◌, ◌⊎◌, ◌≡◌, T}
use Rattle.reply.specs.Reply.{given}
use Rattle.term.specs.Term.{Term, over, variable_free}
use Rattle.book.specs.Book.{Book}
use Rattle.book.specs.Reading.{read_book}
use Rattle.record.specs.Record.{read_record}
use Rattle.steps.specs.Run.{done, too_large}
use Rattle.running.specs.RunMeaning.{Told}
use Rattle.demands.specs.EntryPoints.{Bytes, checking_ranks, ranks_of_an_answer, a_run}
use Rattle.demands.specs.Demand3.{Bounds}
use Rattle.demands.specs.InCode.{InCode}

-- What demand 3 says, of the calls that accept ranks and of those that run.
pub record RestInCode (ranks : InCode checking_ranks) (answer : InCode ranks_of_an_answer) (running : InCode a_run) : Type 0 where
  -- "there is a number N": one for the book and the term, whichever ranks were accepted and whoever proposed them.
  pub N : Bytes → Term → ℕ
  -- "For a book cleared by some ranks, and any record without variables over its symbols": ranks that the rank check accepts ..
  pub checked :
      (call : ranks.Call) (bytes table : Bytes) (book : Book) (t : Term) → ranks.asked call ≡ (bytes, table) → read_book bytes ≡ given book →
      ranks.answered call ≡ given tt → T (over book.arities t) → T (variable_free t) → Bounds book.rules t (N bytes t)
  -- .. and ranks that a solver's answer proposed and that were given.
  pub proposed :
      (call : answer.Call) (bytes text : Bytes) (room count : ℕ) (book : Book) (t : Term) → answer.asked call ≡ (bytes, text, room) →
      read_book bytes ≡ given book → answer.answered call ≡ given count → T (over book.arities t) → T (variable_free t) →
      Bounds book.rules t (N bytes t)
  -- "So a run that isn't refused, with a budget of N or more, never answers "budget spent": it ends where no rule fits, or stops because the next
  -- term would pass 256 nodes." The run checks the ranks itself.
  pub rests :
      (call : running.Call) (bytes table record' : Bytes) (budget room : ℕ) (book : Book) (t : Term) (told : Told) →
      running.asked call ≡ (bytes, table, record', budget, room) → read_book bytes ≡ given book → read_record book.arities record' ≡ given t →
      N bytes t ≤ budget → running.answered call ≡ given told → (told.outcome ≡ done) ⊎ (told.outcome ≡ too_large)
