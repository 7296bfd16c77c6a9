-- What a run that was not refused found, and that it can be carried on: the record of the term that it reached is read back to that term.
-- Assumes nothing.
use Prim.Native.Nat.{ℕ, ◌+◌, ◌≤◌}
use mathlib.Core.List.{List}
use mathlib.Core.Path.{◌≡◌, ap, subst, ◌∙◌}
use lib.Dec.{leb→le}
use Rattle.reply.specs.Reply.{given}
use Rattle.reply.proofs.Given.{bind_given, given_bind, then_given, unless_given}
use Rattle.term.specs.Term.{Term}
use Rattle.book.specs.Book.{Book}
use Rattle.book.specs.Reading.{read_book}
use Rattle.record.specs.Record.{record_bytes, read_record}
use Rattle.book.proofs.Limits.{read_within_limits}
use Rattle.record.proofs.ReadRecord.{record_read}
use Rattle.record.proofs.RecordBack.{record_back}
use Rattle.order.specs.Clearing.{ranks_clear}
use Rattle.order.proofs.Checked.{ranks_clear_exactly}
use Rattle.order.proofs.PathOrder.{ranks_order}
use Rattle.order.proofs.Among.{rules_go_down}
use Rattle.steps.specs.Run.{Ran, run_from, ran_cleared, run}
use Rattle.steps.proofs.RanCleared.{then_run}
use Rattle.steps.proofs.Run.{carried_on, budgets_add_lem}
use Rattle.steps.proofs.StaysARecord.{Recordable, run_recordable}

abbrev Bytes : Type 0
Bytes = List ℕ

-- What a run that is not refused found: the book, ranks that clear it, and the record, of which it is the run.
pub record Accepted (bytes ranks record' : Bytes) (budget : ℕ) (ran : Ran) : Type 0 where
  pub book : Book
  pub readable : read_book bytes ≡ given book
  pub cleared : ranks_clear book ranks ≡ given tt
  pub term : Term
  pub recorded : read_record book.arities record' ≡ given term
  pub runs : run_from book.rules budget 0 term ≡ ran

pub accepted : (bytes ranks record' : Bytes) (budget room : ℕ) (ran : Ran) → run bytes ranks record' budget room ≡ given ran → Accepted bytes ranks record' budget ran
unfolding run ran_cleared
accepted bytes ranks record' budget room ran e =
    let (book, readable, after_book) = bind_given _ _ _ e in
    let (cleared, after_ranks) = then_given _ _ _ after_book in
    let (term, recorded, after_record) = bind_given _ _ _ after_ranks in
    let (roomy, runs) = then_given _ _ _ after_record in
    record { book = book; readable = readable; cleared = cleared.1; term = term; recorded = recorded; runs = cc }

-- What a run is where nothing is refused.
pub run_of :
    (bytes ranks record' : Bytes) (budget room : ℕ) (book : Book) (t : Term) → read_book bytes ≡ given book → ranks_clear book ranks ≡ given tt →
    read_record book.arities record' ≡ given t → 513 ≤ room → run bytes ranks record' budget room ≡ given (run_from book.rules budget 0 t)
unfolding run
run_of bytes ranks record' budget room book t readable cleared recorded roomy =
    given_bind (read_book bytes) _ book readable ∙ then_run book ranks record' budget room cleared recorded roomy

-- A run that was not refused had room.
pub had_room : (bytes ranks record' : Bytes) (budget room : ℕ) (ran : Ran) → run bytes ranks record' budget room ≡ given ran → 513 ≤ room
unfolding run ran_cleared
had_room bytes ranks record' budget room ran e =
    let (book, readable, after_book) = bind_given _ _ _ e in
    let (cleared, after_ranks) = then_given _ _ _ after_book in
    let (term, recorded, after_record) = bind_given _ _ _ after_ranks in
    leb→le 513 room (unless_given _ _ _ _ after_record).0

module _ (bytes ranks record' : Bytes) (budget : ℕ) (ran : Ran) (its : Accepted bytes ranks record' budget ran) where
  -- The record of the term that a run reached is read back to that term.
  reached_back : read_record its.book.arities (record_bytes ran.reached) ≡ given ran.reached
  reached_back =
      let limits = read_within_limits bytes its.book its.readable in
      let start = record_read its.book.arities record' its.term its.recorded in
      let stays : Recordable its.book.arities (run_from its.book.rules budget 0 its.term).reached =
      run_recordable (ranks_order its.book.arities ranks) its.book.rules
      (rules_go_down limits ((ranks_clear_exactly its.book ranks).0 its.cleared).1)
      budget 0 its.term (record { over_symbols = start.0; ground = start.1; few = start.2 })
      in
      let there : Recordable its.book.arities ran.reached = subst (λ (r : Ran). Recordable its.book.arities r.reached) its.runs stays in
      record_back its.book.arities ran.reached there.over_symbols there.ground there.few

  -- So a run of that record goes on from there.
  pub goes_on : (more room : ℕ) → 513 ≤ room → run bytes ranks (record_bytes ran.reached) more room ≡ given (run_from its.book.rules more 0 ran.reached)
  goes_on more room roomy =
      run_of bytes ranks (record_bytes ran.reached) more room its.book ran.reached its.readable its.cleared reached_back roomy

  -- With more budget: the run from the start, and what carrying it on gives.
  pub with_more : (more room : ℕ) → 513 ≤ room → run bytes ranks record' (budget + more) room ≡ given (carried_on its.book.rules more ran)
  with_more more room roomy =
      run_of bytes ranks record' (budget + more) room its.book its.term its.readable its.cleared its.recorded roomy
      ∙ ap (λ (r : Ran). given r) (budgets_add_lem its.book.rules budget more 0 its.term ∙ ap (carried_on its.book.rules more) its.runs)
