-- Demand 3 of the running code: ranks that are accepted clear the book, so the definition's N bounds the sequences. Assumes nothing.
use Prim.Native.Nat.{ℕ}
use mathlib.Core.Path.{◌≡◌, subst}
use Rattle.reply.specs.Reply.{given}
use Rattle.book.specs.Book.{Book}
use Rattle.book.specs.Reading.{read_book}
use Rattle.record.proofs.ReadRecord.{record_read}
use Rattle.order.proofs.Checked.{ranks_clear_exactly}
use Rattle.steps.specs.Run.{Ran, run}
use Rattle.demands.specs.EntryPoints.{Bytes, checking_ranks, ranks_of_an_answer, a_run}
use Rattle.demands.specs.Demand2.{SomePrecedenceClears}
use Rattle.demands.specs.Demand3.{ComesToRest}
use Rattle.demands.specs.InCode.{InCode, AsDefined}
use Rattle.demands.specs.RanksInCode.{AcceptedInCode}
use Rattle.demands.specs.RunInCode.{NeverSpentInCode}
use Rattle.demands.specs.RestInCode.{RestInCode}
use Rattle.demands.proofs.Demand2.{ranks_precede}
use Rattle.steps.proofs.Accepted.{accepted}
use Rattle.demands.proofs.Demand3.{demand3}
use Rattle.demands.proofs.RanksInCode.{accepted_so}
use Rattle.demands.proofs.AnswerInCode.{answers}
use Rattle.demands.proofs.RunInCode.{ran_as_lem, never_spent_lem}

-- Ranks of a run that was not refused clear the book.
ran_clears :
    (bytes table record' : Bytes) (budget room : ℕ) (book : Book) (ran : Ran) → read_book bytes ≡ given book →
    run bytes table record' budget room ≡ given ran → SomePrecedenceClears book
ran_clears bytes table record' budget room book ran read e =
    let its = accepted bytes table record' budget room ran e in
    let same : its.book ≡ book = cc its.readable in
    subst SomePrecedenceClears same (ranks_precede its.book table ((ranks_clear_exactly its.book table).0 its.cleared).1)

pub rests :
    (ranks : InCode checking_ranks) → AsDefined ranks → (answer : InCode ranks_of_an_answer) → AsDefined answer → (running : InCode a_run) →
    AsDefined running → RestInCode ranks answer running
unfolding ComesToRest AcceptedInCode NeverSpentInCode
rests ranks ranks-so answer answer-so running running-so =
    let (N, bounds) = demand3.comes_to_rest in
    record {
      N = N;
      checked = λ call bytes table book t asked read e o free.
          bounds bytes book t read (ranks_precede book table ((accepted_so ranks ranks-so call bytes table book asked read).0 e).1) o free;
      proposed = λ call bytes text room count book t asked read e o free.
          bounds bytes book t read ((answers answer answer-so).only_if_cleared call bytes text room count book asked read e) o free;
      rests = λ call bytes table record' budget room book t told asked read recorded enough e.
          let (ran, ran-so, tells) = ran_as_lem running running-so call bytes table record' budget room asked told e in
          let (o, free, few, written) = record_read book.arities record' t recorded in
          never_spent_lem running running-so call bytes table record' budget room book t (N bytes t) told asked read recorded
          (bounds bytes book t read (ran_clears bytes table record' budget room book ran read ran-so) o free) enough e;
    }
