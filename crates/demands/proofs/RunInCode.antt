-- Demands 2 and 3 of the running code's `run`: what the definition of a run keeps to, every call that its contract allows keeps to.
-- Assumes nothing.
use Prim.Native.Nat.{ℕ}
use mathlib.Core.Logic.{◌⊎◌}
use mathlib.Core.Path.{◌≡◌, refl, sym, ap, subst, ◌∙◌}
use Rattle.reply.specs.Reply.{Reply, given, ◌>>=◌}
use Rattle.reply.specs.Lent.{laid}
use Rattle.reply.proofs.Given.{bind_given}
use Rattle.term.specs.Term.{Term}
use Rattle.book.specs.Book.{Book}
use Rattle.book.specs.Reading.{read_book}
use Rattle.record.specs.Record.{record_bytes, read_record}
use Rattle.steps.specs.Run.{done, too_large, Ran, run, ran_bytes}
use Rattle.running.specs.RunMeaning.{Told, told_of, run_told}
use Rattle.demands.specs.EntryPoints.{Bytes, answer, buffer_after, a_run}
use Rattle.demands.specs.Demand2.{RunYields}
use Rattle.demands.specs.Demand3.{NeverSpent, NotRefused}
use Rattle.demands.specs.InCode.{InCode, AsDefined}
use Rattle.demands.specs.RunInCode.{Yielded, RunYieldsInCode, NeverSpentInCode, NotRefusedInCode}
use Rattle.demands.proofs.Demand2.{demand2}
use Rattle.demands.proofs.Demand3.{demand3}

module _ (code : InCode a_run) (as-defined : AsDefined code) where
  module _ (call : code.Call) (bytes ranks record' : Bytes) (budget room : ℕ) (asked : code.asked call ≡ (bytes, ranks, record', budget, room)) where
    answered_so : code.answered call ≡ run_told (run bytes ranks record' budget room)
    unfolding answer run_told
    answered_so = as-defined.answers call ∙ ap (answer a_run) asked

    written_so : code.after call ≡ laid (ran_bytes (run bytes ranks record' budget room)) (code.before call)
    unfolding buffer_after ran_bytes
    written_so = as-defined.writes call ∙ ap (λ x. buffer_after a_run x (code.before call)) asked

    -- A run that was answered: it is told, and its term's record lies in the lent buffer.
    module _ (ran : Ran) (ran-so : run bytes ranks record' budget room ≡ given ran) where
      pub told_so : code.answered call ≡ given (told_of ran)
      unfolding run_told ◌>>=◌
      told_so = answered_so ∙ ap run_told ran-so

      pub laid_so : code.after call ≡ laid (given (record_bytes ran.reached)) (code.before call)
      unfolding ran_bytes ◌>>=◌
      laid_so = written_so ∙ ap (λ (x : Reply Ran). laid (ran_bytes x) (code.before call)) ran-so

    pub ran_as_lem : (told : Told) → code.answered call ≡ given told → (ran : Ran) × (run bytes ranks record' budget room ≡ given ran) × (told_of ran ≡ told)
    unfolding run_told
    ran_as_lem told e =
        let (ran, ran-so, tells) = bind_given _ _ _ (sym answered_so ∙ e) in
        (ran, ran-so, cc tells)

    yielded :
        (book : Book) (t : Term) → read_book bytes ≡ given book → read_record book.arities record' ≡ given t →
        (ran : Ran) → run bytes ranks record' budget room ≡ given ran → Yielded book t budget (told_of ran) (code.before call) (code.after call)
    unfolding told_of RunYields
    yielded book t read recorded ran ran-so =
        record {
          reached = ran.reached;
          yields = demand2.runs bytes ranks record' budget room book t ran read recorded ran-so;
          long = refl;
          holds = laid_so ran ran-so;
        }

  pub yields : RunYieldsInCode code
  unfolding RunYieldsInCode
  yields call bytes ranks record' budget room book t told asked read recorded e =
      let (ran, ran-so, tells) = ran_as_lem call bytes ranks record' budget room asked told e in
      subst (λ (x : Told). Yielded book t budget x (code.before call) (code.after call)) tells
      (yielded call bytes ranks record' budget room asked book t read recorded ran ran-so)

  pub never_spent_lem : NeverSpentInCode code
  unfolding NeverSpentInCode NeverSpent told_of
  never_spent_lem call bytes ranks record' budget room book t N told asked read recorded bounds enough e =
      let (ran, ran-so, tells) = ran_as_lem call bytes ranks record' budget room asked told e in
      subst (λ (x : Told). (x.outcome ≡ done) ⊎ (x.outcome ≡ too_large)) tells
      (demand3.never_spent bytes ranks record' budget room book t N ran read recorded bounds enough ran-so)

  pub not_refused_lem : NotRefusedInCode code
  unfolding NotRefusedInCode NotRefused
  not_refused_lem call bytes ranks record' budget room book t asked read accepted recorded roomy =
      let (ran, ran-so) = demand3.not_refused bytes ranks record' budget room book t read accepted recorded roomy in
      (told_of ran, told_so call bytes ranks record' budget room asked ran ran-so)
