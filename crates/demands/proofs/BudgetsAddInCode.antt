-- Budgets add up in the running code: the bytes that a spent run leaves at the start of its lent buffer are the record of the term that it
-- reached. Assumes nothing.
use Prim.Native.Nat.{ℕ, ◌+◌, ◌≤◌}
use mathlib.Core.List.{List}
use mathlib.Core.Path.{◌≡◌, refl, sym, ap, ap₂, ◌∙◌}
use lib.ListN.{length, take}
use lib.Seq.{take-append_seam}
use Rattle.reply.specs.Reply.{given}
use Rattle.reply.specs.Lent.{laid}
use Rattle.book.specs.Book.{Rule}
use Rattle.record.specs.Record.{record_bytes}
use Rattle.steps.specs.Run.{Outcome, done, spent, too_large, Ran, run_from, run}
use Rattle.running.specs.RunMeaning.{Told, told_of}
use Rattle.steps.proofs.Run.{after, carried_on}
use Rattle.steps.proofs.Accepted.{Accepted, accepted, goes_on, with_more}
use Rattle.demands.specs.EntryPoints.{Bytes, a_run}
use Rattle.demands.specs.InCode.{InCode, AsDefined}
use Rattle.demands.specs.BudgetsAdd.{BudgetsAddInCode}
use Rattle.demands.proofs.RunInCode.{told_so, laid_so, ran_as_lem}

-- What was laid stands at the start.
starts_with : (bytes before after' : Bytes) (n : ℕ) → after' ≡ laid (given bytes) before → n ≡ length bytes → take n after' ≡ bytes
unfolding laid
starts_with bytes before after' n is many = ap₂ (λ (m : ℕ) (l : Bytes). take m l) many is ∙ take-append_seam bytes _

-- Carrying on, by the outcome.
abbrev carried_as : List Rule → (more : ℕ) → Ran → Outcome → Ran
carried_as rules more ran outcome =
    elim outcome [ done ↦ ran | spent ↦ after ran.steps (run_from rules more 0 ran.reached) | too_large ↦ ran ]

ended_stays : (rules : List Rule) (more : ℕ) (ran : Ran) → (ran.outcome ≡ spent → ⊥) → carried_on rules more ran ≡ ran
unfolding carried_on
ended_stays rules more ran not_spent = go ran.outcome refl
  where
    go : (o : Outcome) → ran.outcome ≡ o → carried_on rules more ran ≡ ran
    go done e = ap (carried_as rules more ran) e
    go spent e = absurd (not_spent e)
    go too_large e = ap (carried_as rules more ran) e

spent_goes_on : (rules : List Rule) (more : ℕ) (ran : Ran) → ran.outcome ≡ spent → carried_on rules more ran ≡ after ran.steps (run_from rules more 0 ran.reached)
unfolding carried_on
spent_goes_on rules more ran e = ap (carried_as rules more ran) e

module _ (code : InCode a_run) (as-defined : AsDefined code) where
  -- A call whose run is known: what it answers, and how its buffer starts.
  module _ (call : code.Call) (bytes ranks record' : Bytes) (budget room : ℕ) (asked : code.asked call ≡ (bytes, ranks, record', budget, room)) (ran : Ran)
      (ran-so : run bytes ranks record' budget room ≡ given ran) where
    leaves : (told : Told) → told_of ran ≡ told → take told.length (code.after call) ≡ record_bytes ran.reached
    unfolding told_of
    leaves told tells =
        starts_with (record_bytes ran.reached) (code.before call) (code.after call) told.length
        (laid_so code as-defined call bytes ranks record' budget room asked ran ran-so) (sym (ap (λ (t : Told). t.length) tells))

  module _
      (first whole : code.Call) (bytes ranks record' : Bytes) (a b room room' : ℕ) (told : Told)
      (asked : code.asked first ≡ (bytes, ranks, record', a, room)) (asked-whole : code.asked whole ≡ (bytes, ranks, record', a + b, room'))
      (roomy : 513 ≤ room') (answered : code.answered first ≡ given told) (ran : Ran) (ran-so : run bytes ranks record' a room ≡ given ran)
      (tells : told_of ran ≡ told) where
    its : Accepted bytes ranks record' a ran
    its = accepted bytes ranks record' a room ran ran-so

    ended_so :
        (told.outcome ≡ spent → ⊥) →
        (code.answered whole ≡ given told) × (take told.length (code.after whole) ≡ take told.length (code.after first))
    unfolding told_of
    ended_so not_spent =
        let same : run bytes ranks record' (a + b) room' ≡ given ran =
        with_more bytes ranks record' a ran its b room' roomy
        ∙ ap (λ (r : Ran). given r) (ended_stays its.book.rules b ran (λ e. not_spent (sym (ap (λ (t : Told). t.outcome) tells) ∙ e)))
        in (
          told_so code as-defined whole bytes ranks record' (a + b) room' asked-whole ran same ∙ ap (λ (t : Told). given t) tells,
          leaves whole bytes ranks record' (a + b) room' asked-whole ran same told tells
              ∙ sym (leaves first bytes ranks record' a room asked ran ran-so told tells),
        )

    went_on_so :
        (second : code.Call) (room'' : ℕ) → told.outcome ≡ spent → code.asked second ≡ (bytes, ranks, take told.length (code.after first), b, room'') → 513 ≤ room'' →
        (more : Told)
        × (code.answered second ≡ given more)
        × (code.answered whole ≡ given (record { outcome = more.outcome; steps = told.steps + more.steps; length = more.length }))
        × (take more.length (code.after whole) ≡ take more.length (code.after second))
    unfolding told_of after
    went_on_so second room'' is-spent asked-second roomy' =
        let next : Ran = run_from its.book.rules b 0 ran.reached in
        let left : take told.length (code.after first) ≡ record_bytes ran.reached = leaves first bytes ranks record' a room asked ran ran-so told tells in
        let asked-so : code.asked second ≡ (bytes, ranks, record_bytes ran.reached, b, room'') =
        asked-second ∙ ap (λ (l : Bytes). (bytes, ranks, l, b, room'')) left
        in
        let second_so : run bytes ranks (record_bytes ran.reached) b room'' ≡ given next = goes_on bytes ranks record' a ran its b room'' roomy' in
        let whole-so : run bytes ranks record' (a + b) room' ≡ given (after ran.steps next) =
        with_more bytes ranks record' a ran its b room' roomy
        ∙ ap (λ (r : Ran). given r) (spent_goes_on its.book.rules b ran (ap (λ (t : Told). t.outcome) tells ∙ is-spent))
        in (
          told_of next,
          told_so code as-defined second bytes ranks (record_bytes ran.reached) b room'' asked-so next second_so,
          told_so code as-defined whole bytes ranks record' (a + b) room' asked-whole (after ran.steps next) whole-so
              ∙ ap (λ (t : Told). given (record { outcome = next.outcome; steps = t.steps + next.steps; length = length (record_bytes next.reached) })) tells,
          leaves whole bytes ranks record' (a + b) room' asked-whole (after ran.steps next) whole-so (told_of (after ran.steps next)) refl
              ∙ sym (leaves second bytes ranks (record_bytes ran.reached) b room'' asked-so next second_so (told_of next) refl),
        )

  pub adds : BudgetsAddInCode code
  adds = record {
    ended = λ first whole bytes ranks record' a b room room' told asked asked-whole roomy answered not_spent.
        let (ran, ran-so, tells) = ran_as_lem code as-defined first bytes ranks record' a room asked told answered in
        ended_so first whole bytes ranks record' a b room room' told asked asked-whole roomy answered ran ran-so tells not_spent;
    went_on = λ first second whole bytes ranks record' a b room room' room'' told asked asked-whole roomy answered is-spent asked-second roomy'.
        let (ran, ran-so, tells) = ran_as_lem code as-defined first bytes ranks record' a room asked told answered in
        went_on_so first whole bytes ranks record' a b room room' told asked asked-whole roomy answered ran ran-so tells second room'' is-spent asked-second roomy';
  }
