-- Budgets add up: a spent run can be carried on from the record that it left.
use Rattle.std.specs.Prelude.{ℕ, ◌+◌, ◌≤◌, ◌≡◌, take}
use Rattle.reply.specs.Reply.{Reply, given, ◌>>=◌}
use Rattle.record.specs.Record.{record_bytes}
use Rattle.steps.specs.Run.{done, spent, too_large, Ran, run}
use Rattle.running.specs.RunMeaning.{Told}
use Rattle.demands.specs.EntryPoints.{Bytes, a_run}
use Rattle.demands.specs.InCode.{InCode}

-- A run that some steps led to: they are counted too.
unfoldable pub counting : (made : ℕ) → Ran → Ran
counting made ran = record { outcome = ran.outcome; steps = made + ran.steps; reached = ran.reached }

-- A run carried on with a further budget. Only a spent run goes on, from the record of the term that it reached.
unfoldable pub carried_on : (bytes ranks : Bytes) (budget room : ℕ) → Ran → Reply Ran
carried_on bytes ranks budget room ran =
    elim ran.outcome [
      | done ↦ given ran
      | spent ↦ do
        more ← run bytes ranks (record_bytes ran.reached) budget room
        given (counting ran.steps more)
      | too_large ↦ given ran
    ]

-- With a budget of a + b a run answers what a run with a answers, carried on with b.
unfoldable pub BudgetsAdd : Type 0
BudgetsAdd =
    (bytes ranks record' : Bytes) (a b room : ℕ) (ran : Ran) → run bytes ranks record' a room ≡ given ran →
    run bytes ranks record' (a + b) room ≡ carried_on bytes ranks b room ran

-- The same of the code, for calls with budgets a and a + b; where the first is spent, for a third one with budget b whose record is what the
-- first left in its lent buffer. Each lends a buffer of its own.
pub record BudgetsAddInCode (code : InCode a_run) : Type 0 where
  pub ended :
      (first whole : code.Call) (bytes ranks record' : Bytes) (a b room room' : ℕ) (told : Told) →
      code.asked first ≡ (bytes, ranks, record', a, room) → code.asked whole ≡ (bytes, ranks, record', a + b, room') → 513 ≤ room' →
      code.answered first ≡ given told → (told.outcome ≡ spent → ⊥) →
      (code.answered whole ≡ given told) × (take told.length (code.after whole) ≡ take told.length (code.after first))
  pub went_on :
      (first second whole : code.Call) (bytes ranks record' : Bytes) (a b room room' room'' : ℕ) (told : Told) →
      code.asked first ≡ (bytes, ranks, record', a, room) → code.asked whole ≡ (bytes, ranks, record', a + b, room') → 513 ≤ room' →
      code.answered first ≡ given told → told.outcome ≡ spent →
      code.asked second ≡ (bytes, ranks, take told.length (code.after first), b, room'') → 513 ≤ room'' →
      (more : Told)
      × (code.answered second ≡ given more)
      × (code.answered whole ≡ given (record { outcome = more.outcome; steps = told.steps + more.steps; length = more.length }))
      × (take more.length (code.after whole) ≡ take more.length (code.after second))
