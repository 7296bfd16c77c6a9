-- Slices add up to one run: a run that has ended is the same with more budget, and a spent one goes on from the record that it left. By the
-- law that budgets add up. Assumes nothing.
use Prim.Native.Nat.{ℕ, zero, suc, ◌+◌, ◌≤◌}
use mathlib.Core.Bool.{Bool, true, false}
use mathlib.Core.List.{List}
use mathlib.Core.Option.{Option, none, some}
use mathlib.Core.Path.{◌≡◌, refl, sym, ap, ap₂, subst, ◌∙◌}
use native.Mathlib.Omega.{arith}
use lib.Dec.{leb}
use lib.ListN.{length, take, length-take}
use lib.Seq.{take-append_seam}
use Rattle.std.specs.Prelude.{Result, Ok, Err}
use Rattle.reply.specs.Reply.{Attempt, Refusal, Reply, given, refused, unless, ◌>>◌, ◌>>=◌, ◌at◌}
use Rattle.reply.specs.Refusals.{numbered}
use Rattle.reply.specs.declared.Refusal.{Refusal as Named}
use Rattle.reply.specs.Lent.{laid}
use Rattle.reply.specs.Replied.{replied_as}
use Rattle.reply.proofs.Given.{refused_not_given, given_not_refused}
use Rattle.term.specs.Term.{Term, size}
use Rattle.book.specs.Book.{Rule}
use Rattle.book.specs.Reading.{read_book}
use Rattle.record.specs.Record.{record_bytes, read_record}
use Rattle.order.specs.Clearing.{ranks_clear}
use Rattle.steps.specs.Step.{step_of}
use Rattle.steps.specs.Run.{Outcome, done, spent, too_large, Ran, run_from, ran_cleared, run, ran_bytes}
use Rattle.running.specs.RunMeaning.{Told, told_of, told_in_code, run_told, run_meaning, RunsTo}
use Rattle.stepping.specs.Stepped.{outcome_of}
use Rattle.running.specs.declared.RanTo.{RanTo}
use Rattle.stepping.specs.declared.Outcome.{Outcome as Ending}
use Rattle.stepping.specs.declared.Outcome.TheVariants.{Done, Spent, TooLarge}
use Rattle.steps.proofs.Run.{run_done, run_spent, run_too_large, run_goes_on, after, carried_on}
use Rattle.steps.proofs.Accepted.{Accepted, accepted, with_more}
use Rattle.steps.proofs.Accepted as runs_on
use Rattle.slices.specs.Sliced.{OneRun, later_on, told_later}

abbrev Bytes : Type 0
Bytes = List ℕ

-- No run makes more steps than its budget.
steps_at_most : (rules : List Rule) (budget made : ℕ) (t : Term) → (run_from rules budget made t).steps ≤ made + budget
steps_at_most rules zero made t = go (step_of rules t) refl
  where
    go : (o : Option Term) → step_of rules t ≡ o → (run_from rules zero made t).steps ≤ made + zero
    go none p = rw (run_done rules made t zero p) (omega arith)
    go (some t') p = rw (run_spent rules made t t' p) (omega arith)
steps_at_most rules (suc budget) made t = go (step_of rules t) refl (λ t'. steps_at_most rules budget (suc made) t')
  where
    Goal : Type 0
    Goal = (run_from rules (suc budget) made t).steps ≤ made + suc budget

    go : (o : Option Term) → step_of rules t ≡ o → ((t' : Term) → (run_from rules budget (suc made) t').steps ≤ suc made + budget) → Goal
    go none p later = rw (run_done rules made t (suc budget) p) (omega arith)
    go (some t') p later = fork (leb (size t') 256) refl
      where
        fork : (b : Bool) → leb (size t') 256 ≡ b → Goal
        fork true q = let h = later t' in rw (run_goes_on rules made t budget t' p q) (omega (arith, h))
        fork false q = rw (run_too_large rules made t budget t' p q) (omega arith)

pub steps_within : (bytes ranks record' : Bytes) (budget room : ℕ) (ran : Ran) → run bytes ranks record' budget room ≡ given ran → ran.steps ≤ budget
steps_within bytes ranks record' budget room ran e =
    let its : Accepted bytes ranks record' budget ran = accepted bytes ranks record' budget room ran e in
    subst (λ (r : Ran). r.steps ≤ budget) its.runs (let h = steps_at_most its.book.rules budget 0 its.term in omega (arith, h))

-- A refusal of one question is that of another that begins alike.
module _ {R A B : Type 0} (r : R) where
  bind_alike : (x : Attempt R A) (f g : A → Attempt R B) → ((a : A) → f a ≡ refused r → g a ≡ refused r) → ◌>>=◌ x f ≡ refused r → ◌>>=◌ x g ≡ refused r
  unfolding ◌>>=◌
  bind_alike (given a) f g alike h = alike a h
  bind_alike (refused q) f g alike h = h

  then_alike : (x : Attempt R A) (f g : Attempt R B) → (f ≡ refused r → g ≡ refused r) → ◌>>◌ x f ≡ refused r → ◌>>◌ x g ≡ refused r
  unfolding ◌>>◌
  then_alike (given a) f g alike h = alike h
  then_alike (refused q) f g alike h = h

-- A refusal does not depend on the budget.
refused_alike :
    (bytes ranks record' : Bytes) (a c room : ℕ) (r : Refusal) → run bytes ranks record' a room ≡ refused r → run bytes ranks record' c room ≡ refused r
unfolding run ran_cleared
refused_alike bytes ranks record' a c room r =
    bind_alike r (read_book bytes) _ _ (λ b.
    then_alike r (ranks_clear b ranks) (ran_cleared b record' a room) (ran_cleared b record' c room)
    (bind_alike r (read_record b.arities record') _ _ (λ t.
    then_alike r (unless (leb 513 room) (9 at 0)) (given (run_from b.rules a 0 t)) (given (run_from b.rules c 0 t)) (λ h. absurd (given_not_refused _ r h)))))

-- A refusal says nothing of steps, and of what was made the steps before are told too.
pub refused_later : (made : ℕ) (why : Named) → run_meaning (Err why) ≡ told_later made (run_meaning (Err why))
unfolding run_meaning replied_as told_later ◌>>=◌
refused_later made why = refl

pub made_later :
    (made : ℕ) (ran : RanTo) →
    run_meaning (Ok (record { outcome = ran.outcome; steps = made + ran.steps; length = ran.length })) ≡ told_later made (run_meaning (Ok ran))
unfolding run_meaning replied_as told_later told_in_code ◌>>=◌
made_later made ran = refl

-- A run that was given and was not spent in the code's words was not spent.
not_spent : (answer : RanTo) (ran : Ran) → (answer.outcome ≡ Spent → ⊥) → run_meaning (Ok answer) ≡ given (told_of ran) → ran.outcome ≡ spent → ⊥
unfolding run_meaning replied_as told_in_code told_of outcome_of
not_spent answer ran ended e s = go answer.outcome refl
  where
    same : outcome_of answer.outcome ≡ ran.outcome
    same = let both : ◌≡◌ {A = Told} (record { outcome = outcome_of answer.outcome; steps = answer.steps; length = answer.length }) (told_of ran) = cc e in
        ap (λ (told : Told). told.outcome) both

    go : (o : Ending) → answer.outcome ≡ o → ⊥
    go Done p = let z : ◌≡◌ {A = ℕ} 0 1 = cc (sym (ap outcome_of p) ∙ same ∙ s) in omega arith
    go Spent p = ended p
    go TooLarge p = let z : ◌≡◌ {A = ℕ} 0 1 = cc (sym (ap outcome_of p) ∙ same ∙ s) in omega arith

-- What a call of the run leaves at the start of its buffer.
run_holds :
    {reply : Reply Ran} {after : Bytes} (before : Bytes) → after ≡ laid (ran_bytes reply) before → (ran : Ran) → reply ≡ given ran →
    take (length (record_bytes ran.reached)) after ≡ record_bytes ran.reached
unfolding laid ran_bytes ◌>>=◌
run_holds before written ran e =
    ap (take (length (record_bytes ran.reached))) (written ∙ ap (λ (x : Reply Ran). laid (ran_bytes x) before) e)
    ∙ take-append_seam (record_bytes ran.reached) _

pub one_run : {reply : Reply Ran} {answer : Result RanTo Named} {before after : Bytes} → RunsTo reply answer before after → OneRun reply answer after
one_run {before = before} runs = record { replied = runs.replied; holds = run_holds before runs.written }

-- The same with so many steps made before.
told_later_lem : (made : ℕ) (reply : Reply Ran) → told_later made (run_told reply) ≡ run_told (later_on made reply)
unfolding told_later run_told later_on told_of ◌>>=◌
told_later_lem made (given ran) = refl
told_later_lem made (refused r) = refl

later_holds :
    (made : ℕ) (reply : Reply Ran) (after : Bytes) →
    ((ran : Ran) → reply ≡ given ran → take (length (record_bytes ran.reached)) after ≡ record_bytes ran.reached) →
    (ran : Ran) → later_on made reply ≡ given ran → take (length (record_bytes ran.reached)) after ≡ record_bytes ran.reached
unfolding later_on ◌>>=◌
later_holds made (given first) after holds ran e =
    let same : first.reached ≡ ran.reached = ap (λ (r : Ran). r.reached) (let both : ◌≡◌ {A = Ran} (record { outcome = first.outcome; steps = made + first.steps; reached = first.reached }) ran = cc e in both) in
    subst (λ (t : Term). take (length (record_bytes t)) after ≡ record_bytes t) same (holds first refl)
later_holds made (refused r) after holds ran e = absurd (refused_not_given r ran e)

pub later_run :
    {reply : Reply Ran} {answer answer' : Result RanTo Named} {before after : Bytes} (made : ℕ) → RunsTo reply answer before after →
    run_meaning answer' ≡ told_later made (run_meaning answer) → OneRun (later_on made reply) answer' after
later_run {reply} {before = before} {after = after} made runs later =
    record {
      replied = later ∙ ap (told_later made) runs.replied ∙ told_later_lem made reply;
      holds = later_holds made reply after (run_holds before runs.written);
    }

-- No answer tells of more steps than the budget.
pub told_within :
    (bytes ranks record' : Bytes) (budget room : ℕ) (answer : Result RanTo Named) (told : Told) → run_meaning answer ≡ run_told (run bytes ranks record' budget room) →
    run_meaning answer ≡ given told → told.steps ≤ budget
unfolding run_told told_of ◌>>=◌
told_within bytes ranks record' budget room answer told replied is = go (run bytes ranks record' budget room) refl
  where
    go : (x : Reply Ran) → run bytes ranks record' budget room ≡ x → told.steps ≤ budget
    go (given ran) e =
        let same : ◌≡◌ {A = Told} told (told_of ran) = cc (sym is ∙ replied ∙ ap run_told e) in
        subst (λ (n : ℕ). n ≤ budget) (sym (ap (λ (t : Told). t.steps) same)) (steps_within bytes ranks record' budget room ran e)
    go (refused r) e = absurd (given_not_refused told r (sym is ∙ replied ∙ ap run_told e))

-- Only a spent run is carried on, by the run of the term that it reached.
spent_carried : (rules : List Rule) (more : ℕ) (ran : Ran) → ran.outcome ≡ spent → carried_on rules more ran ≡ after ran.steps (run_from rules more 0 ran.reached)
unfolding carried_on
spent_carried rules more ran e =
    ap {B = Ran} (λ (o : Outcome). elim o [ done ↦ ran | spent ↦ after ran.steps (run_from rules more 0 ran.reached) | too_large ↦ ran ]) e

-- The slices so far, a run with budget a, and more budget.
module _ (bytes ranks record' : Bytes) (a b : ℕ) where
  abbrev so_far : Reply Ran
  so_far = run bytes ranks record' a 513

  abbrev whole : Reply Ran
  whole = run bytes ranks record' (a + b) 513

  ended_same : (ran : Ran) → so_far ≡ given ran → (ran.outcome ≡ spent → ⊥) → whole ≡ so_far
  unfolding carried_on
  ended_same ran e not =
      let its : Accepted bytes ranks record' a ran = accepted bytes ranks record' a 513 ran e in
      with_more bytes ranks record' a ran its b 513 (omega arith) ∙ go its.book.rules ran.outcome refl
    where
      go : (rules : List Rule) (o : Outcome) → ran.outcome ≡ o → given (carried_on rules b ran) ≡ so_far
      go rules done o = rw (carried_on, o) (sym e)
      go rules spent o = absurd (not o)
      go rules too_large o = rw (carried_on, o) (sym e)

  -- A run that goes no further is the run with the whole budget, and so is a refused one.
  ended_alike : (answer : RanTo) → (answer.outcome ≡ Spent → ⊥) → run_meaning (Ok answer) ≡ run_told so_far → whole ≡ so_far
  unfolding run_told run_meaning replied_as ◌>>=◌
  ended_alike answer ended replied = go so_far refl
    where
      go : (x : Reply Ran) → so_far ≡ x → whole ≡ so_far
      go (given ran) e = ended_same ran e (not_spent answer ran ended (replied ∙ ap run_told e))
      go (refused r) e = absurd (given_not_refused (told_in_code answer) r (replied ∙ ap run_told e))

  refused_so : (why : Named) → run_meaning (Err why) ≡ run_told so_far → whole ≡ so_far
  unfolding run_told run_meaning replied_as ◌>>=◌
  refused_so why replied = go so_far refl
    where
      go : (x : Reply Ran) → so_far ≡ x → whole ≡ so_far
      go (given ran) e = absurd (refused_not_given (numbered why) (told_of ran) (replied ∙ ap run_told e))
      go (refused r) e = refused_alike bytes ranks record' a (a + b) 513 r e ∙ sym e

  pub ended_run : (answer : RanTo) (out : Bytes) → (answer.outcome ≡ Spent → ⊥) → OneRun so_far (Ok answer) out → OneRun whole (Ok answer) out
  ended_run answer out ended one = subst (λ (x : Reply Ran). OneRun x (Ok answer) out) (sym (ended_alike answer ended one.replied)) one

  pub refused_run : (why : Named) (out : Bytes) → OneRun so_far (Err why) out → OneRun whole (Err why) out
  refused_run why out one = subst (λ (x : Reply Ran). OneRun x (Err why) out) (sym (refused_so why one.replied)) one

  -- What the reply of a spent run tells: the run, and its record at the start of the buffer.
  pub record SpentRun (steps size : ℕ) (out : Bytes) : Type 0 where
    pub ran : Ran
    pub is : so_far ≡ given ran
    pub is_spent : ran.outcome ≡ spent
    pub made : ran.steps ≡ steps
    pub long : length (record_bytes ran.reached) ≡ size
    pub stands : take size out ≡ record_bytes ran.reached

  pub spent_run : (answer : RanTo) (out : Bytes) → answer.outcome ≡ Spent → OneRun so_far (Ok answer) out → SpentRun answer.steps answer.length out
  unfolding run_meaning replied_as run_told told_of told_in_code outcome_of ◌>>=◌
  spent_run answer out is_spent one = go so_far refl
    where
      go : (x : Reply Ran) → so_far ≡ x → SpentRun answer.steps answer.length out
      go (given ran) e =
          let same : ◌≡◌ {A = Told} (record { outcome = outcome_of answer.outcome; steps = answer.steps; length = answer.length }) (told_of ran) =
          cc (one.replied ∙ ap run_told e) in
          let long : length (record_bytes ran.reached) ≡ answer.length = sym (ap (λ (told : Told). told.length) same) in
          record {
            ran = ran;
            is = e;
            is_spent = sym (ap (λ (told : Told). told.outcome) same) ∙ ap outcome_of is_spent;
            made = sym (ap (λ (told : Told). told.steps) same);
            long = long;
            stands = ap (λ (n : ℕ). take n out) (sym long) ∙ one.holds ran e;
          }
      go (refused r) e = absurd (given_not_refused (told_in_code answer) r (one.replied ∙ ap run_told e))

  -- Carried on by the next slice it is the run with both budgets.
  module _ {steps size : ℕ} {out : Bytes} (its : SpentRun steps size out) where
    pub made_within : steps ≤ a
    made_within = omega (arith, its.made, steps_within bytes ranks record' a 513 its.ran its.is)

    pub size_within : size ≤ length out
    size_within = omega (arith, its.long, ap length its.stands, length-take size out)

    goes_on : whole ≡ later_on steps (run bytes ranks (take size out) b 513)
    unfolding after later_on ◌>>=◌
    goes_on =
        let found : Accepted bytes ranks record' a its.ran = accepted bytes ranks record' a 513 its.ran its.is in
        with_more bytes ranks record' a its.ran found b 513 (omega arith)
        ∙ ap (λ (ran : Ran). given ran) (spent_carried found.book.rules b its.ran its.is_spent)
        ∙ ap (later_on its.ran.steps) (sym (runs_on.goes_on bytes ranks record' a its.ran found b 513 (omega arith)))
        ∙ ap₂ (λ (n : ℕ) (l : Bytes). later_on n (run bytes ranks l b 513)) its.made (sym its.stands)

    pub carried_on_lem : {answer : Result RanTo Named} {after : Bytes} → OneRun (later_on steps (run bytes ranks (take size out) b 513)) answer after → OneRun whole answer after
    carried_on_lem {answer} {after} one = subst (λ (x : Reply Ran). OneRun x answer after) (sym goes_on) one
