-- What a run yields and that this settles its answer, that a run with a budget that bounds the steps is never spent, and that budgets add up. A run either ends at the term
-- at hand, in one of three ways, or makes one own step and goes on: every law goes by induction over these four cases. Assumes nothing.
use Prim.Native.Nat.{ℕ, zero, suc, ◌+◌, ◌≤◌, suc-le-suc}
use native.Mathlib.Nat.{add-zero, zero-add, add-suc, suc-add, le_of_suc-le-suc}
use native.Mathlib.Omega.{arith}
use mathlib.Core.Bool.{Bool, true, false}
use mathlib.Core.List.{List}
use mathlib.Core.Option.{Option, none, some}
use mathlib.Core.Path.{◌≡◌, refl, sym, ap, subst, ◌∙◌}
use borrow.Author.Tests.{le-leb, lt-leb}
use lib.Dec.{leb, leb→le, nleb→lt}
use Rattle.term.specs.Term.{Term, size}
use Rattle.book.specs.Book.{Rule}
use Rattle.steps.specs.Step.{Step, Steps, step, step_of, OwnSteps, next}
use Rattle.steps.specs.Run.{Outcome, done, spent, too_large, Ran, Means, Yields, run_from}
use Rattle.steps.proofs.OwnStep.{own_steps_are_free, own_step_is_free}

-- A run that ends where it stands.
abbrev pub ended : Outcome → ℕ → Term → Ran
ended outcome made t = record { outcome = outcome; steps = made; reached = t }

-- The four cases: done, spent, too large, and one step on.
module _ (rules : List Rule) (made : ℕ) (t : Term) where
  pub run_done : (budget : ℕ) → step_of rules t ≡ none → run_from rules budget made t ≡ ended done made t
  unfolding run_from
  run_done zero p = rw (p, run_from)
  run_done (suc budget) p = rw (p, run_from)

  pub run_spent : (t' : Term) → step_of rules t ≡ some t' → run_from rules zero made t ≡ ended spent made t
  unfolding run_from
  run_spent t' p = rw (p, run_from)

  pub run_too_large :
      (budget : ℕ) (t' : Term) → step_of rules t ≡ some t' → leb (size t') 256 ≡ false →
      run_from rules (suc budget) made t ≡ ended too_large made t
  unfolding run_from
  run_too_large budget t' p q = rw (p, run_from, q)

  pub run_goes_on :
      (budget : ℕ) (t' : Term) → step_of rules t ≡ some t' → leb (size t') 256 ≡ true →
      run_from rules (suc budget) made t ≡ run_from rules budget (suc made) t'
  unfolding run_from
  run_goes_on budget t' p q = rw (p, run_from, q)

-- A law of runs, as the answer shows it, in each of the four.
pub record RunCases (rules : List Rule) (P : (budget made : ℕ) → Term → Ran → Type 0) : Type 0 where
  pub is_done : (budget made : ℕ) (t : Term) → step_of rules t ≡ none → P budget made t (ended done made t)
  pub is_spent : (made : ℕ) (t t' : Term) → step_of rules t ≡ some t' → P zero made t (ended spent made t)
  pub is_too_large :
      (budget made : ℕ) (t t' : Term) → step_of rules t ≡ some t' → leb (size t') 256 ≡ false → P (suc budget) made t (ended too_large made t)
  pub goes_on :
      (budget made : ℕ) (t t' : Term) (ran : Ran) → step_of rules t ≡ some t' → leb (size t') 256 ≡ true →
      P budget (suc made) t' ran → P (suc budget) made t ran

-- What holds in the four cases holds of every run.
pub every_run :
    (rules : List Rule) (P : (budget made : ℕ) → Term → Ran → Type 0) → RunCases rules P →
    (budget made : ℕ) (t : Term) → P budget made t (run_from rules budget made t)
every_run rules P cases zero made t = go (step_of rules t) refl
  where
    go : (o : Option Term) → step_of rules t ≡ o → P zero made t (run_from rules zero made t)
    go none p = rw (run_done rules made t zero p) (cases.is_done zero made t p)
    go (some t') p = rw (run_spent rules made t t' p) (cases.is_spent made t t' p)
every_run rules P cases (suc budget) made t = go (step_of rules t) refl (λ t'. every_run rules P cases budget (suc made) t')
  where
    Goal : Type 0
    Goal = P (suc budget) made t (run_from rules (suc budget) made t)

    go : (o : Option Term) → step_of rules t ≡ o → ((t' : Term) → P budget (suc made) t' (run_from rules budget (suc made) t')) → Goal
    go none p later = rw (run_done rules made t (suc budget) p) (cases.is_done (suc budget) made t p)
    go (some t') p later = fork (leb (size t') 256) refl
      where
        fork : (b : Bool) → leb (size t') 256 ≡ b → Goal
        fork true q =
            rw (run_goes_on rules made t budget t' p q) (cases.goes_on budget made t t' (run_from rules budget (suc made) t') p q (later t'))
        fork false q = rw (run_too_large rules made t budget t' p q) (cases.is_too_large budget made t t' p q)

-- With one step more made and one more in the budget the outcome means the same.
means_one_more :
    (outcome : Outcome) (rules : List Rule) (budget steps : ℕ) (t : Term) →
    Means outcome rules budget steps t → Means outcome rules (suc budget) (suc steps) t
unfolding Means
means_one_more done rules budget steps t m = m
means_one_more spent rules budget steps t m = (ap suc m.0, m.1)
means_one_more too_large rules budget steps t m = (suc-le-suc m.0, m.1)

means_one_less :
    (outcome : Outcome) (rules : List Rule) (budget steps : ℕ) (t : Term) →
    Means outcome rules (suc budget) (suc steps) t → Means outcome rules budget steps t
unfolding Means
means_one_less done rules budget steps t m = m
means_one_less spent rules budget steps t m = (omega (arith, m.0), m.1)
means_one_less too_large rules budget steps t m = (omega (arith, m.0), m.1)

-- What a run yields after `made` steps: n own steps more.
YieldsAfter : List Rule → (budget made : ℕ) → Term → Ran → Type 0
YieldsAfter rules budget made t ran =
    (n : ℕ) × (ran.steps ≡ made + n) × (n ≤ budget) × OwnSteps rules n t ran.reached × Means ran.outcome rules budget n ran.reached

yields_cases : (rules : List Rule) → RunCases rules (YieldsAfter rules)
unfolding YieldsAfter Means
yields_cases rules = record {
  is_done = λ budget made t p. (0, omega arith, omega arith, OwnSteps.stay, p);
  is_spent = λ made t t' p. (0, omega arith, omega arith, OwnSteps.stay, (refl, (t', p)));
  is_too_large = λ budget made t t' p q. (0, omega arith, omega arith, OwnSteps.stay, (omega arith, (t', p, nleb→lt (size t') 256 (rw q tt))));
  goes_on =
      λ budget made t t' ran p q (n, e, few, steps, means).
      (suc n, omega arith, suc-le-suc few, next p (omega (arith, leb→le (size t') 256 (rw q tt))) steps, means_one_more ran.outcome rules budget n ran.reached means);
}

pub run_yields : (rules : List Rule) (budget : ℕ) (t : Term) → Yields rules budget t (run_from rules budget 0 t)
unfolding YieldsAfter
run_yields rules budget t =
    let (n, e, few, steps, means) = every_run rules (YieldsAfter rules) (yields_cases rules) budget 0 t in
    let n≡ : n ≡ (run_from rules budget 0 t).steps = sym (zero-add n) ∙ sym e in
    record {
      steps = subst (λ (k : ℕ). OwnSteps rules k t (run_from rules budget 0 t).reached) n≡ steps;
      within = omega (arith, n≡, few);
      means = subst (λ (k : ℕ). Means (run_from rules budget 0 t).outcome rules budget k (run_from rules budget 0 t).reached) n≡ means;
    }

-- And nothing else yields that: where a run stands after `made` steps, n own steps more and the outcome of the term reached settle its answer.
settled_after :
    (rules : List Rule) (outcome : Outcome) (budget made : ℕ) {n : ℕ} {t u : Term} → OwnSteps rules n t u → n ≤ budget → Means outcome rules budget n u →
    ended outcome (made + n) u ≡ run_from rules budget made t
unfolding Means
settled_after rules done budget made {t = t} OwnSteps.stay few means =
    ap (λ (k : ℕ). ended done k t) (add-zero made) ∙ sym (run_done rules made t budget means)
settled_after rules spent zero made {t = t} OwnSteps.stay few means =
    ap (λ (k : ℕ). ended spent k t) (add-zero made) ∙ sym (run_spent rules made t means.1.0 means.1.1)
settled_after rules spent (suc budget) made OwnSteps.stay few means = absurd (omega (arith, means.0))
settled_after rules too_large zero made OwnSteps.stay few means = absurd (omega (arith, means.0))
settled_after rules too_large (suc budget) made {t = t} OwnSteps.stay few means =
    ap (λ (k : ℕ). ended too_large k t) (add-zero made)
    ∙ sym (run_too_large rules made t budget means.1.0 means.1.1 (lt-leb (size means.1.0) 256 means.1.2))
settled_after rules outcome zero made (next p small steps) few means = absurd (omega arith)
settled_after rules outcome (suc budget) made {n = suc n} {t = t} {u = u} (next {t = t'} p small steps) few means =
    ap (λ (k : ℕ). ended outcome k u) (omega arith)
    ∙ settled_after rules outcome budget (suc made) steps (le_of_suc-le-suc few) (means_one_less outcome rules budget n u means)
    ∙ sym (run_goes_on rules made t budget t' p (le-leb (size t') 256 small))

pub run_settled : (rules : List Rule) (budget : ℕ) (t : Term) (ran : Ran) → Yields rules budget t ran → ran ≡ run_from rules budget 0 t
run_settled rules budget t ran y =
    ap (λ (k : ℕ). ended ran.outcome k ran.reached) (sym (zero-add ran.steps)) ∙ settled_after rules ran.outcome budget 0 y.steps y.within y.means

-- One more own step at the end.
then_one_more : {rules : List Rule} {n : ℕ} {s t u : Term} → Steps rules n s t → Step rules t u → Steps rules (suc n) s u
then_one_more Steps.stay p = step p Steps.stay
then_one_more (step q steps) p = step q (then_one_more steps p)

-- A spent run has used its budget and could make one more step.
pub never_spent_lem :
    (rules : List Rule) (t : Term) (N : ℕ) → ((steps : ℕ) (u : Term) → Steps rules steps t u → steps ≤ N) →
    (budget : ℕ) → N ≤ budget → (run_from rules budget 0 t).outcome ≡ spent → ⊥
unfolding Means
never_spent_lem rules t N within budget N≤budget is-spent =
    let ran : Ran = run_from rules budget 0 t in
    let yields = run_yields rules budget t in
    let (used, (t', p)) = subst (λ (o : Outcome). Means o rules budget ran.steps ran.reached) is-spent yields.means in
    let too_long : suc ran.steps ≤ N = within (suc ran.steps) t' (then_one_more (own_steps_are_free yields.steps) ((own_step_is_free rules ran.reached).0 t' p)) in
    omega arith

-- The answer of a run that some steps led to: they are counted too.
unfoldable pub after : ℕ → Ran → Ran
after made ran = record { outcome = ran.outcome; steps = made + ran.steps; reached = ran.reached }

made_is_added :
    (rules : List Rule) (more budget made : ℕ) (t : Term) → run_from rules budget (more + made) t ≡ after more (run_from rules budget made t)
unfolding after
made_is_added rules more =
    every_run rules (λ budget made t ran. run_from rules budget (more + made) t ≡ after more ran)
    record {
      is_done = λ budget made t p. run_done rules (more + made) t budget p;
      is_spent = λ made t t' p. run_spent rules (more + made) t t' p;
      is_too_large = λ budget made t t' p q. run_too_large rules (more + made) t budget t' p q;
      goes_on = λ budget made t t' ran p q ih. run_goes_on rules (more + made) t budget t' p q ∙ rw add-suc at ih;
    }

-- Steps made before are added to the count, and change nothing else.
pub made_adds : (rules : List Rule) (budget made : ℕ) (t : Term) → run_from rules budget made t ≡ after made (run_from rules budget 0 t)
made_adds rules budget made t = rw add-zero at (made_is_added rules made budget 0 t)

-- A run's answer carried on with a further budget: only a spent run goes on, from the term that it reached.
unfoldable pub carried_on : List Rule → (budget : ℕ) → Ran → Ran
carried_on rules budget ran =
    elim ran.outcome [
      | done ↦ ran
      | spent ↦ after ran.steps (run_from rules budget 0 ran.reached)
      | too_large ↦ ran
    ]

-- Budgets add up: with a + b a run answers what a run with a answers, carried on with b.
pub budgets_add_lem : (rules : List Rule) (a b made : ℕ) (t : Term) → run_from rules (a + b) made t ≡ carried_on rules b (run_from rules a made t)
unfolding carried_on
budgets_add_lem rules a b =
    every_run rules (λ budget made t ran. run_from rules (budget + b) made t ≡ carried_on rules b ran)
    record {
      is_done = λ budget made t p. run_done rules made t (budget + b) p;
      is_spent = λ made t t' p. rw zero-add (made_adds rules b made t);
      is_too_large = λ budget made t t' p q. rw suc-add (run_too_large rules made t (budget + b) t' p q);
      goes_on = λ budget made t t' ran p q ih. rw suc-add (run_goes_on rules made t (budget + b) t' p q ∙ ih);
    }
    a
