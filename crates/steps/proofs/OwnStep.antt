-- Document 01's own step is one of the free steps, and it finds none exactly if there is none: both walk the same places, and at a place
-- the test decides fitting. Assumes nothing.
use Prim.Native.Nat.{ℕ}
use mathlib.Core.List.{List, Memᴰ}
use mathlib.Core.Logic.{◌↔◌}
use mathlib.Core.Option.{Option, none, some, map-eq-some_iff, map-eq-none_iff}
use mathlib.Core.Path.{◌≡◌, refl, sym, ap, ap₂, subst, ◌∙◌}
use lib.Dec.{T}
use Rattle.term.specs.Term.{Term, Args, var, app, nil, cons}
use Rattle.book.specs.Book.{Rule}
use Rattle.steps.specs.Fits.{Fits, matching, fits}
use Rattle.steps.specs.Step.{Step, StepInside, at_root, inside, in_first, in_later, Steps, step, OwnSteps, next}
use Rattle.steps.specs.Step.{chosen, applied, rewritten, step_of, step_of_args}
use Rattle.steps.proofs.Fits.{matching_fits, fits_decides}
use Rattle.steps.proofs.Chosen.{found_nothing, chosen_fits, none_chosen}

-- What a place is rewritten to, a free step leads to ..
rewritten_is_free : (rules : List Rule) (s t : Term) → rewritten rules s ≡ some t → Step rules s t
unfolding rewritten applied
rewritten_is_free rules s t p =
    let (rule, is, makes) = (map-eq-some_iff (λ (rule : Rule). applied rule s) (chosen rules s)).0 p in
    let (member, fit) = chosen_fits rules s rule is in
    at_root {t = t} rule (matching rule.left s) member (matching_fits rule.left s fit) makes

-- .. and where nothing is rewritten, no rule fits.
none_fits : (rules : List Rule) (s : Term) → rewritten rules s ≡ none → (rule : Rule) → Memᴰ rule rules → T (fits rule.left s) → ⊥
unfolding rewritten
none_fits rules s p rule m h = none_chosen rules s ((map-eq-none_iff (λ (rule : Rule). applied rule s) (chosen rules s)).0 p) rule m h

-- The own step of an application and of arguments, by what the parts answer.
module _ (rules : List Rule) where
  pub by_arguments :
      (f : ℕ) (ss : Args) (o : Option Args) → step_of_args rules ss ≡ o →
      step_of rules (app f ss) ≡ (elim o [ some ts ↦ some (app f ts) | none ↦ rewritten rules (app f ss) ])
  unfolding step_of
  by_arguments f ss o p = ap {B = Option Term} (λ o'. elim o' [ some ts ↦ some (app f ts) | none ↦ rewritten rules (app f ss) ]) p

  pub by_first_and_later :
      (s : Term) (ss : Args) (o : Option Term) (o' : Option Args) → step_of rules s ≡ o → step_of_args rules ss ≡ o' →
      step_of_args rules (cons s ss) ≡ (elim o [ some t ↦ some (cons t ss) | none ↦ elim o' [ some ts ↦ some (cons s ts) | none ↦ none ] ])
  unfolding step_of
  by_first_and_later s ss o o' p q =
      ap₂ {C = Option Args}
      (λ a b. elim a [ some t ↦ some (cons t ss) | none ↦ elim b [ some ts ↦ some (cons s ts) | none ↦ none ] ])
      p q

-- The own step is a free step.
mutual
  unfolding step_of

  own_is_free : (rules : List Rule) (s t : Term) → step_of rules s ≡ some t → Step rules s t
  own_is_free rules (var x) t p = rewritten_is_free rules (var x) t p
  own_is_free rules (app f ss) t p = go (step_of_args rules ss) refl (λ ts q. own_is_free_inside rules ss ts q)
    where
      go :
          (o : Option Args) → step_of_args rules ss ≡ o → ((ts : Args) → step_of_args rules ss ≡ some ts → StepInside rules ss ts) →
          Step rules (app f ss) t
      go none q below = rewritten_is_free rules (app f ss) t (sym (by_arguments rules f ss none q) ∙ p)
      go (some ts) q below =
          let r : app f ts ≡ t = cc (by_arguments rules f ss (some ts) q) in
          subst (λ (u : Term). Step rules (app f ss) u) r (inside (below ts q))

  own_is_free_inside : (rules : List Rule) (ss ts : Args) → step_of_args rules ss ≡ some ts → StepInside rules ss ts
  own_is_free_inside rules nil ts p = absurd (found_nothing refl p)
  own_is_free_inside rules (cons s ss) ts p =
      go (step_of rules s) (step_of_args rules ss) refl refl (λ t q. own_is_free rules s t q) (λ us q. own_is_free_inside rules ss us q)
    where
      go :
          (o : Option Term) (o' : Option Args) → step_of rules s ≡ o → step_of_args rules ss ≡ o' →
          ((t : Term) → step_of rules s ≡ some t → Step rules s t) →
          ((us : Args) → step_of_args rules ss ≡ some us → StepInside rules ss us) →
          StepInside rules (cons s ss) ts
      go (some t) o' q q' here below =
          let r : cons t ss ≡ ts = cc (by_first_and_later rules s ss (some t) o' q q') in
          subst (λ (us : Args). StepInside rules (cons s ss) us) r (in_first (here t q))
      go none (some us) q q' here below =
          let r : cons s us ≡ ts = cc (by_first_and_later rules s ss none (some us) q q') in
          subst (λ (vs : Args). StepInside rules (cons s ss) vs) r (in_later (below us q'))
      go none none q q' here below = absurd (found_nothing (by_first_and_later rules s ss none none q q') p)

-- Where no own step is found, none is found at the arguments and none at the node.
module _ (rules : List Rule) where
  none_at_arguments : (f : ℕ) (ss : Args) → step_of rules (app f ss) ≡ none → step_of_args rules ss ≡ none
  none_at_arguments f ss p = go (step_of_args rules ss) refl
    where
      go : (o : Option Args) → step_of_args rules ss ≡ o → step_of_args rules ss ≡ none
      go none q = q
      go (some ts) q = absurd (found_nothing p (by_arguments rules f ss (some ts) q))

  none_at_node : (s : Term) → step_of rules s ≡ none → rewritten rules s ≡ none
  unfolding step_of
  none_at_node (var x) p = p
  none_at_node (app f ss) p = sym (by_arguments rules f ss none (none_at_arguments f ss p)) ∙ p

  none_at_first_and_later :
      (s : Term) (ss : Args) → step_of_args rules (cons s ss) ≡ none → (step_of rules s ≡ none) × (step_of_args rules ss ≡ none)
  none_at_first_and_later s ss p = go (step_of rules s) (step_of_args rules ss) refl refl
    where
      go :
          (o : Option Term) (o' : Option Args) → step_of rules s ≡ o → step_of_args rules ss ≡ o' →
          (step_of rules s ≡ none) × (step_of_args rules ss ≡ none)
      go none none q q' = (q, q')
      go none (some ts) q q' = absurd (found_nothing p (by_first_and_later rules s ss none (some ts) q q'))
      go (some t) o' q q' = absurd (found_nothing p (by_first_and_later rules s ss (some t) o' q q'))

-- So there is no free step there.
mutual
  unfolding Fits

  no_free_step : (rules : List Rule) {s t : Term} → Step rules s t → step_of rules s ≡ none → ⊥
  no_free_step rules (at_root {s = s} rule σ m p q) e =
      none_fits rules s (none_at_node rules s e) rule m ((fits_decides rule.left s).1 (σ, p))
  no_free_step rules (inside {f = f} {ss = ss} st) e = no_free_step_inside rules st (none_at_arguments rules f ss e)

  no_free_step_inside : (rules : List Rule) {ss ts : Args} → StepInside rules ss ts → step_of_args rules ss ≡ none → ⊥
  no_free_step_inside rules (in_first {s = s} {ss = ss} st) e = no_free_step rules st (none_at_first_and_later rules s ss e).0
  no_free_step_inside rules (in_later {s = s} {ss = ss} st) e = no_free_step_inside rules st (none_at_first_and_later rules s ss e).1

-- So many own steps are so many free steps.
pub own_steps_are_free : {rules : List Rule} {n : ℕ} {s t : Term} → OwnSteps rules n s t → Steps rules n s t
own_steps_are_free OwnSteps.stay = Steps.stay
own_steps_are_free {rules} (next {s = s} {t = t} p small steps) = step (own_is_free rules s t p) (own_steps_are_free steps)

pub own_step_is_free :
    (rules : List Rule) (s : Term) →
    ((t : Term) → step_of rules s ≡ some t → Step rules s t) × ((step_of rules s ≡ none) ↔ ((t : Term) → Step rules s t → ⊥))
own_step_is_free rules s = (own_is_free rules s, (λ e t st. no_free_step rules st e, λ h. go h (step_of rules s) refl))
  where
    go : ((t : Term) → Step rules s t → ⊥) → (o : Option Term) → step_of rules s ≡ o → step_of rules s ≡ none
    go h none e = e
    go h (some t) e = absurd (h t (own_is_free rules s t e))
