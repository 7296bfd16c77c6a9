-- The bound N, from any reduction order under which the rules decrease, for terms over the arities. Every free step stays among those and
-- goes down in the order. From one term there are finitely many steps: for each place and each rule at most one, since the match settles
-- the left side's variables and the right side brings no new one. So the bounds after each step have one for all, and one more bounds the
-- term; the order ends, so this ends. Assumes nothing.
use Prim.Native.Nat.{ℕ, zero, suc, ◌≤◌, zero-le, suc-le-suc}
use native.Mathlib.Nat.{le_trans}
use mathlib.Core.Bool.{Bool, true, false}
use mathlib.Core.List.Memᴰ
use mathlib.Core.List.{List, [], ◌∷◌, Memᴰ}
use mathlib.Core.Logic.{◌⊎◌, inl, inr}
use mathlib.Core.Path.{◌≡◌, refl, sym, subst, subst₂, ◌∙◌}
use lib.Dec.{T}
use Rattle.reply.proofs.Tests.{and_left, and_right}
use Rattle.term.specs.Term.{Term, Args, var, app, nil, cons, over, overs}
use Rattle.term.specs.Replacement.{Replacement, replace, Occurs}
use Rattle.book.specs.Book.{Rule}
use Rattle.order.specs.ReductionOrder.{Ends, ends, AtOneArgument, Among, ReductionOrder}
use Rattle.steps.specs.Fits.{Fits, matching, fits}
use Rattle.steps.specs.Step.{Step, StepInside, at_root, inside, in_first, in_later, Steps, step}
use Rattle.steps.proofs.Finitely.{Grows, Finitely, finitely_none, finitely_one, finitely_either, Image, finitely_image}
use Rattle.steps.proofs.Fits.{matching_fits, matching_agrees, replace_agrees, fits_decides}
use Rattle.steps.proofs.StaysOver.{Root, over_variable, Good, step_over}

-- A rule that goes down among the terms over the arities brings no new variable, and its right side is over them.
pub downward_good :
    {arities : List ℕ} {◌≻◌ : Term → Term → Type 0} → ReductionOrder arities ◌≻◌ → (rule : Rule) → Among arities ◌≻◌ rule.left rule.right → Good arities rule
downward_good order rule down =
    record { right_over = down.right_over; no_new_lem = order.no_new_variable rule.left rule.right down.above }

-- Every free step from a term over the arities goes down among those.
module _
    {arities : List ℕ} {◌≻◌ : Term → Term → Type 0} (order : ReductionOrder arities ◌≻◌) {rules : List Rule}
    (decrease : (rule : Rule) → Memᴰ rule rules → Among arities ◌≻◌ rule.left rule.right) where
  pub step_stays_over : {s t : Term} → Step rules s t → T (over arities s) → T (over arities t)
  step_stays_over = step_over arities (λ rule m. downward_good order rule (decrease rule m))

  mutual
    unfolding over

    step_goes_down : {s t : Term} → Step rules s t → T (over arities s) → ◌≻◌ s t
    step_goes_down (at_root rule σ m p q) o =
        subst₂ ◌≻◌ p q
        (order.kept_under_replacement σ rule.left rule.right (decrease rule m)
        (λ x i. over_variable arities σ i (subst (λ (u : Term). T (over arities u)) (sym p) o)))
    step_goes_down (inside {f = f} {ss = ss} {ts = ts} st) o =
        order.kept_in_contexts f ss ts o (step_stays_over (inside st) o)
        (step_goes_down_inside st (and_right (Root arities f ss) (overs arities ss) o))

    step_goes_down_inside : {ss ts : Args} → StepInside rules ss ts → T (overs arities ss) → AtOneArgument ◌≻◌ ss ts
    step_goes_down_inside (in_first {s = s} {ss = ss} st) o =
        AtOneArgument.in_first (step_goes_down st (and_left (over arities s) (overs arities ss) o))
    step_goes_down_inside (in_later {s = s} {ss = ss} st) o =
        AtOneArgument.in_later (step_goes_down_inside st (and_right (over arities s) (overs arities ss) o))

  pub step_among : {s t : Term} → Step rules s t → T (over arities s) → Among arities ◌≻◌ s t
  step_among st o = record { left_over = o; right_over = step_stays_over st o; above = step_goes_down st o }

-- What a rule makes of a whole term, and what the rules do.
abbrev ByRule : Rule → Term → Term → Type 0
ByRule rule s t = (σ : Replacement) × (replace σ rule.left ≡ s) × (replace σ rule.right ≡ t)

abbrev ByRules : List Rule → Term → Term → Type 0
ByRules rules s t = (rule : Rule) × Memᴰ rule rules × ByRule rule s t

-- The right side brings no new variable.
abbrev NoNew : Rule → Type 0
NoNew rule = (x : ℕ) → Occurs x rule.right → Occurs x rule.left

-- The match decides what a rule makes of a term.
finitely_by_rule : (rule : Rule) → NoNew rule → (s : Term) → Finitely (ByRule rule s)
unfolding Fits
finitely_by_rule rule old s = go (fits rule.left s) refl
  where
    μ : Replacement
    μ = matching rule.left s

    go : (b : Bool) → fits rule.left s ≡ b → Finitely (ByRule rule s)
    go true e =
        finitely_one
        (ByRule rule s)
        (replace μ rule.right)
        (μ, matching_fits rule.left s (rw e tt), refl)
        (λ t (σ, p, q). replace_agrees μ σ rule.right (λ x o. matching_agrees rule.left s σ p x (old x o)) ∙ q)
    go false e =
        finitely_none (ByRule rule s) (λ t (σ, p, q). subst (λ (b : Bool). T b) e ((fits_decides rule.left s).1 (σ, p)))

finitely_by_rules : (rules : List Rule) → ((rule : Rule) → Memᴰ rule rules → NoNew rule) → (s : Term) → Finitely (ByRules rules s)
finitely_by_rules [] old s = finitely_none (ByRules [] s) (λ t (rule, m, b). Memᴰ.not-nil m)
finitely_by_rules (front ∷ rules) old s =
    finitely_either
    (ByRule front s)
    (ByRules rules s)
    (ByRules (front ∷ rules) s)
    (λ t b. (front, Memᴰ.head refl, b))
    (λ t (rule, m, b). (rule, Memᴰ.tail m, b))
    (λ t (rule, m, b). split rule b (Memᴰ.cases_cons m))
    (finitely_by_rule front (old front (Memᴰ.head refl)) s)
    (finitely_by_rules rules (λ rule m. old rule (Memᴰ.tail m)) s)
  where
    split : {t : Term} (rule : Rule) → ByRule rule s t → (rule ≡ front) ⊎ Memᴰ rule rules → ByRule front s t ⊎ ByRules rules s t
    split {t} rule b (inl e) = inl (subst (λ (r : Rule). ByRule r s t) e b)
    split rule b (inr m) = inr (rule, m, b)

-- A step is made by a rule at the root, or inside.
abbrev Inside : List Rule → Term → Term → Type 0
Inside rules (var x) t = ⊥
Inside rules (app f ss) t = Image (app f) (StepInside rules ss) t

root_or_inside : {rules : List Rule} {s t : Term} → Step rules s t → ByRules rules s t ⊎ Inside rules s t
root_or_inside (at_root rule σ m p q) = inl (rule, m, (σ, p, q))
root_or_inside (inside {ts = ts} st) = inr (ts, st, refl)

is_inside : (rules : List Rule) (s t : Term) → Inside rules s t → Step rules s t
is_inside rules (var x) t never = absurd never
is_inside rules (app f ss) t (ts, st, e) = subst (λ (u : Term). Step rules (app f ss) u) e (inside st)

first_or_later :
    {rules : List Rule} {s : Term} {ss us : Args} → StepInside rules (cons s ss) us →
    Image (λ t. cons t ss) (Step rules s) us ⊎ Image (cons s) (StepInside rules ss) us
first_or_later (in_first {t = t} st) = inl (t, st, refl)
first_or_later (in_later {ts = ts} st) = inr (ts, st, refl)

-- So there are finitely many steps from a term.
module _ (rules : List Rule) (old : (rule : Rule) → Memᴰ rule rules → NoNew rule) where
  root_and_inside : (s : Term) → Finitely (Inside rules s) → Finitely (Step rules s)
  root_and_inside s =
      finitely_either
      (ByRules rules s)
      (Inside rules s)
      (Step rules s)
      (λ t (rule, m, (σ, p, q)). at_root rule σ m p q)
      (is_inside rules s)
      (λ t st. root_or_inside st)
      (finitely_by_rules rules old s)

  mutual
    finitely_steps : (s : Term) → Finitely (Step rules s)
    finitely_steps (var x) = root_and_inside (var x) (finitely_none (λ t. ⊥) (λ t never. never))
    finitely_steps (app f ss) = root_and_inside (app f ss) (finitely_image (app f) (StepInside rules ss) (finitely_steps_inside ss))

    finitely_steps_inside : (ss : Args) → Finitely (StepInside rules ss)
    finitely_steps_inside nil = finitely_none (StepInside rules nil) (λ ts st. elim st [ ])
    finitely_steps_inside (cons s ss) =
        finitely_either
        (Image (λ t. cons t ss) (Step rules s))
        (Image (cons s) (StepInside rules ss))
        (StepInside rules (cons s ss))
        (λ us (t, st, e). subst (λ (vs : Args). StepInside rules (cons s ss) vs) e (in_first st))
        (λ us (ts, st, e). subst (λ (vs : Args). StepInside rules (cons s ss) vs) e (in_later st))
        (λ us st. first_or_later st)
        (finitely_image (λ t. cons t ss) (Step rules s) (finitely_steps s))
        (finitely_image (cons s) (StepInside rules ss) (finitely_steps_inside ss))

-- No sequence of steps from t is longer than N.
abbrev Within : List Rule → Term → ℕ → Type 0
Within rules t N = (steps : ℕ) (u : Term) → Steps rules steps t u → steps ≤ N

one_step_more : {rules : List Rule} {t : Term} {N : ℕ} → ((s : Term) → Step rules t s → Within rules s N) → Within rules t (suc N)
one_step_more h zero u steps = zero-le
one_step_more h (suc n) u (step {t = s} st steps) = suc-le-suc (h s st n u steps)

pub bounded :
    {arities : List ℕ} {◌≻◌ : Term → Term → Type 0} → ReductionOrder arities ◌≻◌ → (rules : List Rule) →
    ((rule : Rule) → Memᴰ rule rules → Among arities ◌≻◌ rule.left rule.right) →
    (t : Term) → T (over arities t) → (N : ℕ) × ((steps : ℕ) (u : Term) → Steps rules steps t u → steps ≤ N)
bounded {arities} {◌≻◌} order rules decrease t o = from t o (order.comes_to_rest t o)
  where
    old : (rule : Rule) → Memᴰ rule rules → NoNew rule
    old rule m = (downward_good order rule (decrease rule m)).no_new_lem

    grows : Grows (Within rules)
    grows s n m n≤m within steps u h = le_trans (within steps u h) n≤m

    from : (t : Term) → T (over arities t) → Ends (Among arities ◌≻◌) t → (N : ℕ) × Within rules t N
    from t o (ends below) =
        let (N, h) =
        finitely_steps rules old t (Within rules) grows
        (λ s st. let down = step_among order decrease st o in from s down.right_over (below s down)) in
        (suc N, one_step_more h)
