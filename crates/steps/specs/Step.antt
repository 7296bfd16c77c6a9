-- A step: chosen freely (a relation), and document 01's own (a function); sequences of free steps.
use Rattle.std.specs.Prelude.{ℕ, zero, suc, ◌≤◌, true, false, ◌≡◌, get_or}
use mathlib.Core.List.{List, [], ◌∷◌, Memᴰ}
use Rattle.std.proofs.Math.Option.{Option, none, some, map}
use Rattle.term.specs.Term.{Term, Args, var, app, nil, cons, size}
use Rattle.book.specs.Book.{Rule}
use Rattle.term.specs.Replacement.{Replacement, Occurs, replace}
use Rattle.steps.specs.Fits.{matching, fits}

mutual
  -- "Every step, a freely chosen one too, puts the rule's right side, under the replacement that made it fit, where the subterm stood,
  -- and leaves the rest of the term as it was."
  pub data Step (rules : List Rule) : Term → Term → Type 0 where
    at_root : {s t : Term} (rule : Rule) (σ : Replacement) → Memᴰ rule rules → replace σ rule.left ≡ s → replace σ rule.right ≡ t → Step rules s t
    inside : {f : ℕ} {ss ts : Args} → StepInside rules ss ts → Step rules (app f ss) (app f ts)

  -- A step of one argument; the others stay.
  pub data StepInside (rules : List Rule) : Args → Args → Type 0 where
    in_first : {s t : Term} {ss : Args} → Step rules s t → StepInside rules (cons s ss) (cons t ss)
    in_later : {s : Term} {ss ts : Args} → StepInside rules ss ts → StepInside rules (cons s ss) (cons s ts)

-- A sequence of so many steps, rule and place chosen freely.
pub data Steps (rules : List Rule) : ℕ → Term → Term → Type 0 where
  stay : {t : Term} → Steps rules zero t t
  step : {n : ℕ} {s t u : Term} → Step rules s t → Steps rules n t u → Steps rules (suc n) s u

-- Rule i.
abbrev pub rule_of : List Rule → (i : ℕ) → Rule
rule_of rules i = get_or rules i (record { left = var 0; right = var 0 })

-- "A right side may hold a variable that the left lacks; such a rule .. never decreases": there is none among these rules.
unfoldable pub NoNewVariable : List Rule → Type 0
NoNewVariable rules = (rule : Rule) → Memᴰ rule rules → (x : ℕ) → Occurs x rule.right → Occurs x rule.left

-- "and there the rule with the lowest number": of the rules that fit s, the one that the step takes.
unfoldable pub chosen : List Rule → Term → Option Rule
chosen [] s = none
chosen (rule ∷ rules) s = elim (fits rule.left s) [ true ↦ some rule | false ↦ chosen rules s ]

-- What a rule that fits makes of s: its "right side, under the replacement that made it fit".
unfoldable pub applied : Rule → Term → Term
applied rule s = replace (matching rule.left s) rule.right

-- What a step at this very place makes of s, if some rule fits it.
unfoldable pub rewritten : List Rule → Term → Option Term
rewritten rules s = map (λ (rule : Rule). applied rule s) (chosen rules s)

-- "A step takes the first place in postorder at which some rule fits": the arguments left to right, then the node.
unfoldable mutual
  pub step_of : List Rule → Term → Option Term
  step_of rules (var x) = rewritten rules (var x)
  step_of rules (app f ts) = elim (step_of_args rules ts) [ some ts' ↦ some (app f ts') | none ↦ rewritten rules (app f ts) ]

  pub step_of_args : List Rule → Args → Option Args
  step_of_args rules nil = none
  step_of_args rules (cons t ts) =
      elim (step_of rules t) [
        | some t' ↦ some (cons t' ts)
        | none ↦ elim (step_of_args rules ts) [ some ts' ↦ some (cons t ts') | none ↦ none ]
      ]

-- So many of document 01's own steps, each to a term of at most 256 nodes.
pub data OwnSteps (rules : List Rule) : ℕ → Term → Term → Type 0 where
  stay : {t : Term} → OwnSteps rules zero t t
  next : {n : ℕ} {s t u : Term} → step_of rules s ≡ some t → size t ≤ 256 → OwnSteps rules n t u → OwnSteps rules (suc n) s u
