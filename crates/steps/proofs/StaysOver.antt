-- A step leaves a term over the declared symbols: the right side is, and what replaces its variables comes from the term itself. Assumes
-- nothing.
use Prim.Native.Nat.{ℕ, zero, suc, ◌<◌, suc-le-suc}
use native.Mathlib.Nat.{not-suc-le-zero, le_of_suc-le-suc}
use native.Mathlib.Omega.{arith}
use mathlib.Core.Bool.{Bool, ◌&&◌}
use mathlib.Core.List.Memᴰ
use mathlib.Core.List.{List, [], ◌∷◌, Memᴰ}
use mathlib.Core.Logic.{⊎_elim}
use mathlib.Core.Path.{◌≡◌, refl, sym, ap, subst}
use lib.Dec.{T, eqb, ltb}
use lib.ListN.{length, get_or}
use Rattle.reply.proofs.Tests.{and_left, and_right, and_both}
use Rattle.term.specs.Term.{Term, Args, var, app, nil, cons, count, over, overs}
use Rattle.term.specs.Replacement.{Replacement, replace, replace_all, Occurs, OccursIn, it, under, first, later}
use Rattle.book.specs.Book.{Rule}
use Rattle.steps.specs.Step.{rule_of, Step, StepInside, at_root, inside, in_first, in_later}
use Rattle.order.proofs.Kept.{count_replaced}

module _ (arities : List ℕ) where
  -- The parts of an application over the symbols.
  abbrev pub Root : ℕ → Args → Bool
  Root f ts = ltb f (length arities) && eqb (get_or arities f 0) (count ts)

  root_as_many : (f : ℕ) (ss ts : Args) → count ts ≡ count ss → T (Root f ss) → T (Root f ts)
  root_as_many f ss ts c r = subst (λ (n : ℕ). T (ltb f (length arities) && eqb (get_or arities f 0) n)) (sym c) r

  -- Replaced by terms over the symbols, and back.
  mutual
    unfolding replace over

    over_replaced : (σ : Replacement) (t : Term) → T (over arities t) → ((x : ℕ) → Occurs x t → T (over arities (σ x))) → T (over arities (replace σ t))
    over_replaced σ (var x) o h = h x it
    over_replaced σ (app f ts) o h =
        and_both (Root f (replace_all σ ts)) (overs arities (replace_all σ ts))
        (root_as_many f ts (replace_all σ ts) (count_replaced σ ts) (and_left (Root f ts) (overs arities ts) o))
        (overs_replaced σ ts (and_right (Root f ts) (overs arities ts) o) (λ x i. h x (under i)))

    overs_replaced :
        (σ : Replacement) (ts : Args) → T (overs arities ts) → ((x : ℕ) → OccursIn x ts → T (over arities (σ x))) → T (overs arities (replace_all σ ts))
    overs_replaced σ nil o h = tt
    overs_replaced σ (cons t ts) o h =
        and_both (over arities (replace σ t)) (overs arities (replace_all σ ts))
        (over_replaced σ t (and_left (over arities t) (overs arities ts) o) (λ x i. h x (first i)))
        (overs_replaced σ ts (and_right (over arities t) (overs arities ts) o) (λ x i. h x (later i)))

  mutual
    unfolding replace over

    pub over_variable : (σ : Replacement) {t : Term} {x : ℕ} → Occurs x t → T (over arities (replace σ t)) → T (over arities (σ x))
    over_variable σ it o = o
    over_variable σ (under {f = f} {ts = ts} i) o = over_variable_in σ i (and_right (Root f (replace_all σ ts)) (overs arities (replace_all σ ts)) o)

    over_variable_in : (σ : Replacement) {ts : Args} {x : ℕ} → OccursIn x ts → T (overs arities (replace_all σ ts)) → T (over arities (σ x))
    over_variable_in σ (first {t = t} {ts = ts} i) o = over_variable σ i (and_left (over arities (replace σ t)) (overs arities (replace_all σ ts)) o)
    over_variable_in σ (later {t = t} {ts = ts} i) o = over_variable_in σ i (and_right (over arities (replace σ t)) (overs arities (replace_all σ ts)) o)

  -- The right side is over the symbols and has no variable that the left lacks.
  pub record Good (rule : Rule) : Type 0 where
    pub right_over : T (over arities rule.right)
    pub no_new_lem : (x : ℕ) → Occurs x rule.right → Occurs x rule.left

  inside_count : {rules : List Rule} {ss ts : Args} → StepInside rules ss ts → count ts ≡ count ss
  unfolding count
  inside_count (in_first st) = refl
  inside_count (in_later st) = ap suc (inside_count st)

  module _ {rules : List Rule} (good : (rule : Rule) → Memᴰ rule rules → Good rule) where
    mutual
      unfolding over

      pub step_over : {s t : Term} → Step rules s t → T (over arities s) → T (over arities t)
      step_over (at_root rule σ m p q) o =
          subst (λ (u : Term). T (over arities u)) q
          (over_replaced σ rule.right (good rule m).right_over
          (λ x i. over_variable σ ((good rule m).no_new_lem x i) (subst (λ (u : Term). T (over arities u)) (sym p) o)))
      step_over (inside {f = f} {ss = ss} {ts = ts} st) o =
          and_both (Root f ts) (overs arities ts)
          (root_as_many f ss ts (inside_count st) (and_left (Root f ss) (overs arities ss) o))
          (inside_over st (and_right (Root f ss) (overs arities ss) o))

      inside_over : {ss ts : Args} → StepInside rules ss ts → T (overs arities ss) → T (overs arities ts)
      inside_over (in_first {s = s} {t = t} {ss = ss} st) o =
          and_both (over arities t) (overs arities ss) (step_over st (and_left (over arities s) (overs arities ss) o)) (and_right (over arities s) (overs arities ss) o)
      inside_over (in_later {s = s} {ss = ss} {ts = ts} st) o =
          and_both (over arities s) (overs arities ts) (and_left (over arities s) (overs arities ss) o) (inside_over st (and_right (over arities s) (overs arities ss) o))

-- Rule i is one of the rules ..
pub rule_member : (rules : List Rule) (i : ℕ) → i < length rules → Memᴰ (rule_of rules i) rules
rule_member [] i p = absurd (not-suc-le-zero p)
rule_member (rule ∷ rules) zero p = Memᴰ.head refl
rule_member (rule ∷ rules) (suc i) p = Memᴰ.tail (rule_member rules i (le_of_suc-le-suc p))

-- .. and each of them has a number.
pub numbered :
    (P : Rule → Type 0) (rules : List Rule) → ((i : ℕ) → i < length rules → P (rule_of rules i)) → (rule : Rule) → Memᴰ rule rules → P rule
numbered P [] all rule m = absurd (Memᴰ.not-nil m)
numbered P (front ∷ rules) all rule m =
    ⊎_elim
    (λ (e : rule ≡ front). subst P (sym e) (all 0 (omega arith)))
    (λ r. numbered P rules (λ i p. all (suc i) (suc-le-suc p)) rule r)
    (Memᴰ.cases_cons m)
