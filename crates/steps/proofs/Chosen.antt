-- The rule that a step takes at a place: it is one of the rules and fits, and where none is taken, none fits. Nothing else is asked of the
-- choice by the laws of a run. Assumes nothing.
use Prim.Native.Nat.{ℕ}
use mathlib.Core.Bool.{Bool, true, false}
use mathlib.Core.List.Memᴰ
use mathlib.Core.List.{List, [], ◌∷◌, Memᴰ}
use mathlib.Core.Logic.{⊎_elim}
use mathlib.Core.Option.{Option, none, some}
use mathlib.Core.Path.{◌≡◌, refl, sym, subst, ◌∙◌}
use native.Mathlib.Omega.{arith}
use lib.Dec.{T}
use Rattle.term.specs.Term.{Term}
use Rattle.book.specs.Book.{Rule}
use Rattle.steps.specs.Fits.{fits}
use Rattle.steps.specs.Step.{chosen, applied, rewritten}

-- Nothing is both found and not found.
pub found_nothing : {A : Type 0} {o : Option A} {a : A} → o ≡ none → o ≡ some a → ⊥
found_nothing p q = let z : ◌≡◌ {A = ℕ} 0 1 = cc in omega arith

-- The front rule if it fits, else one of the later ones.
module _ (rule : Rule) (rules : List Rule) (s : Term) where
  pub front_chosen : fits rule.left s ≡ true → chosen (rule ∷ rules) s ≡ some rule
  unfolding chosen
  front_chosen p = rw (p, chosen)

  pub later_chosen : fits rule.left s ≡ false → chosen (rule ∷ rules) s ≡ chosen rules s
  unfolding chosen
  later_chosen p = rw (p, chosen)

pub chosen_fits : (rules : List Rule) (s : Term) (rule : Rule) → chosen rules s ≡ some rule → Memᴰ rule rules × T (fits rule.left s)
unfolding chosen
chosen_fits [] s rule p = absurd (found_nothing refl p)
chosen_fits (front ∷ rules) s rule p = go (fits front.left s) refl (λ q. chosen_fits rules s rule q)
  where
    go :
        (b : Bool) → fits front.left s ≡ b → (chosen rules s ≡ some rule → Memᴰ rule rules × T (fits rule.left s)) →
        Memᴰ rule (front ∷ rules) × T (fits rule.left s)
    go true q later =
        let same : front ≡ rule = cc (front_chosen front rules s q) in
        (Memᴰ.head (sym same), subst (λ (r : Rule). T (fits r.left s)) same (rw q tt))
    go false q later = let (member, fit) = later (sym (later_chosen front rules s q) ∙ p) in (Memᴰ.tail member, fit)

pub none_chosen : (rules : List Rule) (s : Term) → chosen rules s ≡ none → (rule : Rule) → Memᴰ rule rules → T (fits rule.left s) → ⊥
none_chosen [] s p rule m h = Memᴰ.not-nil m
none_chosen (front ∷ rules) s p rule m h = go (fits front.left s) refl (λ q r. none_chosen rules s q rule r h)
  where
    go : (b : Bool) → fits front.left s ≡ b → (chosen rules s ≡ none → Memᴰ rule rules → ⊥) → ⊥
    go true q later = found_nothing p (front_chosen front rules s q)
    go false q later =
        ⊎_elim
        (λ (e : rule ≡ front). subst (λ (b : Bool). T b) q (rw e at h))
        (λ (r : Memᴰ rule rules). later (sym (later_chosen front rules s q) ∙ p) r)
        (Memᴰ.cases_cons m)

-- So the place is rewritten by it, or not at all.
module _ (rules : List Rule) (s : Term) where
  pub chosen_rewrites : {rule : Rule} → chosen rules s ≡ some rule → rewritten rules s ≡ some (applied rule s)
  unfolding rewritten
  chosen_rewrites p = rw p

  pub none_rewritten : chosen rules s ≡ none → rewritten rules s ≡ none
  unfolding rewritten
  none_rewritten p = rw p
