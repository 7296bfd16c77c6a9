-- The rules are tried one by one, from the lowest number on: as long as none fits, the later ones decide. Assumes nothing.
use Prim.Native.Nat.{ℕ, suc, ◌+◌, ◌<◌, ◌≤◌}
use mathlib.Core.Bool.{false}
use mathlib.Core.List.{List, ◌∷◌}
use mathlib.Core.Option.{Option, none, some, map}
use mathlib.Core.Path.{◌≡◌, refl, sym, ap, ◌∙◌}
use native.Mathlib.Numerals.{add-one}
use native.Mathlib.Omega.{arith}
use lib.ListN.{length, drop, drop_of_length-le}
use lib.Seq.{drop-cons}
use Rattle.term.specs.Term.{Term, var}
use Rattle.book.specs.Book.{Rule}
use Rattle.steps.specs.Fits.{fits}
use Rattle.steps.specs.Step.{rule_of}
use Rattle.steps.specs.NextStep.{lowest}
use Rattle.matching.specs.Table.{FitsAt}
use Rattle.matching.specs.FirstPlace.{Applies}
use Rattle.building.specs.declared.Match.{Match}
use Rattle.steps.proofs.NextStep.{front_lowest, later_lowest}

-- The rules before i do not fit s.
pub record Tried (rules : List Rule) (s : Term) (i : ℕ) : Type 0 where
  pub within : i ≤ length rules
  pub later : lowest rules s ≡ map (λ (j : ℕ). i + j) (lowest (drop i rules) s)

-- So many more were tried.
none_more : (o : Option ℕ) → o ≡ map (λ (j : ℕ). 0 + j) o
none_more none = refl
none_more (some j) = ap {B = Option ℕ} some (omega arith)

one_more : (i : ℕ) (o : Option ℕ) → map (λ (j : ℕ). i + j) (map suc o) ≡ map (λ (j : ℕ). (i + 1) + j) o
one_more i none = refl
one_more i (some j) = ap {B = Option ℕ} some (omega arith)

pub none_tried : (rules : List Rule) (s : Term) → Tried rules s 0
none_tried rules s = record { within = omega arith; later = none_more (lowest rules s) }

module _ {rules : List Rule} {s : Term} {i : ℕ} (tried : Tried rules s i) where
  module _ (p : i < length rules) where
    this_first : lowest rules s ≡ map (λ (j : ℕ). i + j) (lowest (rule_of rules i ∷ drop (suc i) rules) s)
    this_first =
        tried.later ∙ ap (λ (rs : List Rule). map (λ (j : ℕ). i + j) (lowest rs s)) (drop-cons rules i (record { left = var 0; right = var 0 }) p)

    pub one_more_tried : fits (rule_of rules i).left s ≡ false → Tried rules s (i + 1)
    one_more_tried q = record {
      within = omega arith;
      later =
          this_first
          ∙ ap (map (λ (j : ℕ). i + j)) (later_lowest (rule_of rules i) (drop (suc i) rules) s q)
          ∙ one_more i (lowest (drop (suc i) rules) s)
          ∙ ap (λ (n : ℕ). map (λ (j : ℕ). (i + 1) + j) (lowest (drop n rules) s)) (sym (add-one i));
    }

    pub this_applies :
        {bytes arities : List ℕ} {at : ℕ} {table : Match} → FitsAt bytes arities (rule_of rules i).left s at table →
        Applies bytes arities rules s at (record { rule = i; table = table })
    this_applies held = record {
      is_lowest =
          this_first
          ∙ ap (map (λ (j : ℕ). i + j)) (front_lowest (rule_of rules i) (drop (suc i) rules) s held.fitting)
          ∙ ap {B = Option ℕ} some (omega arith);
      table = held.whole;
      variables = held.variables;
    }

  pub all_tried : length rules ≤ i → lowest rules s ≡ none
  unfolding lowest
  all_tried p = tried.later ∙ ap (λ (rs : List Rule). map (λ (j : ℕ). i + j) (lowest rs s)) (drop_of_length-le rules p)
