-- Two replies that the contract of a step allows are equal, and so is what they leave in the lent buffer, said of the contract itself: the
-- outcomes exclude each other, and the next term is the one that the definition gives. Assumes nothing.
use Prim.Native.Nat.{ℕ, ◌-◌}
use mathlib.Core.List.{List, ◌++◌}
use mathlib.Core.Option.{some}
use mathlib.Core.Path.{◌≡◌, refl, sym, ap, ap₂, ◌∙◌}
use native.Mathlib.Omega.{arith}
use contract.Lifetimes.{Lfts}
use borrow.Fn.Kinds.{Dens, ended_of}
use denote.Triple.Clauses.{AtExit}
use lib.ListN.{take, drop, take-append-drop}
use lib.Seq.{take-take}
use Rattle.std.specs.Prelude.{Result, Ok, Err}
use Rattle.term.specs.Term.{Term, size}
use Rattle.term.specs.Prefix.{prefix}
use Rattle.term.proofs.At.{at_end_lem}
use Rattle.term.proofs.PrefixAt.{at_prefix}
use Rattle.book.specs.Book.{Rule}
use Rattle.steps.specs.Step.{step_of}
use Rattle.steps.specs.Run.{Means}
use Rattle.steps.proofs.Chosen.{found_nothing}
use Rattle.stepping.specs.Stepped.{outcome_of, NextIn, Tells}
use Rattle.stepping.specs.declared.Outcome.{Outcome}
use Rattle.stepping.specs.declared.Outcome.TheVariants.{Done, Spent, TooLarge}
use Rattle.stepping.proofs.step.Kinds as step_kinds
use Rattle.stepping.proofs.step.Reads as step

module _ (arities : List ℕ) (rules : List Rule) (t : Term) (left : ℕ) where
  -- There is one next term.
  one_next : {s u : Term} → step_of rules t ≡ some s → step_of rules t ≡ some u → s ≡ u
  one_next p q = cc

  outcome_once : (a b : Outcome) → Means (outcome_of a) rules left 0 t → Means (outcome_of b) rules left 0 t → a ≡ b
  unfolding Means outcome_of
  outcome_once Done Done p q = refl
  outcome_once Done Spent p (used, (u, is)) = absurd (found_nothing p is)
  outcome_once Done TooLarge p (remain, (u, is, large)) = absurd (found_nothing p is)
  outcome_once Spent Done (used, (u, is)) q = absurd (found_nothing q is)
  outcome_once Spent Spent p q = refl
  outcome_once Spent TooLarge (used, rest) (remain, rest') = absurd (omega arith)
  outcome_once TooLarge Done (remain, (u, is, large)) q = absurd (found_nothing q is)
  outcome_once TooLarge Spent (remain, rest) (used, rest') = absurd (omega arith)
  outcome_once TooLarge TooLarge p q = refl

  -- A run that ends here makes no next term.
  ends_or_goes : {n : ℕ} {before after : List ℕ} (a : Outcome) → Means (outcome_of a) rules left 0 t → NextIn arities rules t left n before after → ⊥
  unfolding Means outcome_of
  ends_or_goes Done p next = found_nothing p next.is_next
  ends_or_goes Spent (used, rest) next = let remain = next.remain in omega arith
  ends_or_goes TooLarge (remain, (u, is, large)) next =
      omega (arith, large, next.nodes, ap size (one_next is next.is_next))

  -- The next term's bytes, and how many they are.
  its_bytes_lem : {n : ℕ} {before after : List ℕ} (next : NextIn arities rules t left n before after) → take n after ≡ prefix next.next
  its_bytes_lem {n} {after = after} next =
      let same : n - 0 ≡ n = omega arith in
      sym (take-take n n after (omega arith)) ∙ ap (λ (m : ℕ). take m (take n after)) (sym same) ∙ at_prefix next.stands

  next_once :
      {n m : ℕ} {before after after' : List ℕ} → NextIn arities rules t left n before after → NextIn arities rules t left m before after' →
      (n ≡ m) × (after ≡ after')
  next_once {n} {m} {before} {after} {after'} a b =
      let same : a.next ≡ b.next = one_next a.is_next b.is_next in
      let long : n ≡ m = omega (arith, at_end_lem a.stands, at_end_lem b.stands, ap size same) in (
        long,
        sym (take-append-drop n after)
            ∙ ap₂ (λ (front behind : List ℕ). front ++ behind) (its_bytes_lem a ∙ ap prefix same ∙ sym (its_bytes_lem b))
            (a.kept ∙ ap (λ (k : ℕ). drop k before) long ∙ sym b.kept)
            ∙ take-append-drop m after',
      )

  told_once :
      (before after after' : List ℕ) (a b : Result ℕ Outcome) → Tells a arities rules t left before after → Tells b arities rules t left before after' →
      (a ≡ b) × (after ≡ after')
  unfolding Tells
  told_once before after after' (Err o) (Err o') (p, kept) (q, kept') = (ap (λ (x : Outcome). Err x) (outcome_once o o' p q), kept ∙ sym kept')
  told_once before after after' (Err o) (Ok n) (p, kept) next = absurd (ends_or_goes o p next)
  told_once before after after' (Ok n) (Err o) next (q, kept) = absurd (ends_or_goes o q next)
  told_once before after after' (Ok n) (Ok m) next next' = let (long, same) = next_once next next' in (ap (λ (k : ℕ). Ok k) long, same)

pub step_settled :
    (κs : Lfts 4) (a : Dens κs step_kinds.ps) (r r' : Result ℕ Outcome) (e e' : AtExit (ended_of 4 step_kinds.ps step_kinds.r) κs) →
    step.Pre κs a → step.Post κs a r e → step.Post κs a r' e' → (r ≡ r') × (e.1.1.1.0.now ≡ e'.1.1.1.0.now)
step_settled κs a r r' e e' (no_new, (whole, rest)) p p' = told_once _ _ _ _ _ _ _ r r' (p whole.term whole.stands) (p' whole.term whole.stands)
