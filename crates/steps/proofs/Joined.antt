-- Argument lists one after another: their bytes, what a replacement makes of them, and where variables occur. A symbol that both sides have is passed
-- without changing either. Assumes nothing.
use Prim.Native.Nat.{ℕ}
use mathlib.Core.List.{List, ◌++◌, append_assoc}
use mathlib.Core.Logic.{◌↔◌, ◌⊎◌, inl, inr, ⊎_elim}
use mathlib.Core.Path.{◌≡◌, refl, sym, ap, ap₂, ◌∙◌}
use native.Mathlib.Omega.{arith}
use Rattle.term.specs.Term.{Term, Args, var, app, nil, cons, count}
use Rattle.term.specs.Root.{arguments}
use Rattle.term.specs.Prefix.{prefix, prefixes}
use Rattle.term.specs.Replacement.{Replacement, replace, replace_all, OccursIn, it, under, first, later}
use Rattle.order.proofs.Kept.{count_replaced}
use Rattle.term.proofs.At.{joined}

pub prefixes_joined : (ss ts : Args) → prefixes (joined ss ts) ≡ prefixes ss ++ prefixes ts
unfolding prefix joined
prefixes_joined nil ts = refl
prefixes_joined (cons s ss) ts = ap (λ (w : List ℕ). prefix s ++ w) (prefixes_joined ss ts) ∙ sym (append_assoc (prefix s) (prefixes ss) (prefixes ts))

pub replace_all_joined : (σ : Replacement) (ss ts : Args) → replace_all σ (joined ss ts) ≡ joined (replace_all σ ss) (replace_all σ ts)
unfolding replace joined
replace_all_joined σ nil ts = refl
replace_all_joined σ (cons s ss) ts = ap (cons (replace σ s)) (replace_all_joined σ ss ts)

joined_injective : (ss us ts vs : Args) → count ss ≡ count us → joined ss ts ≡ joined us vs → (ss ≡ us) × (ts ≡ vs)
unfolding joined count
joined_injective nil nil ts vs c p = (refl, p)
joined_injective nil (cons u us) ts vs c p = absurd (omega arith)
joined_injective (cons s ss) nil ts vs c p = absurd (omega arith)
joined_injective (cons s ss) (cons u us) ts vs c p =
    let heads : s ≡ u = cc in
    let tails : joined ss ts ≡ joined us vs = cc in
    let (q, r) = joined_injective ss us ts vs (omega arith) tails in
    (ap₂ cons heads q, r)

occurs_joined : {x : ℕ} (ss ts : Args) → OccursIn x (joined ss ts) → OccursIn x ss ⊎ OccursIn x ts
unfolding joined
occurs_joined nil ts o = inr o
occurs_joined (cons s ss) ts (first o) = inl (first o)
occurs_joined (cons s ss) ts (later o) = ⊎_elim (λ q. inl (later q)) (λ q. inr q) (occurs_joined ss ts o)

occurs_before : {x : ℕ} {ss : Args} (ts : Args) → OccursIn x ss → OccursIn x (joined ss ts)
unfolding joined
occurs_before ts (first o) = first o
occurs_before ts (later o) = later (occurs_before ts o)

occurs_behind : {x : ℕ} (ss : Args) {ts : Args} → OccursIn x ts → OccursIn x (joined ss ts)
unfolding joined
occurs_behind nil o = o
occurs_behind (cons s ss) o = later (occurs_behind ss o)

-- Two lists of as many terms, of which the replacement makes one the other.
abbrev pub Makes : Replacement → Args → Args → Type 0
Makes σ ls ss = replace_all σ ls ≡ ss

-- No variable is an application.
pub no_symbol : {A : Type 0} {x f : ℕ} {ts : Args} → var x ≡ app f ts → A
no_symbol p = let z : ◌≡◌ {A = ℕ} 0 1 = cc in absurd (omega arith)

-- Equal symbols are passed on both sides, and a symbol passes its variables on to its arguments.
pub roots_passed :
    (σ : Replacement) (f : ℕ) (s t : Term) (ls ss : Args) → s ≡ app f (arguments s) → t ≡ app f (arguments t) →
    count (arguments s) ≡ count (arguments t) → Makes σ (cons s ls) (cons t ss) ↔ Makes σ (joined (arguments s) ls) (joined (arguments t) ss)
unfolding replace arguments
roots_passed σ f (var x) t ls ss p q c = no_symbol p
roots_passed σ f (app g as') (var y) ls ss p q c = no_symbol q
roots_passed σ f (app g as') (app h bs) ls ss p q c = (
  λ made. replace_all_joined σ as' ls ∙ ap₂ joined (cc) (cc),
  λ made.
      let (front, rest) = joined_injective (replace_all σ as') bs (replace_all σ ls) ss (count_replaced σ as' ∙ c) (sym (replace_all_joined σ as' ls) ∙ made) in
      ap₂ cons (ap₂ app (cc) front) rest,
)

pub occurs_passed : (f x : ℕ) (t : Term) (ls : Args) → t ≡ app f (arguments t) → OccursIn x (cons t ls) ↔ OccursIn x (joined (arguments t) ls)
unfolding arguments
occurs_passed f x (var y) ls p = no_symbol p
occurs_passed f x (app g ts) ls p = (into, λ o. ⊎_elim (λ i. first (under i)) (λ i. later i) (occurs_joined ts ls o))
  where
    into : OccursIn x (cons (app g ts) ls) → OccursIn x (joined ts ls)
    into (first (under o)) = occurs_before ls o
    into (later o) = occurs_behind ts o

pub occurs_at_variable : {x y : ℕ} {ls : Args} → OccursIn y (cons (var x) ls) → OccursIn y ls ⊎ (x ≡ y)
occurs_at_variable (first it) = inr refl
occurs_at_variable (later o) = inl o
