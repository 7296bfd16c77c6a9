-- The parts mirror the order: where C agrees with the test `exceeds` at smaller pairs of subterms and G with the ranks, all of D's parts
-- are true exactly if case (1) or (2) holds, and some of C's exactly if the order does. Assumes nothing.
use Prim.Native.Nat.{ℕ, suc, ◌+◌, ◌<◌}
use mathlib.Core.Bool.{Bool, true, false, ◌&&◌, ◌||◌, and-true, or-false, or_assoc, or_comm}
use mathlib.Core.List.{List, [], ◌∷◌, ◌++◌, map, Memᴰ}
use mathlib.Core.Logic.{◌≢◌}
use mathlib.Core.Path.{◌≡◌, refl, sym, ◌∙◌, ap, ap₂, subst}
use native.Mathlib.Nat.{le_of_eq}
use native.Mathlib.Omega.{arith}
use borrow.Author.Tests.{eqb-true, eqb-false, eq-eqb, le-ltb}
use lib.Dec.{T, ltb, ltb→lt, eqb, eqb→eq}
use lib.ListN.{length, get_or}
use Rattle.term.specs.Term.{Term, Args, var, app, nil, cons, size, count, same, over, overs}
use Rattle.reply.proofs.Tests.{and_left, and_right}
use Rattle.term.proofs.Same.{same→identical}
use Rattle.order.specs.Precedence.{above}
use Rattle.order.specs.Test.{every_arg, some_arg, decrease_at, reaches, case1_holds, case2_holds, case3_holds, at_root, exceeds}
use Rattle.order.proofs.Decides.{exceeds_decides, exceeds_var, exceeds_root}
use Rattle.order.proofs.PathOrder.{exceeds_irreflexive}
use Rattle.clauses.specs.Cnf.{Assignment}
use Rattle.clauses.specs.Numbering.{G}
use Rattle.clauses.specs.Blocks.{Numbered, numbered_args, subterms, Setting, CAt, DAt, parts_behind, parts_of_d, parts_of_c, some_identical}
use Rattle.clauses.proofs.Equations.{every_true, some_true, NodeEquations}
use Rattle.clauses.proofs.Subterms.{arguments_at, argument_within, argument_smaller, subterm_over}

-- Cases (1) and (2) of the order at the roots of s and t.
unfoldable pub root_cases : (ranks : List ℕ) (s t : Term) → Bool
root_cases ranks (var x) t = false
root_cases ranks (app f ss) t = case1_holds (exceeds ranks) f ss t || case2_holds (above ranks) (exceeds ranks) f ss t

-- C agrees with the order at this pair of subterms.
abbrev pub AgreesAt : Setting → Assignment → (ranks : List ℕ) (s t : Numbered) → Type 0
AgreesAt c α ranks s t = α (CAt c s.node t.node) ≡ exceeds ranks s.term t.term

-- C agrees with the order at the pairs that the parts at s and t name.
pub record AgreesBelow (c : Setting) (α : Assignment) (ranks : List ℕ) (s t : Numbered) : Type 0 where
  pub whole_with_argument : (b : Numbered) → Memᴰ b (arguments_at t.node t.term) → AgreesAt c α ranks s b
  pub argument_with_whole : (a : Numbered) → Memᴰ a (arguments_at s.node s.term) → AgreesAt c α ranks a t
  pub argument_with_argument :
      (a b : Numbered) → Memᴰ a (arguments_at s.node s.term) → Memᴰ b (arguments_at t.node t.term) → AgreesAt c α ranks a b

never_itself : (ranks : List ℕ) (t : Term) → exceeds ranks t t ≡ false
never_itself ranks t = go (exceeds ranks t t) refl
  where
    go : (b : Bool) → exceeds ranks t t ≡ b → exceeds ranks t t ≡ false
    go true e = absurd (exceeds_irreflexive ranks t ((exceeds_decides ranks t t).0 (rw e tt)))
    go false e = e

module _ (c : Setting) (α : Assignment) (ranks : List ℕ) where
  every_mirrored :
      (s : Numbered) (q y : ℕ) (ts : Args) → ((b : Numbered) → Memᴰ b (numbered_args y ts) → AgreesAt c α ranks s b) →
      every_true α (q ∷ map (λ (tⱼ : Numbered). CAt c s.node tⱼ.node) (numbered_args y ts)) ≡ (α q && every_arg (exceeds ranks s.term) ts)
  unfolding every_true every_arg numbered_args
  every_mirrored s q y nil agree = sym (and-true (α q))
  every_mirrored s q y (cons t ts) agree =
      ap (λ (b : Bool). α q && b)
      (every_mirrored s (CAt c s.node y) (y + size t) ts (λ b m. agree b (Memᴰ.tail m))
      ∙ ap (λ (b : Bool). b && every_arg (exceeds ranks s.term) ts) (agree (record { node = y; term = t }) (Memᴰ.head refl)))

  behind_mirrored :
      (s : Numbered) (x y : ℕ) (ss ts : Args) → count ss ≡ count ts →
      ((b : Numbered) → Memᴰ b (numbered_args y ts) → AgreesAt c α ranks s b) →
      ((a b : Numbered) → Memᴰ a (numbered_args x ss) → Memᴰ b (numbered_args y ts) → AgreesAt c α ranks a b) →
      every_true α (parts_behind c s.node (numbered_args x ss) (numbered_args y ts)) ≡ decrease_at (exceeds ranks) s.term ss ts
  unfolding every_true numbered_args parts_behind decrease_at count
  behind_mirrored s x y nil ts e whole agree = refl
  behind_mirrored s x y (cons a ss) nil e whole agree = refl
  behind_mirrored s x y (cons a ss) (cons b ts) e whole agree =
      go (same a b) refl
      (behind_mirrored s (x + size a) (y + size b) ss ts (omega arith)
      (λ b' m. whole b' (Memᴰ.tail m))
      (λ a' b' l m. agree a' b' (Memᴰ.tail l) (Memᴰ.tail m)))
    where
      lengths : eqb (count ss) (count ts) ≡ true
      lengths = eq-eqb (count ss) (count ts) (omega arith)

      go :
          (identical : Bool) → same a b ≡ identical →
          every_true α (parts_behind c s.node (numbered_args (x + size a) ss) (numbered_args (y + size b) ts)) ≡ decrease_at (exceeds ranks) s.term ss ts →
          every_true α (parts_behind c s.node (numbered_args x (cons a ss)) (numbered_args y (cons b ts)))
          ≡ decrease_at (exceeds ranks) s.term (cons a ss) (cons b ts)
      go true i rest =
          let nothing : exceeds ranks a b ≡ false = subst (λ (z : Term). exceeds ranks a z ≡ false) (same→identical a b (rw i tt)) (never_itself ranks a) in
          rw (parts_behind, i, nothing) rest
      go false i rest =
          rw (parts_behind, i, lengths)
          (every_mirrored s (CAt c x y) (y + size b) ts (λ b' m. whole b' (Memᴰ.tail m))
          ∙ ap (λ (v : Bool). v && every_arg (exceeds ranks s.term) ts)
          (agree (record { node = x; term = a }) (record { node = y; term = b }) (Memᴰ.head refl) (Memᴰ.head refl))
          ∙ simp (or-false, and-true))

module _ (arities : List ℕ) (f : ℕ) (ts : Args) (o : T (over arities (app f ts))) where
  declared : f < length arities
  unfolding over
  declared =
      ltb→lt f (length arities)
      (and_left (ltb f (length arities)) (eqb (get_or arities f 0) (count ts))
      (and_left (ltb f (length arities) && eqb (get_or arities f 0) (count ts)) (overs arities ts) o))

  arity_many : get_or arities f 0 ≡ count ts
  unfolding over
  arity_many =
      eqb→eq (get_or arities f 0) (count ts)
      (and_right (ltb f (length arities)) (eqb (get_or arities f 0) (count ts))
      (and_left (ltb f (length arities) && eqb (get_or arities f 0) (count ts)) (overs arities ts) o))

not_above_itself : (ranks : List ℕ) (f g : ℕ) → f ≡ g → above ranks f g ≡ false
unfolding above
not_above_itself ranks f g e = le-ltb (get_or ranks g 0) (get_or ranks f 0) (le_of_eq (ap (λ (h : ℕ). get_or ranks h 0) e))

module _ (c : Setting) (α : Assignment) (ranks arities : List ℕ)
    (compared : (f g : ℕ) → f < length arities → g < length arities → f ≢ g → α (G c.n c.k f g c.k) ≡ above ranks f g) where
  root_at :
      (u v : ℕ) (s t : Term) → T (over arities s) → T (over arities t) →
      AgreesBelow c α ranks (record { node = u; term = s }) (record { node = v; term = t }) →
      every_true α (parts_of_d c u v s t) ≡ root_cases ranks s t
  unfolding every_true parts_of_d root_cases case1_holds case2_holds arguments_at
  root_at u v (var x) t os ot agree = refl
  root_at u v (app f ss) (var y) os ot agree = refl
  root_at u v (app f ss) (app g ts) os ot agree = go (eqb f g) refl
    where
      go : (b : Bool) → eqb f g ≡ b → every_true α (parts_of_d c u v (app f ss) (app g ts)) ≡ root_cases ranks (app f ss) (app g ts)
      go true e =
          let lengths : count ss ≡ count ts = sym (arity_many arities f ss os) ∙ ap (λ (h : ℕ). get_or arities h 0) (eqb-true f g e) ∙ arity_many arities g ts ot in
          rw (parts_of_d, e, not_above_itself ranks f g (eqb-true f g e))
          (behind_mirrored c α ranks (record { node = u; term = app f ss }) (suc u) (suc v) ss ts lengths agree.whole_with_argument agree.argument_with_argument
          ∙ sym (or-false (decrease_at (exceeds ranks) (app f ss) ss ts)))
      go false e =
          rw (parts_of_d, e)
          (every_mirrored c α ranks (record { node = u; term = app f ss }) (G c.n c.k f g c.k) (suc v) ts agree.whole_with_argument
          ∙ ap (λ (b : Bool). b && every_arg (exceeds ranks (app f ss)) ts)
          (compared f g (declared arities f ss os) (declared arities g ts ot) (eqb-false f g e)))

  pub root_mirrored :
      (s t : Numbered) → T (over arities s.term) → T (over arities t.term) → AgreesBelow c α ranks s t →
      every_true α (parts_of_d c s.node t.node s.term t.term) ≡ root_cases ranks s.term t.term
  root_mirrored s t os ot agree = root_at s.node t.node s.term t.term os ot agree

-- Case (3), "identical to t or exceeds t", taken apart.
reaches_apart :
    (ranks : List ℕ) (t : Term) (ss : Args) →
    some_arg (reaches (exceeds ranks) t) ss ≡ (some_arg (λ sᵢ. same sᵢ t) ss || some_arg (λ sᵢ. exceeds ranks sᵢ t) ss)
unfolding some_arg reaches
reaches_apart ranks t nil = refl
reaches_apart ranks t (cons s ss) =
    rw (reaches_apart ranks t ss) (regroup (same s t) (exceeds ranks s t) (some_arg (λ sᵢ. same sᵢ t) ss) (some_arg (λ sᵢ. exceeds ranks sᵢ t) ss))
  where
    regroup : (a b d e : Bool) → (a || b || (d || e)) ≡ (a || d || (b || e))
    regroup true b d e = refl
    regroup false true true e = refl
    regroup false true false e = refl
    regroup false false d e = refl

at_root_lem : (ranks : List ℕ) (f : ℕ) (ss : Args) (t : Term) → exceeds ranks (app f ss) t ≡ (some_arg (reaches (exceeds ranks) t) ss || root_cases ranks (app f ss) t)
unfolding at_root case3_holds root_cases
at_root_lem ranks f ss t = exceeds_root ranks f ss t ∙ or_comm (root_cases ranks (app f ss) t) (some_arg (reaches (exceeds ranks) t) ss)

module _ (c : Setting) (α : Assignment) (ranks : List ℕ) where
  some_mirrored :
      (t : Numbered) (q x : ℕ) (ss : Args) → ((a : Numbered) → Memᴰ a (numbered_args x ss) → AgreesAt c α ranks a t) →
      some_true α (map (λ (sᵢ : Numbered). CAt c sᵢ.node t.node) (numbered_args x ss) ++ (q ∷ []))
      ≡ (some_arg (λ sᵢ. exceeds ranks sᵢ t.term) ss || α q)
  unfolding some_true some_arg numbered_args
  some_mirrored t q x nil agree = or-false (α q)
  some_mirrored t q x (cons s ss) agree =
      ap₂ ◌||◌
      (agree (record { node = x; term = s }) (Memᴰ.head refl))
      (some_mirrored t q (x + size s) ss (λ a m. agree a (Memᴰ.tail m)))
      ∙ sym (or_assoc (exceeds ranks s t.term) (some_arg (λ sᵢ. exceeds ranks sᵢ t.term) ss) (α q))

  whole_at :
      (u v : ℕ) (s t : Term) → AgreesBelow c α ranks (record { node = u; term = s }) (record { node = v; term = t }) →
      α (DAt c u v) ≡ root_cases ranks s t → exceeds ranks s t ≡ (some_identical s t || some_true α (parts_of_c c u v s))
  unfolding parts_of_c some_identical root_cases arguments_at some_true
  whole_at u v (var x) t agree root = exceeds_var ranks x t ∙ sym root ∙ sym (or-false (α (DAt c u v)))
  whole_at u v (app f ss) t agree root =
      let identical = some_arg (λ sᵢ. same sᵢ t) ss in
      let exceeding = some_arg (λ sᵢ. exceeds ranks sᵢ t) ss in
      at_root_lem ranks f ss t
      ∙ ap (λ (b : Bool). b || root_cases ranks (app f ss) t) (reaches_apart ranks t ss)
      ∙ or_assoc identical exceeding (root_cases ranks (app f ss) t)
      ∙ ap (λ (b : Bool). identical || (exceeding || b)) (sym root)
      ∙ ap (λ (b : Bool). identical || b)
      (sym (some_mirrored (record { node = v; term = t }) (DAt c u v) (suc u) ss agree.argument_with_whole))

  pub whole_mirrored :
      (s t : Numbered) → AgreesBelow c α ranks s t → α (DAt c s.node t.node) ≡ root_cases ranks s.term t.term →
      exceeds ranks s.term t.term ≡ (some_identical s.term t.term || some_true α (parts_of_c c s.node t.node s.term))
  whole_mirrored s t agree root = whole_at s.node t.node s.term t.term agree root

-- In a rule: the pairs that the parts name are pairs of the rule's subterms, and smaller.
pub agrees_below :
    (c : Setting) (α : Assignment) (ranks : List ℕ) (left right : Term) (s t : Numbered) →
    Memᴰ s (subterms 0 left) → Memᴰ t (subterms 0 right) →
    ((a b : Numbered) → Memᴰ a (subterms 0 left) → Memᴰ b (subterms 0 right) → size a.term + size b.term < size s.term + size t.term →
    AgreesAt c α ranks a b) →
    AgreesBelow c α ranks s t
agrees_below c α ranks left right s t ms mt agree =
    record {
      whole_with_argument = λ b mb. let h = argument_smaller t.node t.term b mb in agree s b ms (in_right b mb) (omega arith);
      argument_with_whole = λ a ma. let h = argument_smaller s.node s.term a ma in agree a t (in_left a ma) mt (omega arith);
      argument_with_argument =
          λ a b ma mb.
          let h = argument_smaller s.node s.term a ma in
          let l = argument_smaller t.node t.term b mb in
          agree a b (in_left a ma) (in_right b mb) (omega arith);
    }
  where
    in_left : (a : Numbered) → Memᴰ a (arguments_at s.node s.term) → Memᴰ a (subterms 0 left)
    in_left a ma = argument_within s a ma left 0 ms

    in_right : (b : Numbered) → Memᴰ b (arguments_at t.node t.term) → Memᴰ b (subterms 0 right)
    in_right b mb = argument_within t b mb right 0 mt

-- Where C is the order's test and D its cases (1) and (2) at all pairs of a rule's subterms, the equations of these nodes hold.
pub equations_where_agreeing :
    (c : Setting) (α : Assignment) (ranks arities : List ℕ) →
    ((f g : ℕ) → f < length arities → g < length arities → f ≢ g → α (G c.n c.k f g c.k) ≡ above ranks f g) →
    (left right : Term) → T (over arities left) → T (over arities right) →
    ((s t : Numbered) → Memᴰ s (subterms 0 left) → Memᴰ t (subterms 0 right) → AgreesAt c α ranks s t) →
    ((s t : Numbered) → Memᴰ s (subterms 0 left) → Memᴰ t (subterms 0 right) →
    α (DAt c s.node t.node) ≡ root_cases ranks s.term t.term) →
    (s t : Numbered) → Memᴰ s (subterms 0 left) → Memᴰ t (subterms 0 right) → NodeEquations c α s t
equations_where_agreeing c α ranks arities compared left right ol or agree roots s t ms mt =
    let below = agrees_below c α ranks left right s t ms mt (λ a b ma mb smaller. agree a b ma mb) in
    record {
      root =
          roots s t ms mt
          ∙ sym (root_mirrored c α ranks arities compared s t (subterm_over arities s left 0 ol ms) (subterm_over arities t right 0 or mt) below);
      whole = agree s t ms mt ∙ whole_mirrored c α ranks s t below (roots s t ms mt);
    }
