-- The subterms of a side with their node numbers: with a subterm come its arguments, which are smaller and keep to the arities.
-- Assumes nothing.
use Prim.Native.Nat.{ℕ, suc, ◌+◌, ◌≤◌, ◌<◌}
use mathlib.Core.Bool.{◌&&◌}
use mathlib.Core.List.Memᴰ
use mathlib.Core.List.{
  List,
  [],
  Memᴰ,
}
use mathlib.Core.Path.{◌≡◌, refl, ap, subst}
use mathlib.Core.Logic.{inl, inr}
use native.Mathlib.Omega.{arith}
use lib.Dec.{T, ltb, eqb}
use lib.ListN.{length, get_or}
use Rattle.term.specs.Term.{Term, Args, var, app, nil, cons, size, sizes, count, over, overs}
use Rattle.reply.proofs.Tests.{and_left, and_right}
use Rattle.clauses.specs.Blocks.{Numbered, numbered_args, subterms, subterms_of}

-- The arguments of a term that stands at u.
unfoldable pub arguments_at : (u : ℕ) → Term → List Numbered
arguments_at u (var x) = []
arguments_at u (app f ts) = numbered_args (suc u) ts

pub itself_within : (u : ℕ) (t : Term) → Memᴰ (record { node = u; term = t }) (subterms u t)
unfolding subterms
itself_within u (var x) = Memᴰ.head refl
itself_within u (app f ts) = Memᴰ.head refl

arguments_first : (u : ℕ) (ts : Args) (a : Numbered) → Memᴰ a (numbered_args u ts) → Memᴰ a (subterms_of u ts)
unfolding subterms numbered_args
arguments_first u nil a m = absurd (Memᴰ.not-nil m)
arguments_first u (cons t ts) a (Memᴰ.head e) = Memᴰ.append_left (subterms_of (u + size t) ts) (Memᴰ.cast e (itself_within u t))
arguments_first u (cons t ts) a (Memᴰ.tail m) = Memᴰ.append_right (subterms u t) (arguments_first (u + size t) ts a m)

module _ (s a : Numbered) (argument : Memᴰ a (arguments_at s.node s.term)) where
  moved : (r : Numbered) → s ≡ r → Memᴰ a (arguments_at r.node r.term)
  moved r e = subst (λ (z : Numbered). Memᴰ a (arguments_at z.node z.term)) e argument

  mutual
    unfolding subterms arguments_at

    pub argument_within : (side : Term) (u : ℕ) → Memᴰ s (subterms u side) → Memᴰ a (subterms u side)
    argument_within (var x) u (Memᴰ.head e) = absurd (Memᴰ.not-nil (moved (record { node = u; term = var x }) e))
    argument_within (var x) u (Memᴰ.tail m) = absurd (Memᴰ.not-nil m)
    argument_within (app f ts) u (Memᴰ.head e) = Memᴰ.tail (arguments_first (suc u) ts a (moved (record { node = u; term = app f ts }) e))
    argument_within (app f ts) u (Memᴰ.tail m) = Memᴰ.tail (argument_within_of ts (suc u) m)

    argument_within_of : (ts : Args) (u : ℕ) → Memᴰ s (subterms_of u ts) → Memᴰ a (subterms_of u ts)
    argument_within_of nil u m = absurd (Memᴰ.not-nil m)
    argument_within_of (cons t ts) u m =
        elim (Memᴰ.append_cases (subterms u t) m) [
          | inl l ↦ Memᴰ.append_left (subterms_of (u + size t) ts) (argument_within t u l)
          | inr r ↦ Memᴰ.append_right (subterms u t) (argument_within_of ts (u + size t) r)
        ]

module _ (arities : List ℕ) (s : Numbered) where
  mutual
    unfolding subterms over

    pub subterm_over : (side : Term) (u : ℕ) → T (over arities side) → Memᴰ s (subterms u side) → T (over arities s.term)
    subterm_over (var x) u o m = rw (ap (λ (z : Numbered). z.term) (Memᴰ.eq_of_singleton m)) o
    subterm_over (app f ts) u o (Memᴰ.head e) = rw (ap (λ (z : Numbered). z.term) e) o
    subterm_over (app f ts) u o (Memᴰ.tail m) =
        subterm_over_of ts (suc u) (and_right (ltb f (length arities) && eqb (get_or arities f 0) (count ts)) (overs arities ts) o) m

    subterm_over_of : (ts : Args) (u : ℕ) → T (overs arities ts) → Memᴰ s (subterms_of u ts) → T (over arities s.term)
    subterm_over_of nil u o m = absurd (Memᴰ.not-nil m)
    subterm_over_of (cons t ts) u o m =
        elim (Memᴰ.append_cases (subterms u t) m) [
          | inl l ↦ subterm_over t u (and_left (over arities t) (overs arities ts) o) l
          | inr r ↦ subterm_over_of ts (u + size t) (and_right (over arities t) (overs arities ts) o) r
        ]

among_smaller : (u : ℕ) (ts : Args) (a : Numbered) → Memᴰ a (numbered_args u ts) → size a.term ≤ sizes ts
unfolding numbered_args size
among_smaller u nil a m = absurd (Memᴰ.not-nil m)
among_smaller u (cons t ts) a (Memᴰ.head e) = rw (ap (λ (z : Numbered). z.term) e) (omega arith)
among_smaller u (cons t ts) a (Memᴰ.tail m) = let h = among_smaller (u + size t) ts a m in omega arith

pub argument_smaller : (u : ℕ) (s : Term) (a : Numbered) → Memᴰ a (arguments_at u s) → size a.term < size s
unfolding arguments_at size
argument_smaller u (var x) a m = absurd (Memᴰ.not-nil m)
argument_smaller u (app f ts) a m = let h = among_smaller (suc u) ts a m in omega arith
