-- The numbered subterms of a side: each lies inside the side and is a term over the arities, and there are as many as nodes.
-- Assumes nothing.
use Prim.Native.Nat.{ℕ, suc, ◌+◌, ◌≤◌, ◌<◌}
use mathlib.Core.Bool.{◌&&◌}
use mathlib.Core.List.{List}
use mathlib.Core.Path.{◌≡◌, refl, ap, ◌∙◌}
use native.Mathlib.Omega.{arith}
use lib.Dec.{T, ltb, eqb, ltb→lt, eqb→eq}
use lib.ListN.{length, length-append, get_or}
use Rattle.reply.proofs.Every.{Every, every_append}
use Rattle.term.specs.Term.{Term, Args, var, app, nil, cons, size, sizes, count, over, overs}
use Rattle.reply.proofs.Tests.{and_left, and_right}
use Rattle.clauses.specs.Blocks.{Numbered, numbered_args, subterms, subterms_of}

-- What `over` says of a symbol and its arguments.
module _ (arities : List ℕ) where
  pub symbol_declared : (f : ℕ) (ts : Args) → T (over arities (app f ts)) → f < length arities
  unfolding over
  symbol_declared f ts h =
      ltb→lt f (length arities)
      (and_left (ltb f (length arities)) (eqb (get_or arities f 0) (count ts))
      (and_left (ltb f (length arities) && eqb (get_or arities f 0) (count ts)) (overs arities ts) h))

  pub arity_kept : (f : ℕ) (ts : Args) → T (over arities (app f ts)) → get_or arities f 0 ≡ count ts
  unfolding over
  arity_kept f ts h =
      eqb→eq (get_or arities f 0) (count ts)
      (and_right (ltb f (length arities)) (eqb (get_or arities f 0) (count ts))
      (and_left (ltb f (length arities) && eqb (get_or arities f 0) (count ts)) (overs arities ts) h))

  pub arguments_over : (f : ℕ) (ts : Args) → T (over arities (app f ts)) → T (overs arities ts)
  unfolding over
  arguments_over f ts h = and_right (ltb f (length arities) && eqb (get_or arities f 0) (count ts)) (overs arities ts) h

  first_over : (t : Term) (ts : Args) → T (overs arities (cons t ts)) → T (over arities t)
  unfolding over
  first_over t ts h = and_left (over arities t) (overs arities ts) h

  rest_over : (t : Term) (ts : Args) → T (overs arities (cons t ts)) → T (overs arities ts)
  unfolding over
  rest_over t ts h = and_right (over arities t) (overs arities ts) h

  -- A subterm that ends before the place `end`.
  pub record Inside (end : ℕ) (s : Numbered) : Type 0 where
    pub ends : s.node + size s.term ≤ end
    pub over_symbols : T (over arities s.term)

  pub arguments_inside : (ts : Args) (u end : ℕ) → u + sizes ts ≤ end → T (overs arities ts) → Every (Inside end) (numbered_args u ts)
  unfolding numbered_args size
  arguments_inside nil u end h o = tt
  arguments_inside (cons t ts) u end h o = (
    record { ends = omega arith; over_symbols = first_over t ts o },
    arguments_inside ts (u + size t) end (omega arith) (rest_over t ts o),
  )

  mutual
    unfolding subterms size

    pub subterms_inside : (t : Term) (u end : ℕ) → u + size t ≤ end → T (over arities t) → Every (Inside end) (subterms u t)
    subterms_inside (var x) u end h o = (record { ends = h; over_symbols = o }, tt)
    subterms_inside (app f ts) u end h o =
        (record { ends = h; over_symbols = o }, subterms_of_inside ts (suc u) end (omega arith) (arguments_over f ts o))

    subterms_of_inside : (ts : Args) (u end : ℕ) → u + sizes ts ≤ end → T (overs arities ts) → Every (Inside end) (subterms_of u ts)
    subterms_of_inside nil u end h o = tt
    subterms_of_inside (cons t ts) u end h o =
        every_append (Inside end) (subterms u t) (subterms_of (u + size t) ts)
        (subterms_inside t u end (omega arith) (first_over t ts o))
        (subterms_of_inside ts (u + size t) end (omega arith) (rest_over t ts o))

pub size_positive : (t : Term) → 1 ≤ size t
unfolding size
size_positive (var x) = omega arith
size_positive (app f ts) = omega arith

pub arguments_counted : (ts : Args) (u : ℕ) → length (numbered_args u ts) ≡ count ts
unfolding numbered_args count
arguments_counted nil u = refl
arguments_counted (cons t ts) u = ap suc (arguments_counted ts (u + size t))

mutual
  unfolding subterms size

  pub subterms_counted : (t : Term) (u : ℕ) → length (subterms u t) ≡ size t
  subterms_counted (var x) u = refl
  subterms_counted (app f ts) u = ap suc (subterms_of_counted ts (suc u))

  subterms_of_counted : (ts : Args) (u : ℕ) → length (subterms_of u ts) ≡ sizes ts
  subterms_of_counted nil u = refl
  subterms_of_counted (cons t ts) u =
      length-append (subterms u t) (subterms_of (u + size t) ts)
      ∙ (ap (λ (m : ℕ). m + length (subterms_of (u + size t) ts)) (subterms_counted t u) ∙ ap (λ (m : ℕ). size t + m) (subterms_of_counted ts (u + size t)))
