-- The test `same` decides identity of terms. Assumes nothing.
use mathlib.Core.Path.{◌≡◌, refl, ap, ap₂, subst}
use lib.Dec.{T, eqb, eqb→eq, eqb_refl}
use Rattle.reply.proofs.Tests.{and_left, and_right, and_both}
use Rattle.term.specs.Term.{Term, Args, var, app, nil, cons, same, sames}

mutual
  unfolding same

  pub same→identical : (s t : Term) → T (same s t) → s ≡ t
  same→identical (var x) (var y) h = ap var (eqb→eq x y h)
  same→identical (var x) (app g ts) h = absurd h
  same→identical (app f ss) (var y) h = absurd h
  same→identical (app f ss) (app g ts) h =
      ap₂ app (eqb→eq f g (and_left (eqb f g) (sames ss ts) h)) (sames→identical ss ts (and_right (eqb f g) (sames ss ts) h))

  pub sames→identical : (ss ts : Args) → T (sames ss ts) → ss ≡ ts
  sames→identical nil nil h = refl
  sames→identical nil (cons t ts) h = absurd h
  sames→identical (cons s ss) nil h = absurd h
  sames→identical (cons s ss) (cons t ts) h =
      ap₂ cons (same→identical s t (and_left (same s t) (sames ss ts) h)) (sames→identical ss ts (and_right (same s t) (sames ss ts) h))

mutual
  unfolding same

  pub same_refl : (t : Term) → T (same t t)
  same_refl (var x) = eqb_refl x
  same_refl (app f ts) = and_both (eqb f f) (sames ts ts) (eqb_refl f) (sames_refl ts)

  pub sames_refl : (ts : Args) → T (sames ts ts)
  sames_refl nil = tt
  sames_refl (cons t ts) = and_both (same t t) (sames ts ts) (same_refl t) (sames_refl ts)

pub identical→same : (s t : Term) → s ≡ t → T (same s t)
identical→same s t p = subst (λ (u : Term). T (same s u)) p (same_refl s)
