-- Two terms that stand in the bytes are compared by their roots' bytes: where these differ the terms do, and where they agree
-- the arguments decide. So they can be compared node by node. Assumes nothing.
use Prim.Native.Nat.{ℕ, ◌+◌, ◌-◌, ◌<◌}
use mathlib.Core.Bool.{Bool, true, false, ◌&&◌, and_assoc}
use mathlib.Core.List.{List}
use mathlib.Core.Path.{◌≡◌, refl, sym, ap, ap₂, ◌∙◌}
use native.Mathlib.Omega.{arith}
use lib.ListN.{get_or}
use borrow.Author.Tests.{eq-eqb, ne_eqb}
use Rattle.term.specs.Term.{Term, Args, nil, cons, count, same, sames}
use Rattle.term.specs.Root.{arguments}
use Rattle.term.specs.At.{At, ArgsAt, variable_at, symbol_at}
use Rattle.term.proofs.At.{FirstAt, joined, args_count, args_first, args_none, root_passed}

-- What roots whose bytes agree leave to compare.
pub record Agreeing (s t : Term) : Type 0 where
  pub arguments_decide : same s t ≡ sames (arguments s) (arguments t)
  pub as_many : count (arguments s) ≡ count (arguments t)

module _ {bytes arities : List ℕ} where
  pub kinds_differ :
      {u v : ℕ} {s t : Term} {d e : ℕ} → At bytes arities u s d → At bytes arities v t e → (get_or bytes u 0 ≡ get_or bytes v 0 → ⊥) → same s t ≡ false
  unfolding same
  kinds_differ (variable_at w k b q) (variable_at w' k' b' q') n = absurd (n (k ∙ sym k'))
  kinds_differ (variable_at w k b q) (symbol_at w' k' b' l' h') n = refl
  kinds_differ (symbol_at w k b l h) (variable_at w' k' b' q') n = refl
  kinds_differ (symbol_at w k b l h) (symbol_at w' k' b' l' h') n = absurd (n (k ∙ sym k'))

  pub numbers_differ :
      {u v : ℕ} {s t : Term} {d e : ℕ} → At bytes arities u s d → At bytes arities v t e → (get_or bytes (u + 1) 0 ≡ get_or bytes (v + 1) 0 → ⊥) →
      same s t ≡ false
  unfolding same
  numbers_differ (variable_at {x = x} w k b q) (variable_at {x = y} w' k' b' q') n = ne_eqb x y (λ p. n (b ∙ p ∙ sym b'))
  numbers_differ (variable_at w k b q) (symbol_at w' k' b' l' h') n = refl
  numbers_differ (symbol_at w k b l h) (variable_at w' k' b' q') n = refl
  numbers_differ (symbol_at {f = f} {ts = ss} w k b l h) (symbol_at {f = g} {ts = ts} w' k' b' l' h') n =
      ap (λ z. z && sames ss ts) (ne_eqb f g (λ p. n (b ∙ p ∙ sym b')))

  pub roots_agree :
      {u v : ℕ} {s t : Term} {d e : ℕ} → At bytes arities u s d → At bytes arities v t e → get_or bytes u 0 ≡ get_or bytes v 0 →
      get_or bytes (u + 1) 0 ≡ get_or bytes (v + 1) 0 → Agreeing s t
  unfolding same arguments
  roots_agree (variable_at {x = x} w k b q) (variable_at {x = y} w' k' b' q') p r =
      record { arguments_decide = eq-eqb x y (sym b ∙ r ∙ b'); as_many = refl }
  roots_agree (variable_at w k b q) (symbol_at w' k' b' l' h') p r = absurd (omega arith)
  roots_agree (symbol_at w k b l h) (variable_at w' k' b' q') p r = absurd (omega arith)
  roots_agree (symbol_at {f = f} {ts = ss} w k b l h) (symbol_at {f = g} {ts = ts} w' k' b' l' h') p r =
      record {
        arguments_decide = ap (λ z. z && sames ss ts) (eq-eqb f g (sym b ∙ r ∙ b'));
        as_many = args_count h ∙ ap (λ i. get_or arities i 0) (sym b ∙ r ∙ b') ∙ sym (args_count h');
      }

sames_joined : (us vs ss ts : Args) → count us ≡ count vs → sames (joined us ss) (joined vs ts) ≡ (sames us vs && sames ss ts)
unfolding same joined count
sames_joined nil nil ss ts p = refl
sames_joined nil (cons v vs) ss ts p = absurd (omega arith)
sames_joined (cons u us) nil ss ts p = absurd (omega arith)
sames_joined (cons u us) (cons v vs) ss ts p =
    ap (λ z. same u v && z) (sames_joined us vs ss ts (omega arith)) ∙ sym (and_assoc (same u v) (sames us vs) (sames ss ts))

-- So many terms stand at the left place and at the right, and the answer is whether they are identical, each to its other.
pub record Pairs (bytes arities : List ℕ) (many left right d e : ℕ) (answer : Bool) : Type 0 where
  pub lefts : Args
  pub rights : Args
  pub lefts_stand : ArgsAt bytes arities many left lefts d
  pub rights_stand : ArgsAt bytes arities many right rights e
  pub decide : answer ≡ sames lefts rights

module _ {bytes arities : List ℕ} {many left right d e : ℕ} {answer : Bool} (pairs : Pairs bytes arities many left right d e answer) where
  -- None is left: they were identical.
  pub all_passed : many ≡ 0 → true ≡ answer
  unfolding same
  all_passed p = sym (pairs.decide ∙ ap₂ sames (args_none pairs.lefts_stand p).0 (args_none pairs.rights_stand p).0)

  module _ (p : 0 < many) where
    pub on_the_left : FirstAt bytes arities many left pairs.lefts d
    on_the_left = args_first pairs.lefts_stand p

    pub on_the_right : FirstAt bytes arities many right pairs.rights e
    on_the_right = args_first pairs.rights_stand p

    parted : answer ≡ (same on_the_left.first on_the_right.first && sames on_the_left.others on_the_right.others)
    unfolding same
    parted = pairs.decide ∙ ap₂ sames on_the_left.parted on_the_right.parted

    pub first_differs : same on_the_left.first on_the_right.first ≡ false → false ≡ answer
    first_differs q = sym (parted ∙ ap (λ z. z && sames on_the_left.others on_the_right.others) q)

    -- Roots that agree are passed.
    pub pair_passed :
        (more : ℕ) → ((t : Term) (c : ℕ) → At bytes arities left t c → more ≡ count (arguments t)) → get_or bytes left 0 ≡ get_or bytes right 0 →
        get_or bytes (left + 1) 0 ≡ get_or bytes (right + 1) 0 → Pairs bytes arities (many - 1 + more) (left + 2) (right + 2) d e answer
    pair_passed more told k n =
        let l = on_the_left in
        let r = on_the_right in
        let agree = roots_agree l.first_stands r.first_stands k n in
        let as-told = told l.first l.behind l.first_stands in
        record {
          lefts = joined (arguments l.first) l.others;
          rights = joined (arguments r.first) r.others;
          lefts_stand = root_passed l.first_stands l.others_stand (omega arith);
          rights_stand = root_passed r.first_stands r.others_stand (omega (arith, agree.as_many));
          decide =
              parted
              ∙ ap (λ z. z && sames l.others r.others) agree.arguments_decide
              ∙ sym (sames_joined (arguments l.first) (arguments r.first) l.others r.others agree.as_many);
        }
