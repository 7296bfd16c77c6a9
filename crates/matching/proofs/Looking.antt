-- The first place in postorder, looked for in prefix order: from a place to a bound some terms stand, and the step of the whole term is
-- taken in these terms or, if no rule fits in them, at the place remembered. Where no rule fits the root at hand, it is passed. Where one
-- does, the place is remembered and the bound falls to the end of the root's subterm: a fit inside comes earlier, all others come later.
-- Assumes nothing.
use Prim.Native.Nat.{ℕ, zero, suc, ◌+◌, ◌*◌, ◌<◌, ◌≤◌}
use mathlib.Core.List.{List}
use mathlib.Core.Option.{Option, none, some, map, or_else}
use mathlib.Core.Path.{◌≡◌, refl, sym, ap, subst₂, ◌∙◌}
use native.Mathlib.Omega.{arith}
use lib.ListN.{length}
use Rattle.std.specs.Prelude.{Option as Maybe, Some, None}
use Rattle.term.specs.Term.{Term, Args, var, app, nil, cons, size, sizes}
use Rattle.term.specs.Root.{arguments}
use Rattle.term.specs.At.{At, ArgsAt, none_at, and_at}
use Rattle.term.proofs.At.{FirstAt, joined, root_passed, at_arguments, args_end, args_first, args_none, args_long}
use Rattle.book.specs.Book.{Rule}
use Rattle.steps.specs.NextStep.{Taken, lowest, taken_at, taken_in, taken_in_args}
use Rattle.matching.specs.FirstPlace.{Applies, FirstPlace}
use Rattle.building.specs.declared.Fit.{Fit}
use Rattle.building.specs.declared.Place.{Place}

-- The first of several that there is.
or_assoc : {A : Type 0} (o p q : Option A) → or_else (or_else o p) q ≡ or_else o (or_else p q)
unfolding or_else
or_assoc none p q = refl
or_assoc (some a) p q = refl

or_none : {A : Type 0} (o : Option A) → or_else o none ≡ o
unfolding or_else
or_none none = refl
or_none (some a) = refl

or_some : {A : Type 0} (a : A) (o : Option A) → or_else (some a) o ≡ some a
unfolding or_else
or_some a o = refl

-- What is taken in terms, root by root.
module _ (rules : List Rule) where
  by_root : (p : ℕ) (t : Term) → taken_in rules p t ≡ or_else (taken_in_args rules (p + 2) (arguments t)) (taken_at rules p t)
  unfolding taken_in or_else arguments
  by_root p (var x) = refl
  by_root p (app f ts) = refl

  in_several : (p : ℕ) (t : Term) (ts : Args) → taken_in_args rules p (cons t ts) ≡ or_else (taken_in rules p t) (taken_in_args rules (p + 2 * size t) ts)
  unfolding taken_in
  in_several p t ts = refl

  in_none : (p : ℕ) → taken_in_args rules p nil ≡ none
  unfolding taken_in
  in_none p = refl

  root_size : (t : Term) → size t ≡ 1 + sizes (arguments t)
  unfolding size arguments
  root_size (var x) = omega arith
  root_size (app f ts) = omega arith

  in_joined : (p : ℕ) (ss us : Args) → taken_in_args rules p (joined ss us) ≡ or_else (taken_in_args rules p ss) (taken_in_args rules (p + 2 * sizes ss) us)
  unfolding joined taken_in or_else size
  in_joined p nil us = ap (λ (n : ℕ). taken_in_args rules n us) (omega arith)
  in_joined p (cons s ss) us =
      ap (or_else (taken_in rules p s)) (
      in_joined (p + 2 * size s) ss us
      ∙ ap (λ (n : ℕ). or_else (taken_in_args rules (p + 2 * size s) ss) (taken_in_args rules n us)) (omega arith)
      )
      ∙ sym (or_assoc (taken_in rules p s) (taken_in_args rules (p + 2 * size s) ss) (taken_in_args rules (p + 2 * (size s + sizes ss)) us))

  -- No rule fits the first term's root: its arguments join the others.
  passed : (p : ℕ) (t : Term) (us : Args) → lowest rules t ≡ none → taken_in_args rules p (cons t us) ≡ taken_in_args rules (p + 2) (joined (arguments t) us)
  unfolding taken_at
  passed p t us q =
      let inside = taken_in_args rules (p + 2) (arguments t) in
      in_several p t us
      ∙ ap (λ (o : Option Taken). or_else o (taken_in_args rules (p + 2 * size t) us)) (
      by_root p t ∙ ap (λ (o : Option ℕ). or_else inside (map (λ (i : ℕ). record { rule = i; place = p }) o)) q ∙ or_none inside
      )
      ∙ ap (λ (n : ℕ). or_else inside (taken_in_args rules n us)) (omega (arith, root_size t))
      ∙ sym (in_joined (p + 2) (arguments t) us)

  -- Some rule fits it: what is taken is inside its arguments or here.
  entered :
      (p : ℕ) (t : Term) (us : Args) (old : Option Taken) {i : ℕ} → lowest rules t ≡ some i →
      or_else (taken_in_args rules p (cons t us)) old ≡ or_else (taken_in_args rules (p + 2) (arguments t)) (some (record { rule = i; place = p }))
  unfolding taken_at
  entered p t us old {i} q =
      let inside = taken_in_args rules (p + 2) (arguments t) in
      let here : Option Taken = some (record { rule = i; place = p }) in
      let later = taken_in_args rules (p + 2 * size t) us in
      ap (λ (o : Option Taken). or_else o old) (
      in_several p t us
      ∙ ap (λ (o : Option Taken). or_else o later) (
      by_root p t ∙ ap (λ (o : Option ℕ). or_else inside (map (λ (i : ℕ). record { rule = i; place = p }) o)) q
      )
      )
      ∙ or_assoc (or_else inside here) later old
      ∙ or_assoc inside here (or_else later old)
      ∙ ap (or_else inside) (or_some (record { rule = i; place = p }) (or_else later old))

-- What a place that is remembered says: the step is taken there, and nothing where none is.
unfoldable pub Remembered : (bytes arities : List ℕ) (rules : List Rule) → Maybe Place → Option Taken → Type 0
Remembered bytes arities rules None old = old ≡ none
Remembered bytes arities rules (Some place) old =
    (s : Term) × At bytes arities place.at s place.end × Applies bytes arities rules s place.at place.fit ×
    (old ≡ some (record { rule = place.fit.rule; place = place.at }))

-- Looking for the step of t has come to a place.
pub record Looking (bytes arities : List ℕ) (rules : List Rule) (t : Term) (at bound : ℕ) (place : Maybe Place) : Type 0 where
  pub many : ℕ
  pub ahead : Args
  pub stand : ArgsAt bytes arities many at ahead bound
  pub old : Option Taken
  pub remembered : Remembered bytes arities rules place old
  pub decide : taken_in rules 0 t ≡ or_else (taken_in_args rules at ahead) old

pub look_begins :
    {bytes arities : List ℕ} {rules : List Rule} {t : Term} → At bytes arities 0 t (length bytes) →
    Looking bytes arities rules t 0 (length bytes) None
unfolding Remembered
look_begins {bytes} {rules = rules} {t = t} h = record {
  many = 1;
  ahead = cons t nil;
  stand = and_at h none_at;
  old = none;
  remembered = refl;
  decide =
      sym (or_none (taken_in rules 0 t))
      ∙ sym (
      or_none (taken_in_args rules 0 (cons t nil))
      ∙ in_several rules 0 t nil
      ∙ ap (or_else (taken_in rules 0 t)) (in_none rules (0 + 2 * size t))
      );
}

module _ {bytes arities : List ℕ} {rules : List Rule} {t : Term} {at bound : ℕ} {place : Maybe Place} (looking : Looking bytes arities rules t at bound place) where
  module _ (p : at < bound) where
    ahead_there : 0 < looking.many
    ahead_there = go looking.many refl
      where
        go : (n : ℕ) → looking.many ≡ n → 0 < looking.many
        go zero q = let r = (args_none looking.stand q).1 in absurd (omega arith)
        go (suc n) q = omega arith

    pub root : FirstAt bytes arities looking.many at looking.ahead bound
    root = args_first looking.stand ahead_there

    pub root_within : root.behind ≤ bound
    root_within = omega (arith, args_end root.others_stand)

    parted : taken_in rules 0 t ≡ or_else (taken_in_args rules at (cons root.first root.others)) looking.old
    parted = looking.decide ∙ ap (λ (ts : Args). or_else (taken_in_args rules at ts) looking.old) root.parted

    -- No rule fits here.
    look_on : lowest rules root.first ≡ none → Looking bytes arities rules t (at + 2) bound place
    look_on q = record {
      many = _;
      ahead = joined (arguments root.first) root.others;
      stand = root_passed root.first_stands root.others_stand refl;
      old = looking.old;
      remembered = looking.remembered;
      decide = parted ∙ ap (λ (o : Option Taken). or_else o looking.old) (passed rules at root.first root.others q);
    }

    -- A rule fits here.
    look_inside :
        (fit : Fit) → Applies bytes arities rules root.first at fit →
        Looking bytes arities rules t (at + 2) root.behind (Some (record { at = at; end = root.behind; fit = fit }))
    unfolding Remembered
    look_inside fit applies = record {
      many = _;
      ahead = arguments root.first;
      stand = at_arguments root.first_stands;
      old = some (record { rule = fit.rule; place = at });
      remembered = (root.first, root.first_stands, applies, refl);
      decide = parted ∙ entered rules at root.first root.others looking.old applies.is_lowest;
    }

    -- The bound and the place may go by other names, and so may the end.
    pub look_on_to :
        (bound' : ℕ) (place' : Maybe Place) → lowest rules root.first ≡ none → bound' ≡ bound → place' ≡ place →
        Looking bytes arities rules t (at + 2) bound' place'
    look_on_to bound' place' q b pl = subst₂ (λ (n : ℕ) (x : Maybe Place). Looking bytes arities rules t (at + 2) n x) (sym b) (sym pl) (look_on q)

    pub look_inside_to :
        (fit : Fit) (end bound' : ℕ) (place' : Maybe Place) → Applies bytes arities rules root.first at fit → end ≡ root.behind → bound' ≡ end →
        place' ≡ Some (record { at = at; end = end; fit = fit }) → Looking bytes arities rules t (at + 2) bound' place'
    look_inside_to fit end bound' place' applies ends b pl =
        subst₂ (λ (n : ℕ) (x : Maybe Place). Looking bytes arities rules t (at + 2) n x) (sym (b ∙ ends))
        (sym (pl ∙ ap {B = Maybe Place} (λ (n : ℕ). Some (record { at = at; end = n; fit = fit })) ends))
        (look_inside fit applies)

  -- Nothing is ahead.
  module _ (p : bound ≤ at) where
    nothing_ahead : looking.ahead ≡ nil
    nothing_ahead = (args_none looking.stand (omega (arith, args_long looking.stand))).0

    remembered_decides : taken_in rules 0 t ≡ looking.old
    unfolding or_else
    remembered_decides =
        looking.decide
        ∙ ap (λ (ts : Args). or_else (taken_in_args rules at ts) looking.old) nothing_ahead
        ∙ ap (λ (o : Option Taken). or_else o looking.old) (in_none rules at)

    pub look_ends : FirstPlace bytes arities rules t place
    unfolding Remembered FirstPlace
    look_ends = told place looking.remembered
      where
        told : (place : Maybe Place) → Remembered bytes arities rules place looking.old → FirstPlace bytes arities rules t place
        told None e = remembered_decides ∙ e
        told (Some place) (s, stands, applies, e) = record { is_taken = remembered_decides ∙ e; subterm = s; stands = stands; applies = applies }
