-- The step is made by the rule and at the place that are taken: in bytes, the rule's right side under the match stands where the subterm
-- stood. Where nothing is taken, there is no step. Assumes nothing.
use Prim.Native.Nat.{ℕ, suc, ◌+◌, ◌*◌, ◌-◌, ◌<◌}
use mathlib.Core.Bool.{Bool, true, false}
use mathlib.Core.List.{List, [], ◌∷◌, ◌++◌, append_assoc}
use mathlib.Core.Option.{Option, none, some, map, or_else, map-eq-some_iff, map-eq-none_iff, some-injective}
use mathlib.Core.Path.{◌≡◌, refl, sym, ap, ap₂, subst, ◌∙◌}
use native.Mathlib.Numerals.{add-one, add-two}
use native.Mathlib.Omega.{arith}
use lib.ListN.{length, get_or, take, drop, take-append-drop}
use lib.Seq.{take-suc, take-add, drop-drop}
use Rattle.term.specs.Term.{Term, Args, var, app, nil, cons, size}
use Rattle.term.specs.Prefix.{prefix, prefixes}
use Rattle.term.specs.At.{At, ArgsAt, variable_at, symbol_at, none_at, and_at}
use Rattle.term.proofs.At.{at_end_lem}
use Rattle.term.proofs.PrefixAt.{at_prefix}
use Rattle.book.specs.Book.{Rule}
use Rattle.steps.specs.Fits.{fits}
use Rattle.steps.specs.Step.{rule_of, chosen, applied, rewritten, step_of, step_of_args}
use Rattle.steps.specs.NextStep.{Taken, lowest, taken_at, taken_in, taken_in_args}
use Rattle.steps.proofs.Chosen.{found_nothing, chosen_rewrites, none_rewritten}
use Rattle.steps.proofs.OwnStep.{by_arguments, by_first_and_later}

abbrev Bytes : Type 0
Bytes = List ℕ

-- The lowest rule: the first that fits, by its number.
module _ (rule : Rule) (rules : List Rule) (s : Term) where
  pub front_lowest : fits rule.left s ≡ true → lowest (rule ∷ rules) s ≡ some 0
  unfolding lowest
  front_lowest p = rw (p, lowest)

  pub later_lowest : fits rule.left s ≡ false → lowest (rule ∷ rules) s ≡ map suc (lowest rules s)
  unfolding lowest
  later_lowest p = rw (p, lowest)

-- It is one of the rules, and the one that is chosen.
pub lowest_chosen : (rules : List Rule) (s : Term) → chosen rules s ≡ map (rule_of rules) (lowest rules s)
unfolding lowest chosen
lowest_chosen [] s = refl
lowest_chosen (rule ∷ rules) s = go (fits rule.left s) (lowest rules s) (lowest_chosen rules s)
  where
    go :
        (b : Bool) (o : Option ℕ) → chosen rules s ≡ map (rule_of rules) o →
        elim b [ true ↦ some rule | false ↦ chosen rules s ] ≡ map (rule_of (rule ∷ rules)) (elim b [ true ↦ some 0 | false ↦ map suc o ])
    go true o e = refl
    go false none e = e
    go false (some i) e = e

pub lowest_declared : (rules : List Rule) (s : Term) (i : ℕ) → lowest rules s ≡ some i → i < length rules
unfolding lowest
lowest_declared [] s i e = absurd (found_nothing refl e)
lowest_declared (rule ∷ rules) s i e = go (fits rule.left s) (lowest rules s) (lowest_declared rules s) e
  where
    go :
        (b : Bool) (o : Option ℕ) → ((j : ℕ) → o ≡ some j → j < length rules) → elim b [ true ↦ some 0 | false ↦ map suc o ] ≡ some i →
        i < length (rule ∷ rules)
    go true o later q = omega (arith, some-injective 0 i q)
    go false none later q = absurd (found_nothing refl q)
    go false (some j) later q = omega (arith, some-injective (suc j) i q, later j refl)

-- Where nothing is taken, there is no step.
module _ (rules : List Rule) where
  or_none : {A : Type 0} (o p : Option A) → or_else o p ≡ none → (o ≡ none) × (p ≡ none)
  unfolding or_else
  or_none none p e = (refl, e)
  or_none (some a) p e = absurd (found_nothing e refl)

  not_here : (p : ℕ) (s : Term) → taken_at rules p s ≡ none → rewritten rules s ≡ none
  unfolding taken_at
  not_here p s e = none_rewritten rules s (lowest_chosen rules s ∙ ap (map (rule_of rules)) ((map-eq-none_iff _ (lowest rules s)).0 e))

  mutual
    unfolding taken_in step_of

    pub not_taken : (p : ℕ) (t : Term) → taken_in rules p t ≡ none → step_of rules t ≡ none
    not_taken p (var x) e = not_here p (var x) e
    not_taken p (app f ts) e =
        let (inside, here) = or_none (taken_in_args rules (p + 2) ts) (taken_at rules p (app f ts)) e in
        by_arguments rules f ts none (none_taken (p + 2) ts inside) ∙ not_here p (app f ts) here

    none_taken : (p : ℕ) (ts : Args) → taken_in_args rules p ts ≡ none → step_of_args rules ts ≡ none
    none_taken p nil e = refl
    none_taken p (cons t ts) e =
        let (first, later) = or_none (taken_in rules p t) (taken_in_args rules (p + 2 * size t) ts) e in
        by_first_and_later rules t ts none none (not_taken p t first) (none_taken (p + 2 * size t) ts later)

-- The step in bytes: two bytes more, and what stands before and behind a term.
take_two : (bytes : Bytes) (at : ℕ) → at + 1 < length bytes → take (at + 2) bytes ≡ take at bytes ++ (get_or bytes at 0 ∷ get_or bytes (at + 1) 0 ∷ [])
take_two bytes at p =
    ap (λ (n : ℕ). take n bytes) (add-two at)
    ∙ take-suc bytes (suc at) 0 (omega arith)
    ∙ ap (λ (w : Bytes). w ++ (get_or bytes (suc at) 0 ∷ [])) (take-suc bytes at 0 (omega arith))
    ∙ append_assoc (take at bytes) (get_or bytes at 0 ∷ []) (get_or bytes (suc at) 0 ∷ [])
    ∙ ap (λ (n : ℕ). take at bytes ++ (get_or bytes at 0 ∷ get_or bytes n 0 ∷ [])) (sym (add-one at))

module _ {bytes arities : Bytes} where
  -- What stands up to a term's end, and from its start on.
  take_term : {u : ℕ} {t : Term} {e : ℕ} → At bytes arities u t e → take e bytes ≡ take u bytes ++ prefix t
  take_term {u} {t} {e} h =
      let there : e ≡ u + (e - u) = omega (arith, at_end_lem h) in
      ap (λ (n : ℕ). take n bytes) there ∙ take-add u (e - u) bytes ∙ ap (λ (w : Bytes). take u bytes ++ w) (at_prefix h)

  drop_term : {u : ℕ} {t : Term} {e : ℕ} → At bytes arities u t e → drop u bytes ≡ prefix t ++ drop e bytes
  drop_term {u} {t} {e} h =
      let there : u + (e - u) ≡ e = omega (arith, at_end_lem h) in
      sym (take-append-drop (e - u) (drop u bytes))
      ∙ ap₂ (λ (v w : Bytes). v ++ w) (at_prefix h) (drop-drop (e - u) u bytes ∙ ap (λ (n : ℕ). drop n bytes) there)

  drop_terms : {many u : ℕ} {ts : Args} {e : ℕ} → ArgsAt bytes arities many u ts e → drop u bytes ≡ prefixes ts ++ drop e bytes
  unfolding prefix
  drop_terms none_at = refl
  drop_terms (and_at {e = e} {t = t} {ts = ts} h hs) =
      drop_term h ∙ ap (λ (w : Bytes). prefix t ++ w) (drop_terms hs) ∙ sym (append_assoc (prefix t) (prefixes ts) (drop e bytes))

-- The subterm that stands where the step is taken; `next` in place of what stood from u to e makes the same bytes as the rule's right side
-- in place of the subterm.
pub record TakenFrom (bytes arities : Bytes) (rules : List Rule) (taken : Taken) (u e : ℕ) (next : Bytes) : Type 0 where
  pub subterm : Term
  pub behind : ℕ
  pub stands : At bytes arities taken.place subterm behind
  pub is_lowest : lowest rules subterm ≡ some taken.rule
  pub next_bytes :
      take u bytes ++ (next ++ drop e bytes) ≡ take taken.place bytes ++ (prefix (applied (rule_of rules taken.rule) subterm) ++ drop behind bytes)

-- Seen from further outside.
from_outside :
    {bytes arities : Bytes} {rules : List Rule} {taken : Taken} {u u' e e' : ℕ} {next next' : Bytes} →
    take u' bytes ++ (next' ++ drop e' bytes) ≡ take u bytes ++ (next ++ drop e bytes) → TakenFrom bytes arities rules taken u e next →
    TakenFrom bytes arities rules taken u' e' next'
from_outside p from = record {
  subterm = from.subterm;
  behind = from.behind;
  stands = from.stands;
  is_lowest = from.is_lowest;
  next_bytes = p ∙ from.next_bytes;
}

-- A variable has no arguments to be looked into.
at_variable : (rules : List Rule) (x : ℕ) → step_of rules (var x) ≡ rewritten rules (var x)
unfolding step_of
at_variable rules x = refl

module _ (bytes arities : Bytes) (rules : List Rule) (taken : Taken) where
  -- The step of a term, or of one of several, that stand from u to e.
  abbrev pub StepFrom : (u : ℕ) → Term → (e : ℕ) → Type 0
  StepFrom u t e = (next : Term) × (step_of rules t ≡ some next) × TakenFrom bytes arities rules taken u e (prefix next)

  abbrev StepsFrom : (u : ℕ) → Args → (e : ℕ) → Type 0
  StepsFrom u ts e = (next : Args) × (step_of_args rules ts ≡ some next) × TakenFrom bytes arities rules taken u e (prefixes next)

  taken_here :
      {u : ℕ} {t : Term} {e : ℕ} → At bytes arities u t e → taken_at rules u t ≡ some taken →
      (next : Term) × (rewritten rules t ≡ some next) × TakenFrom bytes arities rules taken u e (prefix next)
  unfolding taken_at
  taken_here {u} {t} {e} h q =
      let (i, is_lowest, is) = (map-eq-some_iff {B = Taken} (λ (i : ℕ). record { rule = i; place = u }) (lowest rules t)).0 q in
      subst
      (λ (x : Taken). (next : Term) × (rewritten rules t ≡ some next) × TakenFrom bytes arities rules x u e (prefix next)) is (
        applied (rule_of rules i) t,
        chosen_rewrites rules t (lowest_chosen rules t ∙ ap (map (rule_of rules)) is_lowest),
        record { subterm = t; behind = e; stands = h; is_lowest = is_lowest; next_bytes = refl },
      )

  -- The step is taken inside the arguments ..
  inside_taken :
      {u e f : ℕ} (ts : Args) → u + 1 < length bytes → get_or bytes u 0 ≡ 3 → get_or bytes (u + 1) 0 ≡ f →
      StepsFrom (u + 2) ts e → StepFrom u (app f ts) e
  unfolding prefix
  inside_taken {u} {e} {f} ts w k b (ts', is_next, from) =
      let root : take (u + 2) bytes ≡ take u bytes ++ (3 ∷ f ∷ []) = take_two bytes u w ∙ ap₂ (λ (i j : ℕ). take u bytes ++ (i ∷ j ∷ [])) k b in
      let further : take u bytes ++ ((3 ∷ f ∷ prefixes ts') ++ drop e bytes) ≡ take (u + 2) bytes ++ (prefixes ts' ++ drop e bytes) =
      sym (ap (λ (w : Bytes). w ++ (prefixes ts' ++ drop e bytes)) root ∙ append_assoc (take u bytes) (3 ∷ f ∷ []) (prefixes ts' ++ drop e bytes)) in
      (app f ts', by_arguments rules f ts (some ts') is_next, from_outside further from)

  -- .. in the first of them ..
  first_taken :
      {many u d e : ℕ} (t : Term) {ts : Args} → ArgsAt bytes arities many d ts e → StepFrom u t d → StepsFrom u (cons t ts) e
  unfolding prefix
  first_taken {u = u} {d = d} {e = e} t {ts} hs (t', is_next, from) =
      let further : take u bytes ++ ((prefix t' ++ prefixes ts) ++ drop e bytes) ≡ take u bytes ++ (prefix t' ++ drop d bytes) =
      ap (λ (w : Bytes). take u bytes ++ w) (append_assoc (prefix t') (prefixes ts) (drop e bytes) ∙ ap (λ (w : Bytes). prefix t' ++ w) (sym (drop_terms hs))) in
      (cons t' ts, by_first_and_later rules t ts (some t') (step_of_args rules ts) is_next refl, from_outside further from)

  -- .. or in a later one.
  later_taken :
      {u d e : ℕ} {t : Term} (ts : Args) → At bytes arities u t d → step_of rules t ≡ none → StepsFrom d ts e → StepsFrom u (cons t ts) e
  unfolding prefix
  later_taken {u} {d} {e} {t} ts h none_there (ts', is_next, from) =
      let further : take u bytes ++ ((prefix t ++ prefixes ts') ++ drop e bytes) ≡ take d bytes ++ (prefixes ts' ++ drop e bytes) =
      ap (λ (w : Bytes). take u bytes ++ w) (append_assoc (prefix t) (prefixes ts') (drop e bytes))
      ∙ sym (append_assoc (take u bytes) (prefix t) (prefixes ts' ++ drop e bytes))
      ∙ ap (λ (w : Bytes). w ++ (prefixes ts' ++ drop e bytes)) (sym (take_term h)) in
      (cons t ts', by_first_and_later rules t ts none (some ts') none_there is_next, from_outside further from)

  mutual
    unfolding taken_in or_else

    -- The step of the term that stands from u to e.
    pub taken_step :
        {u : ℕ} {t : Term} {e : ℕ} → At bytes arities u t e → taken_in rules u t ≡ some taken → StepFrom u t e
    taken_step (variable_at {x = x} w k b q) is = let (next, is_next, from) = taken_here (variable_at w k b q) is in (next, at_variable rules x ∙ is_next, from)
    taken_step (symbol_at {u = u} {f = f} {e = e} {ts = ts} w k b l h) is = go (taken_in_args rules (u + 2) ts) refl is (λ q. taken_steps h q)
      where
        go :
            (o : Option Taken) → taken_in_args rules (u + 2) ts ≡ o → or_else o (taken_at rules u (app f ts)) ≡ some taken →
            (taken_in_args rules (u + 2) ts ≡ some taken → StepsFrom (u + 2) ts e) → StepFrom u (app f ts) e
        go (some a) p r inside = inside_taken ts w k b (inside (p ∙ r))
        go none p r inside =
            let (next, is_next, from) = taken_here (symbol_at w k b l h) r in
            (next, by_arguments rules f ts none (none_taken rules (u + 2) ts p) ∙ is_next, from)

    taken_steps :
        {many u : ℕ} {ts : Args} {e : ℕ} → ArgsAt bytes arities many u ts e → taken_in_args rules u ts ≡ some taken → StepsFrom u ts e
    taken_steps none_at is = absurd (found_nothing refl is)
    taken_steps (and_at {u = u} {m = d} {e = e} {t = t} {ts = ts} h hs) is =
        go (taken_in rules u t) refl is (λ q. taken_step h q) (λ q. taken_steps hs q)
      where
        go :
            (o : Option Taken) → taken_in rules u t ≡ o → or_else o (taken_in_args rules (u + 2 * size t) ts) ≡ some taken →
            (taken_in rules u t ≡ some taken → StepFrom u t d) →
            (taken_in_args rules d ts ≡ some taken → StepsFrom d ts e) → StepsFrom u (cons t ts) e
        go (some a) p r first later = first_taken t hs (first (p ∙ r))
        go none p r first later =
            later_taken ts h (not_taken rules u t p) (later (ap (λ (n : ℕ). taken_in_args rules n ts) (at_end_lem h) ∙ r))
