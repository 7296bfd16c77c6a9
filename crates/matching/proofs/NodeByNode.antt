-- A left side is matched node by node, in prefix order. What is left of it and of the subterm, and what the table holds, say the same as
-- the whole: a replacement makes the left side identical to the subterm exactly if it makes what is left identical and agrees with
-- the table. So a node that differs refutes all replacements, and at the end the table itself is one. Assumes nothing.
use Prim.Native.Nat.{ℕ, zero, suc, ◌+◌, ◌*◌, ◌-◌, ◌<◌, ◌≤◌}
use mathlib.Core.Bool.{Bool, true, false}
use mathlib.Core.List.{List}
use mathlib.Core.Logic.{◌↔◌, ◌⊎◌, inl, inr, ⊎_elim}
use mathlib.Core.Path.{◌≡◌, refl, sym, ap, ap₂, subst, subst₂, ◌∙◌}
use native.Mathlib.Omega.{arith}
use lib.Dec.{T}
use lib.ListN.{get_or, replicate}
use Rattle.term.specs.Term.{Term, Args, var, app, nil, cons, size, sizes, count, same}
use Rattle.std.specs.Prelude.{Option, Some, None}
use Rattle.term.specs.Root.{symbol_of, arguments}
use Rattle.term.specs.Replacement.{Replacement, replace, replace_all, Occurs, OccursIn, it, first, later}
use Rattle.term.specs.At.{At, ArgsAt, none_at, and_at, Standing}
use Rattle.term.proofs.At.{FirstAt, VariableRoot, joined, at_unique, at_end_lem, args_first, args_none, args_long, root_passed, root_symbol, variable_root, arguments_of_symbol}
use Rattle.term.proofs.Same.{same→identical, identical→same}
use Rattle.steps.specs.Fits.{Fits, matching, fits}
use Rattle.building.specs.Right.{start_of, TermAt}
use Rattle.matching.specs.Table.{nothing_bound, met, bound_in, bound_in_args, table_of, if_same, Meets, TableAt, FitsAt}
use Rattle.building.specs.declared.Match.{Match}
use Rattle.steps.proofs.Fits.{matching_agrees, fits_decides}
use Rattle.steps.proofs.Joined.{Makes, roots_passed, occurs_passed, occurs_at_variable}
use Rattle.matching.proofs.Binding.{Bound, Agrees, bound_there, bind_tabled, bind_keeps, bind_agrees, met_bound}

-- The matching of l and s has come to a place on the left and one in the record.
pub record Going (book bytes arities : List ℕ) (l s : Term) (d e left place : ℕ) (whole table : Match) : Type 0 where
  pub many : ℕ
  pub lefts : Args
  pub subterms : Args
  pub lefts_stand : ArgsAt book arities many left lefts d
  pub subterms_stand : ArgsAt bytes arities many place subterms e
  pub small : (x : ℕ) → OccursIn x lefts → x < 16
  pub tabled : TableAt bytes arities table
  pub decide : (σ : Replacement) → (replace σ l ≡ s) ↔ (Makes σ lefts subterms × Agrees bytes arities table σ)
  pub covered : (x : ℕ) → Occurs x l → OccursIn x lefts ⊎ Bound table x
  pub rest : bound_in_args lefts subterms place table ≡ whole

-- No replacement: the left side does not fit.
never_fits : (l s : Term) → ((σ : Replacement) → replace σ l ≡ s → ⊥) → fits l s ≡ false
unfolding Fits
never_fits l s never = go (fits l s) refl
  where
    go : (b : Bool) → fits l s ≡ b → fits l s ≡ false
    go false q = q
    go true q = let (σ, p) = (fits_decides l s).0 (rw q tt) in absurd (never σ p)

some_fits : (l s : Term) (σ : Replacement) → replace σ l ≡ s → fits l s ≡ true
unfolding Fits
some_fits l s σ p = go (fits l s) refl
  where
    go : (b : Bool) → fits l s ≡ b → fits l s ≡ true
    go true q = q
    go false q = absurd (subst (λ (b : Bool). T b) q ((fits_decides l s).1 (σ, p)))

-- What the table comes to, node by node: the arguments of a symbol join the others, and a variable is met.
bound_all :
    (ls ss ls' ss' : Args) (p : ℕ) (table : Match) → count ls ≡ count ss →
    bound_in_args ls' ss' (p + 2 * sizes ss) (bound_in_args ls ss p table) ≡ bound_in_args (joined ls ls') (joined ss ss') p table
unfolding bound_in joined count size
bound_all nil nil ls' ss' p table q = ap (λ (n : ℕ). bound_in_args ls' ss' n table) (omega arith)
bound_all nil (cons s ss) ls' ss' p table q = absurd (omega arith)
bound_all (cons l ls) nil ls' ss' p table q = absurd (omega arith)
bound_all (cons l ls) (cons s ss) ls' ss' p table q =
    ap (λ (n : ℕ). bound_in_args ls' ss' n (bound_in_args ls ss (p + 2 * size s) (bound_in l s p table))) (omega arith)
    ∙ bound_all ls ss ls' ss' (p + 2 * size s) (bound_in l s p table) (omega arith)

bound_joined :
    {f g : ℕ} (l s : Term) (ls ss : Args) (p : ℕ) (table : Match) → l ≡ app f (arguments l) → s ≡ app g (arguments s) →
    count (arguments l) ≡ count (arguments s) →
    bound_in_args (cons l ls) (cons s ss) p table ≡ bound_in_args (joined (arguments l) ls) (joined (arguments s) ss) (p + 2) table
unfolding bound_in size
bound_joined {f} {g} l s ls ss p table q r same_count =
    let inside = bound_in_args (arguments l) (arguments s) (p + 2) table in
    ap₂ (λ (l' s' : Term). bound_in_args ls ss (p + 2 * size s') (bound_in l' s' p table)) q r
    ∙ ap (λ (n : ℕ). bound_in_args ls ss n inside) (omega arith)
    ∙ bound_all (arguments l) (arguments s) ls ss (p + 2) table same_count

bound_variable :
    {x : ℕ} (l s : Term) (ls ss : Args) (p : ℕ) (table : Match) → l ≡ var x →
    bound_in_args (cons l ls) (cons s ss) p table ≡ bound_in_args ls ss (p + 2 * size s) (met table x p)
unfolding bound_in
bound_variable l s ls ss p table q = ap (λ (l' : Term). bound_in_args ls ss (p + 2 * size s) (bound_in l' s p table)) q

-- The root's symbol.
module _ {f : ℕ} where
  of_symbol : (t : Term) → symbol_of t ≡ Some f → t ≡ app f (arguments t)
  unfolding symbol_of arguments
  of_symbol (var x) q = absurd cc
  of_symbol (app g ts) q = ap (λ (h : ℕ). app h ts) cc

  symbol_of_app : {t : Term} {ts : Args} → t ≡ app f ts → symbol_of t ≡ Some f
  unfolding symbol_of
  symbol_of_app q = rw q refl

module _ {book bytes arities : List ℕ} {l s : Term} {d e left place : ℕ} {whole table : Match} (going : Going book bytes arities l s d e left place whole table) where
  -- Where the left side goes on, there is a node on both sides.
  many_left : left < d → 0 < going.many
  many_left p = go going.many refl
    where
      go : (n : ℕ) → going.many ≡ n → 0 < going.many
      go zero q = let r = (args_none going.lefts_stand q).1 in absurd (omega arith)
      go (suc n) q = omega arith

  module _ (p : left < d) where
    pub on_left : FirstAt book arities going.many left going.lefts d
    on_left = args_first going.lefts_stand (many_left p)

    pub on_record : FirstAt bytes arities going.many place going.subterms e
    on_record = args_first going.subterms_stand (many_left p)

    -- What the replacement has to make of the two first terms and of the others.
    parted : (σ : Replacement) → (replace σ l ≡ s) ↔ (Makes σ (cons on_left.first on_left.others) (cons on_record.first on_record.others) × Agrees bytes arities table σ)
    parted σ =
        subst
        (λ ls. (replace σ l ≡ s) ↔ (Makes σ ls (cons on_record.first on_record.others) × Agrees bytes arities table σ))
        on_left.parted
        (subst
        (λ ss. (replace σ l ≡ s) ↔ (Makes σ going.lefts ss × Agrees bytes arities table σ))
        on_record.parted
        (going.decide σ))

    rest_parted : bound_in_args (cons on_left.first on_left.others) (cons on_record.first on_record.others) place table ≡ whole
    rest_parted = sym (ap₂ (λ (ls ss : Args). bound_in_args ls ss place table) on_left.parted on_record.parted) ∙ going.rest

    -- Another symbol, or none: no replacement helps.
    module _ {f : ℕ} (symbol : symbol_of on_left.first ≡ Some f) where
      pub symbol_differs : (symbol_of on_record.first ≡ Some f → ⊥) → fits l s ≡ false
      unfolding replace
      symbol_differs differs =
          never_fits l s
          (λ σ q.
          let (made, agrees) = (parted σ).0 q in
          let there : on_record.first ≡ app f (replace_all σ (arguments on_left.first)) = cc (ap (replace σ) (of_symbol on_left.first symbol)) in
          differs (symbol_of_app there))

      -- Equal symbols on both sides.
      pub symbol_passed : symbol_of on_record.first ≡ Some f → Going book bytes arities l s d e (left + 2) (place + 2) whole table
      symbol_passed same = record {
        many = count (arguments on_left.first) + (going.many - 1);
        lefts = joined (arguments on_left.first) on_left.others;
        subterms = joined (arguments on_record.first) on_record.others;
        lefts_stand = root_passed on_left.first_stands on_left.others_stand refl;
        subterms_stand = root_passed on_record.first_stands on_record.others_stand (omega (arith, as_many));
        small = λ x o. going.small x (rw on_left.parted ((occurs x).1 o));
        tabled = going.tabled;
        decide = λ σ. (
          λ q. let (made, agrees) = (parted σ).0 q in ((passed σ).0 made, agrees),
          λ (made, agrees). (parted σ).1 ((passed σ).1 made, agrees),
        );
        covered = λ x o. ⊎_elim (λ i. inl ((occurs x).0 (rw on_left.parted at i))) inr (going.covered x o);
        rest =
            sym
            (bound_joined on_left.first on_record.first on_left.others on_record.others place table (of_symbol on_left.first symbol)
            (of_symbol on_record.first same) as_many)
            ∙ rest_parted;
      }
        where
          as_many : count (arguments on_left.first) ≡ count (arguments on_record.first)
          as_many = arguments_of_symbol on_left.first_stands symbol ∙ sym (arguments_of_symbol on_record.first_stands same)

          passed :
              (σ : Replacement) →
              Makes σ (cons on_left.first on_left.others) (cons on_record.first on_record.others) ↔
              Makes σ (joined (arguments on_left.first) on_left.others) (joined (arguments on_record.first) on_record.others)
          passed σ =
              roots_passed σ f on_left.first on_record.first on_left.others on_record.others (of_symbol on_left.first symbol)
              (of_symbol on_record.first same) as_many

          occurs : (x : ℕ) → OccursIn x (cons on_left.first on_left.others) ↔ OccursIn x (joined (arguments on_left.first) on_left.others)
          occurs x = occurs_passed f x on_left.first on_left.others (of_symbol on_left.first symbol)

    -- A variable on the left, by its number: everything in the record fits it, once.
    module _ (none : symbol_of on_left.first ≡ None) {x : ℕ} (number : x ≡ get_or book (left + 1) 0) where
      root : VariableRoot book left on_left.first on_left.behind
      root = variable_root on_left.first_stands (λ k. cc (root_symbol on_left.first_stands k))

      variable : on_left.first ≡ var x
      variable = root.variable ∙ ap var (sym number)

      -- It has a place in the table.
      pub variable_small : x < 16
      variable_small = going.small x (rw on_left.parted (first {t = on_left.first} (rw variable it)))

      -- What a replacement has to make of the variable and of the others.
      at_variable :
          (σ : Replacement) →
          (replace σ l ≡ s) ↔ ((σ x ≡ on_record.first) × Makes σ on_left.others on_record.others × Agrees bytes arities table σ)
      unfolding replace on_record
      at_variable σ = (
        λ q. let (made, agrees) = (parted σ).0 q in (cc variable, cc, agrees),
        λ (here, others, agrees). (parted σ).1 (cc variable, agrees),
      )

      -- It is passed with its term, by a table that agrees with the old and has it.
      variable_passed :
          (after : Match) → TableAt bytes arities after →
          ((σ : Replacement) → ((σ x ≡ on_record.first) × Agrees bytes arities table σ) ↔ Agrees bytes arities after σ) →
          ((y : ℕ) → Bound table y → Bound after y) → Bound after x → met table x place ≡ after →
          Going book bytes arities l s d e (left + 2) on_record.behind whole after
      variable_passed after tabled agreeing more bound is = record {
        many = going.many - 1;
        lefts = on_left.others;
        subterms = on_record.others;
        lefts_stand = subst (λ u. ArgsAt book arities (going.many - 1) u on_left.others d) root.ends on_left.others_stand;
        subterms_stand = on_record.others_stand;
        small = λ y o. going.small y (rw on_left.parted (later o));
        tabled = tabled;
        decide = λ σ. (
          λ q. let (here, others, agrees) = (at_variable σ).0 q in (others, (agreeing σ).0 (here, agrees)),
          λ (others, agrees). let (here, old) = (agreeing σ).1 agrees in (at_variable σ).1 (here, others, old),
        );
        covered = λ y o. ⊎_elim (λ i. split y (rw on_left.parted at i)) (λ b. inr (more y b)) (going.covered y o);
        rest =
            ap₂ (λ (n : ℕ) (m : Match). bound_in_args on_left.others on_record.others n m) (at_end_lem on_record.first_stands) (sym is)
            ∙ sym (bound_variable on_left.first on_record.first on_left.others on_record.others place table variable)
            ∙ rest_parted;
      }
        where
          split : (y : ℕ) → OccursIn y (cons on_left.first on_left.others) → OccursIn y on_left.others ⊎ Bound after y
          split y o = ⊎_elim inl (λ (q : x ≡ y). inr (rw (← q) bound)) (occurs_at_variable (rw variable at o))

      -- Where it is free it is bound here ..
      variable_bound : start_of table x ≡ None → Going book bytes arities l s d e (left + 2) on_record.behind whole (met table x place)
      variable_bound free =
          variable_passed
          (met table x place)
          (bind_tabled table x place free going.tabled variable_small (record { term = on_record.first; behind = on_record.behind; stands = on_record.first_stands }))
          (λ σ. bind_agrees table x place free going.tabled variable_small on_record.first_stands σ)
          (λ y b. bind_keeps table x place free going.tabled variable_small y b)
          (bound_there table x place free going.tabled variable_small)
          refl

      -- .. and where it is bound, to t, the term here has to be t.
      module _ {start : ℕ} (bound : start_of table x ≡ Some start) {t : Term} {c : ℕ} (stands : At bytes arities start t c) where
        variable_same : same t on_record.first ≡ true → Going book bytes arities l s d e (left + 2) on_record.behind whole table
        variable_same q =
            let identical : t ≡ on_record.first = same→identical t on_record.first (rw q tt) in
            variable_passed
            table
            going.tabled
            (λ σ. (λ (here, agrees). agrees, λ agrees. (agrees x start t c bound stands ∙ identical, agrees)))
            (λ y b. b)
            (record { start = start; is = bound })
            (met_bound table x place bound)

        variable_differs : same t on_record.first ≡ false → fits l s ≡ false
        variable_differs q =
            never_fits l s
            (λ σ made.
            let (here, others, agrees) = (at_variable σ).0 made in
            subst (λ (b : Bool). T b) q (identical→same t on_record.first (sym (agrees x start t c bound stands) ∙ here)))

      -- So the table after it tells.
      pub variable_fits : {after : Match} → Meets bytes arities table x place (Some after) → Going book bytes arities l s d e (left + 2) on_record.behind whole after
      unfolding if_same
      variable_fits {after} meets = go (start_of table x) refl
        where
          On : Match → Type 0
          On m = Going book bytes arities l s d e (left + 2) on_record.behind whole m

          compared : {start : ℕ} → start_of table x ≡ Some start → (standing : Standing bytes arities start) (b : Bool) → same standing.term on_record.first ≡ b → On after
          compared q standing true r =
              let is : table ≡ after = cc (meets.bound _ q standing.term on_record.first standing.behind on_record.behind standing.stands on_record.first_stands, r) in
              subst On is (variable_same q standing.stands r)
          compared q standing false r =
              absurd (cc (meets.bound _ q standing.term on_record.first standing.behind on_record.behind standing.stands on_record.first_stands, r))

          go : (o : Option ℕ) → start_of table x ≡ o → On after
          go None q = let is : met table x place ≡ after = cc (meets.free q) in subst On is (variable_bound q)
          go (Some start) q = let standing = going.tabled.stands x start q in compared q standing (same standing.term on_record.first) refl

      pub variable_fails : Meets bytes arities table x place None → fits l s ≡ false
      unfolding if_same
      variable_fails meets = go (start_of table x) refl
        where
          compared : {start : ℕ} → start_of table x ≡ Some start → (standing : Standing bytes arities start) (b : Bool) → same standing.term on_record.first ≡ b → fits l s ≡ false
          compared q standing false r = variable_differs q standing.stands r
          compared q standing true r =
              absurd (cc (meets.bound _ q standing.term on_record.first standing.behind on_record.behind standing.stands on_record.first_stands, r))

          go : (o : Option ℕ) → start_of table x ≡ o → fits l s ≡ false
          go None q = absurd (cc (meets.free q))
          go (Some start) q = let standing = going.tabled.stands x start q in compared q standing (same standing.term on_record.first) refl

  -- Nothing is left: the table is a replacement that makes the left side identical to the subterm.
  module _ (p : d ≤ left) where
    none_left : going.many ≡ 0
    none_left = omega (arith, args_long going.lefts_stand)

    no_lefts : going.lefts ≡ nil
    no_lefts = (args_none going.lefts_stand none_left).0

    no_subterms : going.subterms ≡ nil
    no_subterms = (args_none going.subterms_stand none_left).0

    held : (x : ℕ) (o : Option ℕ) → start_of table x ≡ o → Term
    held x (Some start) q = (going.tabled.stands x start q).term
    held x None q = var x

    by_table : Replacement
    by_table x = held x (start_of table x) refl

    by_table_agrees : Agrees bytes arities table by_table
    unfolding by_table held
    by_table_agrees x start t c b stands = go (start_of table x) refl
      where
        go : (o : Option ℕ) (q : start_of table x ≡ o) → held x o q ≡ t
        go (Some place) q = let same : start ≡ place = cc in (at_unique (going.tabled.stands x place q).stands (rw same at stands)).0
        go None q = absurd cc

    makes : replace by_table l ≡ s
    unfolding replace
    makes = (going.decide by_table).1 (ap (replace_all by_table) no_lefts ∙ sym no_subterms, by_table_agrees)

    nowhere : {A : Type 0} {x : ℕ} → OccursIn x going.lefts → A
    nowhere {A} {x} o = elim (subst (λ ls. OccursIn x ls) no_lefts o) [ ]

    rest_none : table ≡ whole
    unfolding bound_in
    rest_none = ap (λ (ls : Args). bound_in_args ls going.subterms place table) (sym no_lefts) ∙ going.rest

    pub all_passed : (at : ℕ) → whole ≡ table_of l s at → FitsAt bytes arities l s at table
    all_passed at is = record {
      fitting = some_fits l s by_table makes;
      whole = rest_none ∙ is;
      variables = λ x o. ⊎_elim nowhere (λ b. there x o b) (going.covered x o);
    }
      where
        there : (x : ℕ) → Occurs x l → Bound table x → TermAt bytes arities (start_of table x) (matching l s x)
        there x o b =
            let standing = going.tabled.stands x b.start b.is in
            record {
              place = b.start;
              bound = b.is;
              behind = standing.behind;
              stands = rw (matching_agrees l s by_table makes x o ∙ by_table_agrees x b.start standing.term standing.behind b.is standing.stands) standing.stands;
            }

-- The same places and the same table under other names.
pub renamed :
    {book bytes arities : List ℕ} {l s : Term} {d e left place place' : ℕ} {whole table table' : Match} → table' ≡ table → place' ≡ place →
    Going book bytes arities l s d e left place whole table → Going book bytes arities l s d e left place' whole table'
renamed {book} {bytes} {arities} {l} {s} {d} {e} {left} {whole = whole} p q going = subst₂ (λ m u. Going book bytes arities l s d e left u whole m) (sym p) (sym q) going

-- The start: nothing is bound.
never_bound : (n x : ℕ) → get_or {A = Option ℕ} (replicate n None) x None ≡ None
never_bound zero x = refl
never_bound (suc n) zero = refl
never_bound (suc n) (suc x) = never_bound n x

nothing_bound_lem : (x : ℕ) {start : ℕ} → start_of nothing_bound x ≡ Some start → ⊥
nothing_bound_lem x q = cc (never_bound 16 x)

pub begins :
    {book bytes arities : List ℕ} {l s : Term} {d e left place : ℕ} → At book arities left l d → ((x : ℕ) → Occurs x l → x < 16) →
    At bytes arities place s e → Going book bytes arities l s d e left place (table_of l s place) nothing_bound
unfolding replace bound_in
begins {l = l} {s = s} h small k = record {
  many = 1;
  lefts = cons l nil;
  subterms = cons s nil;
  lefts_stand = and_at h none_at;
  subterms_stand = and_at k none_at;
  small = λ x o. small x (only o);
  tabled = record { places = refl; stands = λ x start b. absurd (nothing_bound_lem x b) };
  decide = λ σ. (λ q. (ap (λ z. cons z nil) q, λ x start t c b stands. absurd (nothing_bound_lem x b)), λ (made, agrees). cc);
  covered = λ x o. inl (first o);
  rest = refl;
}
  where
    only : {x : ℕ} → OccursIn x (cons l nil) → Occurs x l
    only (first o) = o
    only (later x5) = elim x5 [ ]
