-- A right side under a replacement, node by node in prefix order: the bytes that are left to lay begin with the symbol's two bytes, or
-- with the bytes of the term that replaces the variable. Assumes nothing.
use Prim.Native.Nat.{ℕ, zero, suc, ◌+◌, ◌*◌, ◌-◌, ◌<◌, ◌≤◌}
use mathlib.Core.Bool.{true, false}
use mathlib.Core.List.{List, [], ◌∷◌, ◌++◌, append-nil}
use mathlib.Core.Path.{◌≡◌, refl, sym, ap, ap₂, subst, ◌∙◌}
use native.Mathlib.Decide.{ℕ_discrete}
use native.Mathlib.Omega.{arith}
use lib.ListN.{length, get_or, length-append}
use Rattle.std.specs.Prelude.{Option, Some, IsSome, is_some}
use Rattle.term.specs.Term.{Term, Args, var, app, nil, cons, size, sizes}
use Rattle.term.specs.Root.{symbol_of, arguments}
use Rattle.term.specs.Replacement.{Replacement, replace, replace_all, Occurs, OccursIn, it, under, first, later}
use Rattle.term.specs.Prefix.{prefix, prefixes}
use Rattle.term.specs.At.{At, ArgsAt, none_at, and_at, Standing}
use Rattle.term.proofs.At.{FirstAt, joined, at_root_lem, at_end_lem, at_within, args_first, args_none, args_long, root_passed, root_symbol, root_variable, symbol_root, variable_root}
use Rattle.term.proofs.PrefixAt.{prefix_length}
use Rattle.building.specs.Right.{start_of, TermAt, Held}
use Rattle.building.specs.declared.Match.{Match}
use Rattle.steps.proofs.Joined.{prefixes_joined, no_symbol, replace_all_joined, occurs_passed}

-- The terms behind each other, from a node of the right side on: their bytes are still to be laid.
pub record Ahead (book arities : List ℕ) (r : Term) (σ : Replacement) (d right : ℕ) (rest : List ℕ) : Type 0 where
  pub many : ℕ
  pub rights : Args
  pub stand : ArgsAt book arities many right rights d
  pub occurring : (x : ℕ) → OccursIn x rights → Occurs x r
  pub bytes : prefixes (replace_all σ rights) ≡ rest

pub all_ahead : {book arities : List ℕ} {r : Term} {u d : ℕ} (σ : Replacement) → At book arities u r d → Ahead book arities r σ d u (prefix (replace σ r))
unfolding prefix replace
all_ahead {r = r} σ h = record {
  many = 1;
  rights = cons r nil;
  stand = and_at h none_at;
  occurring = λ x o. only o;
  bytes = append-nil (prefix (replace σ r));
}
  where
    only : {x : ℕ} → OccursIn x (cons r nil) → Occurs x r
    only (first o) = o
    only (later x4) = elim x4 [ ]

symbol_bytes :
    (σ : Replacement) (f : ℕ) (t : Term) (ts : Args) → t ≡ app f (arguments t) →
    prefixes (replace_all σ (cons t ts)) ≡ 3 ∷ f ∷ prefixes (replace_all σ (joined (arguments t) ts))
unfolding prefix replace arguments
symbol_bytes σ f (var x) ts p = no_symbol p
symbol_bytes σ f (app g ss) ts p =
    let same : g ≡ f = cc in
    ap₂ (λ (i : ℕ) (w : List ℕ). 3 ∷ i ∷ w) same
    (sym (prefixes_joined (replace_all σ ss) (replace_all σ ts)) ∙ ap prefixes (sym (replace_all_joined σ ss ts)))

module _ {book arities : List ℕ} {r : Term} {σ : Replacement} {d right : ℕ} {rest : List ℕ} (ahead : Ahead book arities r σ d right rest) where
  module _ (p : right < d) where
    more : 0 < ahead.many
    more = go ahead.many refl
      where
        go : (n : ℕ) → ahead.many ≡ n → 0 < ahead.many
        go zero q = let e = (args_none ahead.stand q).1 in absurd (omega arith)
        go (suc n) q = omega arith

    pub node : FirstAt book arities ahead.many right ahead.rights d
    node = args_first ahead.stand more

    their_bytes : prefixes (replace_all σ (cons node.first node.others)) ≡ rest
    their_bytes = ap (λ (ts : Args). prefixes (replace_all σ ts)) (sym node.parted) ∙ ahead.bytes

    -- A symbol is laid as it is.
    pub record SymbolAhead : Type 0 where
      pub later : List ℕ
      pub parts : rest ≡ 3 ∷ get_or book (right + 1) 0 ∷ later
      pub on : Ahead book arities r σ d (right + 2) later

    pub symbol_ahead : get_or book right 0 ≡ 3 → SymbolAhead
    symbol_ahead k =
        let root = symbol_root node.first_stands k in
        record {
          later = prefixes (replace_all σ (joined (arguments node.first) node.others));
          parts = sym their_bytes ∙ symbol_bytes σ (get_or book (right + 1) 0) node.first node.others root.symbol;
          on = record {
            many = _;
            rights = joined (arguments node.first) node.others;
            stand = root_passed node.first_stands node.others_stand refl;
            occurring =
                λ x o. ahead.occurring x (rw node.parted ((occurs_passed (get_or book (right + 1) 0) x node.first node.others root.symbol).1 o));
            bytes = refl;
          };
        }

    -- For a variable its term is laid.
    pub record VariableAhead : Type 0 where
      pub occurs : Occurs (get_or book (right + 1) 0) r
      pub later : List ℕ
      pub parts : rest ≡ prefix (σ (get_or book (right + 1) 0)) ++ later
      pub on : Ahead book arities r σ d (right + 2) later

    pub variable_ahead : (get_or book right 0 ≡ 3 → ⊥) → VariableAhead
    unfolding prefix replace
    variable_ahead k =
        let root = variable_root node.first_stands k in
        let x = get_or book (right + 1) 0 in
        record {
          occurs = ahead.occurring x (rw node.parted (first {t = node.first} (rw root.variable it)));
          later = prefixes (replace_all σ node.others);
          parts = sym their_bytes ∙ ap (λ (t : Term). prefix (replace σ t) ++ prefixes (replace_all σ node.others)) root.variable;
          on = record {
            many = _;
            rights = node.others;
            stand = subst (λ u. ArgsAt book arities (ahead.many - 1) u node.others d) root.ends node.others_stand;
            occurring = λ y o. ahead.occurring y (rw node.parted (later o));
            bytes = refl;
          };
        }

  pub none_ahead : d ≤ right → rest ≡ []
  unfolding prefix replace
  none_ahead p = sym ahead.bytes ∙ ap (λ (ts : Args). prefixes (replace_all σ ts)) (args_none ahead.stand (omega (arith, args_long ahead.stand))).0

-- A term grows by no more than its variables' terms.
mutual
  unfolding replace size

  grows : (σ : Replacement) (t : Term) → ((x : ℕ) → Occurs x t → size (σ x) ≤ 256) → size (replace σ t) ≤ 256 * size t
  grows σ (var x) h = h x it
  grows σ (app f ts) h = let r = all_grow σ ts (λ x o. h x (under o)) in omega arith

  all_grow : (σ : Replacement) (ts : Args) → ((x : ℕ) → OccursIn x ts → size (σ x) ≤ 256) → sizes (replace_all σ ts) ≤ 256 * sizes ts
  all_grow σ nil h = omega arith
  all_grow σ (cons t ts) h =
      let r = grows σ t (λ x o. h x (first o)) in
      let rs = all_grow σ ts (λ x o. h x (later o)) in
      omega arith

-- So the bytes of a right side of ten nodes are few, where the terms stand in 512 bytes.
pub few_bytes :
    {bytes arities : List ℕ} {table : Match} {r : Term} {σ : Replacement} → Held bytes arities table r σ → length bytes ≤ 512 → size r ≤ 10 →
    length (prefix (replace σ r)) ≤ 5120
few_bytes {bytes} {arities} {table} {r} {σ} held short nodes =
    omega (arith, prefix_length (replace σ r), grows σ r λ x o. in_bytes (held.terms x o))
  where
    in_bytes : {o : Option ℕ} {t : Term} → TermAt bytes arities o t → size t ≤ 256
    in_bytes there = omega (arith, at_end_lem there.stands, at_within there.stands)

-- So many bytes were counted of those that the right side has under σ.
pub record Counted (book arities : List ℕ) (r : Term) (σ : Replacement) (d right total : ℕ) : Type 0 where
  pub rest : List ℕ
  pub ahead : Ahead book arities r σ d right rest
  pub whole : total + length rest ≡ length (prefix (replace σ r))

pub none_counted : {book arities : List ℕ} {r : Term} {u d : ℕ} (σ : Replacement) → At book arities u r d → Counted book arities r σ d u 0
none_counted {r = r} σ h = record { rest = prefix (replace σ r); ahead = all_ahead σ h; whole = omega arith }

module _ {book arities : List ℕ} {r : Term} {σ : Replacement} {d right total : ℕ} (counted : Counted book arities r σ d right total) where
  module _ (p : right < d) where
    pub symbol_counted : get_or book right 0 ≡ 3 → Counted book arities r σ d (right + 2) (total + 2)
    symbol_counted k =
        let symbol = symbol_ahead counted.ahead p k in
        record { rest = symbol.later; ahead = symbol.on; whole = omega (arith, counted.whole, ap length symbol.parts) }

    -- The variable's term stands somewhere, from u to e.
    pub variable_counted :
        {bytes arities' : List ℕ} {u e : ℕ} → (get_or book right 0 ≡ 3 → ⊥) → At bytes arities' u (σ (get_or book (right + 1) 0)) e →
        Counted book arities r σ d (right + 2) (total + (e - u))
    variable_counted {u = u} {e = e} k h =
        let variable = variable_ahead counted.ahead p k in
        let x = get_or book (right + 1) 0 in
        record {
          rest = variable.later;
          ahead = variable.on;
          whole =
              omega (
                arith,
                counted.whole,
                ap length variable.parts ∙ length-append (prefix (σ x)) variable.later,
                prefix_length (σ x),
                at_end_lem h,
              );
        }

  pub all_counted : d ≤ right → total ≡ length (prefix (replace σ r))
  all_counted p = omega (arith, counted.whole, ap length (none_ahead counted.ahead p))

-- The same count under another name.
pub counted_as :
    {book arities : List ℕ} {r : Term} {σ : Replacement} {d right total total' : ℕ} → total' ≡ total → Counted book arities r σ d right total →
    Counted book arities r σ d right total'
counted_as {book} {arities} {r} {σ} {d} {right} p counted = subst (λ n. Counted book arities r σ d right n) (sym p) counted

-- At a node: it stands in the book, and the number of a variable is the number of a start.
module _ {book arities : List ℕ} {r : Term} {σ : Replacement} {d right : ℕ} {rest : List ℕ} (ahead : Ahead book arities r σ d right rest) (p : right < d) where
  pub right_there : right + 1 < length book
  right_there = at_root_lem (node ahead p).first_stands

  pub node_stands : Standing book arities right
  node_stands = record { term = (node ahead p).first; behind = (node ahead p).behind; stands = (node ahead p).first_stands }

  -- Whether it is a symbol, by what its root was found to be.
  module _ {root : Option ℕ} (told : (t : Term) (e : ℕ) → At book arities right t e → root ≡ symbol_of t) where
    pub is_variable : false ≡ is_some root → get_or book right 0 ≡ 3 → ⊥
    is_variable q k = cc (ap is_some (told _ _ (node ahead p).first_stands ∙ root_symbol (node ahead p).first_stands k))

    pub is_symbol : true ≡ is_some root → get_or book right 0 ≡ 3
    is_symbol q = go (ℕ_discrete (get_or book right 0) 3)
      where
        go : Dec (get_or book right 0 ≡ 3) → get_or book right 0 ≡ 3
        go (yes k) = k
        go (no n) = absurd (cc (ap is_some (told _ _ (node ahead p).first_stands ∙ root_variable (node ahead p).first_stands n)))

  module _
      {bytes : List ℕ} {table : Match} (held : Held bytes arities table r σ) {root : Option ℕ}
      (told : (t : Term) (e : ℕ) → At book arities right t e → root ≡ symbol_of t) (variable : false ≡ is_some root) {number : ℕ}
      (read : number ≡ get_or book (right + 1) 0) where
    occurs : Occurs number r
    occurs = rw read (variable_ahead ahead p (is_variable told variable)).occurs

    pub small : number < 16
    small = held.small number occurs

    pub bound_there : IsSome (start_of table number)
    bound_there = rw (held.terms number occurs).bound refl

    -- From the start on its term stands, up to the end that was found.
    module _ {start : ℕ} (from : start_of table number ≡ Some start) where
      pub term_there : Standing bytes arities start
      term_there =
          let there = held.terms number occurs in
          let same : there.place ≡ start = cc in
          record { term = σ number; behind = there.behind; stands = rw (← same) there.stands }

      pub term_found : {end : ℕ} → ((t : Term) (e : ℕ) → At bytes arities start t e → end ≡ e) → At bytes arities start (σ (get_or book (right + 1) 0)) end
      unfolding term_there
      term_found told = rw (← read, told term_there.term term_there.behind term_there.stands) term_there.stands
