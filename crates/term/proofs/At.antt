-- What it means that a term stands at a place: which term and which end are determined, the term's size gives the end,
-- and the node at the place says how the rest is parted. Assumes nothing.
use Prim.Native.Nat.{ℕ, suc, ◌+◌, ◌*◌, ◌-◌, ◌<◌, ◌≤◌}
use mathlib.Core.List.{List}
use mathlib.Core.Path.{◌≡◌, refl, sym, ap, ap₂, subst, ◌∙◌}
use native.Mathlib.Nat.{zero-add, suc-add}
use native.Mathlib.Omega.{arith}
use lib.ListN.{length, get_or}
use Rattle.std.specs.Prelude.{Some, None}
use Rattle.std.proofs.lemmas.Option.{same_Some, none-some}
use Rattle.term.specs.Term.{Term, Args, var, app, nil, cons, size, sizes, count}
use Rattle.term.specs.Root.{symbol_of, arguments}
use Rattle.term.specs.At.{At, ArgsAt, variable_at, symbol_at, none_at, and_at}

-- No byte is both kinds of node.
both_kinds : {A : Type 0} {k l : ℕ} → k ≡ l → k ≡ 3 → l ≡ 4 → A
both_kinds p q r = absurd (omega arith)

-- Every term has a node.
pub size_positive : (t : Term) → 1 ≤ size t
unfolding size
size_positive (var x) = omega arith
size_positive (app f ts) = omega arith

pub sizes_count : (ts : Args) → count ts ≤ sizes ts
unfolding size count
sizes_count nil = omega arith
sizes_count (cons t ts) = let r = sizes_count ts in let s = size_positive t in omega arith

-- Two argument lists, one after the other.
unfoldable pub joined : Args → Args → Args
joined nil ts = ts
joined (cons s ss) ts = cons s (joined ss ts)

-- A symbol stands at the root.
pub record SymbolRoot (bytes arities : List ℕ) (u : ℕ) (t : Term) : Type 0 where
  pub declared : get_or bytes (u + 1) 0 < length arities
  pub symbol : t ≡ app (get_or bytes (u + 1) 0) (arguments t)
  pub arity : count (arguments t) ≡ get_or arities (get_or bytes (u + 1) 0) 0

-- A variable stands at the root.
pub record VariableRoot (bytes : List ℕ) (u : ℕ) (t : Term) (e : ℕ) : Type 0 where
  pub kind : get_or bytes u 0 ≡ 4
  pub variable : t ≡ var (get_or bytes (u + 1) 0)
  pub none : arguments t ≡ nil
  pub ends : e ≡ u + 2

-- The first of several terms, and the others behind it.
pub record FirstAt (bytes arities : List ℕ) (many u : ℕ) (ts : Args) (e : ℕ) : Type 0 where
  pub first : Term
  pub others : Args
  pub behind : ℕ
  pub parted : ts ≡ cons first others
  pub first_stands : At bytes arities u first behind
  pub others_stand : ArgsAt bytes arities (many - 1) behind others e

-- Several terms stand from u to e.
pub record Several (bytes arities : List ℕ) (many u e : ℕ) : Type 0 where
  pub terms : Args
  pub stand : ArgsAt bytes arities many u terms e

module _ {bytes arities : List ℕ} where
  mutual
    unique : {u v : ℕ} {s t : Term} {d e : ℕ} → At bytes arities u s d → At bytes arities v t e → u ≡ v → (s ≡ t) × (d ≡ e)
    unique (variable_at w k b q) (variable_at w' k' b' q') p = (cc, cc)
    unique (variable_at w k b q) (symbol_at w' k' b' l' h') p = both_kinds (ap (λ i. get_or bytes i 0) (sym p)) k' k
    unique (symbol_at w k b l h) (variable_at w' k' b' q') p = both_kinds (ap (λ i. get_or bytes i 0) p) k k'
    unique (symbol_at w k b l h) (symbol_at w' k' b' l' h') p =
        let r = uniques h h' (cc) (cc) in
        (cc, r.1)

    uniques :
        {m n u v : ℕ} {ss ts : Args} {d e : ℕ} → ArgsAt bytes arities m u ss d → ArgsAt bytes arities n v ts e → m ≡ n → u ≡ v →
        (ss ≡ ts) × (d ≡ e)
    uniques none_at none_at q p = (refl, p)
    uniques none_at (and_at h' hs') q p = absurd (omega arith)
    uniques (and_at h hs) none_at q p = absurd (omega arith)
    uniques (and_at h hs) (and_at h' hs') q p =
        let r = unique h h' p in
        let rs = uniques hs hs' (omega arith) r.1 in
        (ap₂ cons r.0 rs.0, rs.1)

  -- Which term stands at a place, and where it ends.
  pub at_unique : {u : ℕ} {s t : Term} {d e : ℕ} → At bytes arities u s d → At bytes arities u t e → (s ≡ t) × (d ≡ e)
  at_unique h k = unique h k refl

  pub args_unique :
      {many u : ℕ} {ss ts : Args} {d e : ℕ} → ArgsAt bytes arities many u ss d → ArgsAt bytes arities many u ts e → (ss ≡ ts) × (d ≡ e)
  args_unique h k = uniques h k refl refl

  -- A term's size says where it ends: two bytes a node.
  mutual
    unfolding size

    pub at_end_lem : {u : ℕ} {t : Term} {e : ℕ} → At bytes arities u t e → e ≡ u + 2 * size t
    at_end_lem (variable_at w k b q) = q
    at_end_lem (symbol_at w k b l h) = let r = args_end h in omega arith

    pub args_end : {many u : ℕ} {ts : Args} {e : ℕ} → ArgsAt bytes arities many u ts e → e ≡ u + 2 * sizes ts
    args_end none_at = omega arith
    args_end (and_at h hs) = let r = at_end_lem h in let rs = args_end hs in omega arith

  -- The bytes of a term are there.
  mutual
    pub at_within : {u : ℕ} {t : Term} {e : ℕ} → At bytes arities u t e → e ≤ length bytes
    at_within (variable_at w k b q) = omega arith
    at_within (symbol_at w k b l h) = args_within h (omega arith)

    pub args_within : {many u : ℕ} {ts : Args} {e : ℕ} → ArgsAt bytes arities many u ts e → u ≤ length bytes → e ≤ length bytes
    args_within none_at w = w
    args_within (and_at h hs) w = args_within hs (at_within h)

  -- As many stand there as is said, of two bytes at least each.
  pub args_count : {many u : ℕ} {ts : Args} {e : ℕ} → ArgsAt bytes arities many u ts e → count ts ≡ many
  unfolding count
  args_count none_at = refl
  args_count (and_at h hs) = ap suc (args_count hs)

  pub args_long : {many u : ℕ} {ts : Args} {e : ℕ} → ArgsAt bytes arities many u ts e → u + 2 * many ≤ e
  args_long {ts = ts} h = omega (arith, args_end h, args_count h, sizes_count ts)

  -- Both bytes of the root are there.
  pub at_root_lem : {u : ℕ} {t : Term} {e : ℕ} → At bytes arities u t e → u + 1 < length bytes
  at_root_lem (variable_at w k b q) = w
  at_root_lem (symbol_at w k b l h) = w

  -- The arguments stand behind the root.
  pub at_arguments : {u : ℕ} {t : Term} {e : ℕ} → At bytes arities u t e → ArgsAt bytes arities (count (arguments t)) (u + 2) (arguments t) e
  unfolding arguments count
  at_arguments (variable_at {u = u} w k b q) = subst (λ i. ArgsAt bytes arities 0 (u + 2) nil i) (sym q) none_at
  at_arguments (symbol_at {u = u} {e = e} {ts = ts} w k b l h) = subst (λ i. ArgsAt bytes arities i (u + 2) ts e) (sym (args_count h)) h

  pub symbol_root : {u : ℕ} {t : Term} {e : ℕ} → At bytes arities u t e → get_or bytes u 0 ≡ 3 → SymbolRoot bytes arities u t
  unfolding arguments
  symbol_root (variable_at w k b q) p = both_kinds refl p k
  symbol_root (symbol_at {ts = ts} w k b l h) p = record { declared = rw b l; symbol = ap (λ i. app i ts) (sym b); arity = args_count h ∙ ap (λ i. get_or arities i 0) (sym b) }

  pub variable_root : {u : ℕ} {t : Term} {e : ℕ} → At bytes arities u t e → (get_or bytes u 0 ≡ 3 → ⊥) → VariableRoot bytes u t e
  unfolding arguments
  variable_root (variable_at w k b q) p = record { kind = k; variable = ap var (sym b); none = refl; ends = q }
  variable_root (symbol_at w k b l h) p = absurd (p k)

  -- How many arguments there are, by the node's kind.
  pub symbol_arguments :
      {u : ℕ} {t : Term} {e : ℕ} → At bytes arities u t e → get_or bytes u 0 ≡ 3 → count (arguments t) ≡ get_or arities (get_or bytes (u + 1) 0) 0
  symbol_arguments h p = (symbol_root h p).arity

  pub variable_arguments : {u : ℕ} {t : Term} {e : ℕ} → At bytes arities u t e → (get_or bytes u 0 ≡ 3 → ⊥) → count (arguments t) ≡ 0
  unfolding count
  variable_arguments h p = ap count (variable_root h p).none

  -- The root's symbol, by the node's kind.
  pub root_symbol : {u : ℕ} {t : Term} {e : ℕ} → At bytes arities u t e → get_or bytes u 0 ≡ 3 → symbol_of t ≡ Some (get_or bytes (u + 1) 0)
  unfolding symbol_of
  root_symbol (variable_at w k b q) p = both_kinds refl p k
  root_symbol (symbol_at w k b l h) p = ap Some (sym b)

  pub root_variable : {u : ℕ} {t : Term} {e : ℕ} → At bytes arities u t e → (get_or bytes u 0 ≡ 3 → ⊥) → symbol_of t ≡ None
  unfolding symbol_of
  root_variable (variable_at w k b q) p = refl
  root_variable (symbol_at w k b l h) p = absurd (p k)

  -- How many arguments there are, by the root's symbol, which is declared.
  pub symbol_declared : {u : ℕ} {t : Term} {e g : ℕ} → At bytes arities u t e → symbol_of t ≡ Some g → g < length arities
  unfolding symbol_of
  symbol_declared (variable_at w k b q) p = absurd (none-some _ p)
  symbol_declared {g = g} (symbol_at {f = f} w k b l h) p = subst (λ i. i < length arities) (same_Some f g p) l

  pub arguments_of_symbol : {u : ℕ} {t : Term} {e g : ℕ} → At bytes arities u t e → symbol_of t ≡ Some g → count (arguments t) ≡ get_or arities g 0
  unfolding symbol_of arguments
  arguments_of_symbol (variable_at w k b q) p = absurd (none-some _ p)
  arguments_of_symbol {g = g} (symbol_at {f = f} w k b l h) p = args_count h ∙ ap (λ i. get_or arities i 0) (same_Some f g p)

  pub arguments_of_none : {u : ℕ} {t : Term} {e : ℕ} → At bytes arities u t e → symbol_of t ≡ None → count (arguments t) ≡ 0
  unfolding symbol_of arguments count
  arguments_of_none (variable_at w k b q) p = refl
  arguments_of_none (symbol_at w k b l h) p = absurd (none-some _ (sym p))

  -- Several terms part into the first and the others; none ends where it begins.
  pub args_first : {many u : ℕ} {ts : Args} {e : ℕ} → ArgsAt bytes arities many u ts e → 0 < many → FirstAt bytes arities many u ts e
  args_first none_at p = absurd (omega arith)
  args_first (and_at {many = many} {m = m} {e = e} {t = t} {ts = ts} h hs) p = record {
    first = t;
    others = ts;
    behind = m;
    parted = refl;
    first_stands = h;
    others_stand = subst (λ i. ArgsAt bytes arities i m ts e) (omega arith) hs;
  }

  pub args_none : {many u : ℕ} {ts : Args} {e : ℕ} → ArgsAt bytes arities many u ts e → many ≡ 0 → (ts ≡ nil) × (e ≡ u)
  args_none none_at p = (refl, refl)
  args_none (and_at h hs) p = absurd (omega arith)

  pub args_joined :
      {m n u d e : ℕ} {ss ts : Args} → ArgsAt bytes arities m u ss d → ArgsAt bytes arities n d ts e → ArgsAt bytes arities (m + n) u (joined ss ts) e
  unfolding joined
  args_joined none_at k = rw zero-add k
  args_joined (and_at h hs) k = rw suc-add (and_at h (args_joined hs k))

  -- The root of the first of several terms is passed: its arguments stand before the others.
  pub root_passed :
      {many left u d e : ℕ} {t : Term} {ts : Args} → At bytes arities u t d → ArgsAt bytes arities many d ts e → count (arguments t) + many ≡ left →
      ArgsAt bytes arities left (u + 2) (joined (arguments t) ts) e
  root_passed {u = u} {e = e} {t = t} {ts = ts} h hs p =
      subst (λ i. ArgsAt bytes arities i (u + 2) (joined (arguments t) ts) e) p (args_joined (at_arguments h) hs)

  pub past_root :
      {many u e : ℕ} (more : ℕ) → Several bytes arities many u e → 0 < many → ((t : Term) (d : ℕ) → At bytes arities u t d → more ≡ count (arguments t)) →
      Several bytes arities (many - 1 + more) (u + 2) e
  past_root more several p told =
      let parts = args_first several.stand p in
      record {
        terms = joined (arguments parts.first) parts.others;
        stand = root_passed parts.first_stands parts.others_stand (omega (arith, told parts.first parts.behind parts.first_stands));
      }
