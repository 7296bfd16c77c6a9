-- A term that stands in bytes: from a place on, in prefix order, two bytes a node.
use Rattle.std.specs.Prelude.{ℕ, zero, suc, ◌+◌, ◌<◌, List, ◌≡◌, length, get_or}
use Rattle.term.specs.Term.{Term, Args, var, app, nil, cons}

mutual
  -- The term stands from place u to place e.
  pub data At (bytes arities : List ℕ) : (u : ℕ) → Term → (e : ℕ) → Type 0 where
    variable_at :
        {u x e : ℕ} → u + 1 < length bytes → get_or bytes u 0 ≡ 4 → get_or bytes (u + 1) 0 ≡ x → e ≡ u + 2 → At bytes arities u (var x) e
    symbol_at :
        {u f e : ℕ} {ts : Args} → u + 1 < length bytes → get_or bytes u 0 ≡ 3 → get_or bytes (u + 1) 0 ≡ f → f < length arities →
        ArgsAt bytes arities (get_or arities f 0) (u + 2) ts e → At bytes arities u (app f ts) e

  -- So many terms stand from u to e, one after another.
  pub data ArgsAt (bytes arities : List ℕ) : (many u : ℕ) → Args → (e : ℕ) → Type 0 where
    none_at : {u : ℕ} → ArgsAt bytes arities zero u nil u
    and_at :
        {many u m e : ℕ} {t : Term} {ts : Args} → At bytes arities u t m → ArgsAt bytes arities many m ts e →
        ArgsAt bytes arities (suc many) u (cons t ts) e

-- Some term stands at u.
pub record Standing (bytes arities : List ℕ) (u : ℕ) : Type 0 where
  pub term : Term
  pub behind : ℕ
  pub stands : At bytes arities u term behind
