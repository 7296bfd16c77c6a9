-- Tables of ranks: whether some table with ranks below a bound is in a decided set is found out by trying all of them; and the ranks of the
-- symbols below a number written down in one. Assumes nothing.
use Prim.Native.Nat.{ℕ, zero, suc, ◌<◌}
use mathlib.Core.List.Memᴰ
use mathlib.Core.List.{List, [], ◌∷◌, Memᴰ}
use mathlib.Core.Logic.{⊎_elim}
use mathlib.Core.Path.{◌≡◌, refl, ap}
use native.Mathlib.Decide.{map_dec}
use native.Mathlib.Omega.{arith}
use lib.ListN.{length, get_or}
use Rattle.order.proofs.Decisions.{up_to}

-- Whether some number below a bound is in D, and whether some table of ranks below it is, is found out by trying.
some_below : (bound : ℕ) (D : ℕ → Type 0) → ((i : ℕ) → Dec (D i)) → Dec ((i : ℕ) × (i < bound) × D i)
some_below zero D dec = no (λ found. let h : found.0 < 0 = found.1 in omega arith)
some_below (suc top) D dec = go (dec top) (some_below top D dec)
  where
    go : Dec (D top) → Dec ((i : ℕ) × (i < top) × D i) → Dec ((i : ℕ) × (i < suc top) × D i)
    go (yes d) below = yes (top, omega arith, d)
    go (no h) (yes found) = yes (found.0, (let l : found.0 < top = found.1 in omega arith), found.2)
    go (no h) (no k) = no (λ found. up_to top (λ (i : ℕ). D i → ⊥) (λ i l d. k (i, l, d)) h found.0 found.1 found.2)

-- A table in D: so many ranks, each below the bound.
abbrev pub Table : (bound count : ℕ) (D : List ℕ → Type 0) → Type 0
Table bound count D = (ranks : List ℕ) × (length ranks ≡ count) × ((rank : ℕ) → Memᴰ rank ranks → rank < bound) × D ranks

pub some_table : (bound count : ℕ) (D : List ℕ → Type 0) → ((ranks : List ℕ) → Dec (D ranks)) → Dec (Table bound count D)
some_table bound zero D dec = map_dec (λ d. ([], refl, λ rank m. absurd (Memᴰ.not-nil m), d)) (λ t. empty t.0 t.1 t.3) (dec [])
  where
    empty : (ranks : List ℕ) → length ranks ≡ 0 → D ranks → D []
    empty [] e d = d
    empty (rank ∷ ranks) e d = absurd (omega arith)
some_table bound (suc count) D dec =
    map_dec (λ found. joined found.0 found.1 found.2) (λ t. parted t.0 t.1 t.2 t.3)
    (some_below bound (λ (rank : ℕ). Table bound count (λ (ranks : List ℕ). D (rank ∷ ranks)))
    (λ rank. some_table bound count (λ (ranks : List ℕ). D (rank ∷ ranks)) (λ ranks. dec (rank ∷ ranks))))
  where
    joined : (rank : ℕ) → rank < bound → Table bound count (λ (ranks : List ℕ). D (rank ∷ ranks)) → Table bound (suc count) D
    joined rank h t =
        (rank ∷ t.0, ap suc t.1, λ r m. ⊎_elim (λ (e : r ≡ rank). omega arith) (t.2 r) (Memᴰ.cases_cons m), t.3)

    parted :
        (ranks : List ℕ) → length ranks ≡ suc count → ((rank : ℕ) → Memᴰ rank ranks → rank < bound) → D ranks →
        (rank : ℕ) × (rank < bound) × Table bound count (λ (ranks : List ℕ). D (rank ∷ ranks))
    parted [] e below d = absurd (omega arith)
    parted (rank ∷ ranks) e below d = (rank, below rank (Memᴰ.head refl), (ranks, omega arith, λ r m. below r (Memᴰ.tail m), d))

-- The ranks of the symbols below a number, written down in a table.
pub tabled : (rank : ℕ → ℕ) (n : ℕ) → List ℕ
tabled rank zero = []
tabled rank (suc n) = rank 0 ∷ tabled (λ f. rank (suc f)) n

pub tabled_length : (rank : ℕ → ℕ) (n : ℕ) → length (tabled rank n) ≡ n
unfolding tabled
tabled_length rank zero = refl
tabled_length rank (suc n) = ap suc (tabled_length (λ f. rank (suc f)) n)

pub tabled_at : (rank : ℕ → ℕ) (n f : ℕ) → f < n → get_or (tabled rank n) f 0 ≡ rank f
unfolding tabled
tabled_at rank zero f h = absurd (omega arith)
tabled_at rank (suc n) zero h = refl
tabled_at rank (suc n) (suc f) h = tabled_at (λ f. rank (suc f)) n f (omega arith)

pub tabled_below : (rank : ℕ → ℕ) (n bound : ℕ) → ((f : ℕ) → f < n → rank f < bound) → (r : ℕ) → Memᴰ r (tabled rank n) → r < bound
unfolding tabled
tabled_below rank zero bound each r m = absurd (Memᴰ.not-nil m)
tabled_below rank (suc n) bound each r m =
    ⊎_elim (λ (e : r ≡ rank 0). let h : rank 0 < bound = each 0 (omega arith) in omega arith)
    (tabled_below (λ f. rank (suc f)) n bound (λ f h. each (suc f) (omega arith)) r)
    (Memᴰ.cases_cons m)
