-- Under the equations of the rank comparison, G(f,g,j) is true exactly if the low j bits of f are the larger number; at j = k, exactly
-- if f is above g by the ranks that the bits are. By induction on j: the highest bit decides, unless it is the same. Assumes nothing.
use Prim.Native.Nat.{ℕ, zero, suc, ◌+◌, ◌^◌, ◌≤◌, ◌<◌}
use mathlib.Core.Bool.{Bool, true, false, not, ◌&&◌, ◌||◌, beq}
use mathlib.Core.List.{map}
use mathlib.Core.Logic.{◌≢◌}
use mathlib.Core.Path.{◌≡◌, refl, sym, ◌∙◌, ap, ap₂}
use native.Mathlib.Nat.{pow-suc}
use native.Mathlib.Omega.{arith}
use borrow.Author.Tests.{ltb-true, ltb-false, lt-ltb, le-ltb}
use lib.Dec.{ltb}
use lib.ListN.{get_or}
use Rattle.term.specs.Tables.{rank_bits}
use Rattle.book.specs.Book.{Book, symbols}
use Rattle.book.specs.Limits.{WithinLimits}
use Rattle.order.specs.Precedence.{above}
use Rattle.clauses.specs.Cnf.{Assignment}
use Rattle.clauses.specs.Numbering.{bit, G, numbers, rank_below, ranks_of}
use Rattle.clauses.proofs.Equations.{low_bits, PairEquations}
use Rattle.clauses.proofs.RankBits.{some_bit}

-- A number with one more bit, worth p, on top.
unfoldable pub topped : Bool → (p rest : ℕ) → ℕ
topped true p rest = rest + p
topped false p rest = rest

pub rank_below_topped : (k : ℕ) (α : Assignment) (f b : ℕ) → rank_below k α f (suc b) ≡ topped (α (bit k f b)) (2 ^ b) (rank_below k α f b)
unfolding rank_below topped
rank_below_topped k α f b = go (α (bit k f b)) refl
  where
    go : (set : Bool) → α (bit k f b) ≡ set → rank_below k α f (suc b) ≡ topped set (2 ^ b) (rank_below k α f b)
    go true e = rw (rank_below, e)
    go false e = rw (rank_below, e)

pub rank_below_bound : (k : ℕ) (α : Assignment) (f j : ℕ) → rank_below k α f j < 2 ^ j
unfolding rank_below topped
rank_below_bound k α f zero = omega arith
rank_below_bound k α f (suc b) = rw (rank_below_topped k α f b) (go (α (bit k f b)) (rank_below_bound k α f b))
  where
    go : (set : Bool) → rank_below k α f b < 2 ^ b → topped set (2 ^ b) (rank_below k α f b) < 2 ^ suc b
    go true h = rw pow-suc (omega arith)
    go false h = rw pow-suc (omega arith)

-- The top bit decides, unless it is the same.
pub topped_smaller :
    (a b : Bool) (p x y : ℕ) → x < p → y < p → ltb (topped b p y) (topped a p x) ≡ (a && not b || beq a b && ltb y x)
unfolding topped
topped_smaller true true p x y lx ly = go (ltb y x) refl
  where
    go : (less : Bool) → ltb y x ≡ less → ltb (y + p) (x + p) ≡ less
    go true e = let l = ltb-true y x e in lt-ltb (y + p) (x + p) (omega arith)
    go false e = let l = ltb-false y x e in le-ltb (y + p) (x + p) (omega arith)
topped_smaller true false p x y lx ly = lt-ltb y (x + p) (omega arith)
topped_smaller false true p x y lx ly = le-ltb (y + p) x (omega arith)
topped_smaller false false p x y lx ly = refl

low_bits_larger :
    (n k : ℕ) (α : Assignment) → PairEquations n k α →
    (f g j : ℕ) → f < n → g < n → f ≢ g → j ≤ k → low_bits n k α f g j ≡ ltb (rank_below k α g j) (rank_below k α f j)
unfolding low_bits rank_below
low_bits_larger n k α h f g zero lf lg ne lj = refl
low_bits_larger n k α h f g (suc b) lf lg ne lj =
    h.larger f g b lf lg ne lj
    ∙ ap
    (λ (low : Bool). α (bit k f b) && not (α (bit k g b)) || beq (α (bit k f b)) (α (bit k g b)) && low)
    (low_bits_larger n k α h f g b lf lg ne (omega arith))
    ∙ sym
    (topped_smaller (α (bit k f b)) (α (bit k g b)) (2 ^ b) (rank_below k α f b) (rank_below k α g b) (rank_below_bound k α f b) (rank_below_bound k α g b))
    ∙ ap₂ ltb (sym (rank_below_topped k α g b)) (sym (rank_below_topped k α f b))

get_d_numbers :
    (F : ℕ → ℕ) (first count i : ℕ) → i < count → get_or (map F (numbers first count)) i 0 ≡ F (first + i)
unfolding numbers
get_d_numbers F first zero i h = absurd (omega arith)
get_d_numbers F first (suc count) zero h = ap F (omega arith)
get_d_numbers F first (suc count) (suc i) h = get_d_numbers F (suc first) count i (omega arith) ∙ ap F (omega arith)

pub rank_of : (n k : ℕ) (α : Assignment) (f : ℕ) → f < n → get_or (ranks_of n k α) f 0 ≡ rank_below k α f k
unfolding ranks_of
rank_of n k α f h = get_d_numbers (λ g. rank_below k α g k) 0 n f h ∙ ap (λ (g : ℕ). rank_below k α g k) (omega arith)

pub G_larger :
    (n k : ℕ) (α : Assignment) → PairEquations n k α →
    (f g j : ℕ) → f < n → g < n → f ≢ g → 0 < j → j ≤ k → α (G n k f g j) ≡ ltb (rank_below k α g j) (rank_below k α f j)
unfolding low_bits
G_larger n k α h f g zero lf lg ne pos lj = absurd (omega arith)
G_larger n k α h f g (suc b) lf lg ne pos lj = low_bits_larger n k α h f g (suc b) lf lg ne lj

pub G_above :
    (n k : ℕ) (α : Assignment) → PairEquations n k α →
    (f g : ℕ) → f < n → g < n → f ≢ g → 0 < k → α (G n k f g k) ≡ above (ranks_of n k α) f g
unfolding above
G_above n k α h f g lf lg ne pos =
    G_larger n k α h f g k lf lg ne pos (omega arith) ∙ ap₂ ltb (sym (rank_of n k α g lg)) (sym (rank_of n k α f lf))

-- In a book that was read: two symbols have a bit.
pub G_above_in :
    (book : Book) → WithinLimits book → (α : Assignment) → PairEquations (symbols book) (rank_bits (symbols book)) α →
    (f g : ℕ) → f < symbols book → g < symbols book → f ≢ g →
    α (G (symbols book) (rank_bits (symbols book)) f g (rank_bits (symbols book))) ≡ above (ranks_of (symbols book) (rank_bits (symbols book)) α) f g
G_above_in book limits α h f g lf lg ne =
    let few = limits.symbol_count in
    G_above (symbols book) (rank_bits (symbols book)) α h f g lf lg ne (some_bit (symbols book) few (omega arith))
