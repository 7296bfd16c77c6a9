-- "Numbering of variables, from 1", and the ranks that an assignment's rank bits are.
use Rattle.std.specs.Prelude.{ℕ, zero, suc, ◌+◌, ◌-◌, ◌*◌, ◌^◌, true, false, List, [], ◌∷◌, map, ltb}
use Rattle.term.specs.Term.{size}
use Rattle.book.specs.Book.{Rule}
use Rattle.clauses.specs.Cnf.{Assignment}

-- "bit b of symbol f (b = 0 is the lowest): f·k + b + 1"
unfoldable pub bit : (k f b : ℕ) → ℕ
bit k f b = f * k + b + 1

-- "p = f(n−1) + g if g < f, else f(n−1) + g − 1"
unfoldable pub pair_number : (n f g : ℕ) → ℕ
pair_number n f g = elim (ltb g f) [ true ↦ f * (n - 1) + g | false ↦ f * (n - 1) + g - 1 ]

-- "for f ≠ g and j from 1 to k, G(f,g,j), "the low j bits of f are the larger number": n·k + p·k + j"
unfoldable pub G : (n k f g j : ℕ) → ℕ
G n k f g j = n * k + pair_number n f g * k + j

-- "from n²·k on, rule by rule .. the base grows by 2|l||r| a rule"
unfoldable pub first_base : (n k : ℕ) → ℕ
first_base n k = n * n * k

unfoldable pub base_after : (base : ℕ) → Rule → ℕ
base_after base rule = base + 2 * (size rule.left * size rule.right)

-- "for node u of the left side and v of the right (prefix order from 0, |r| nodes on the right): C = base + 2(u|r| + v) + 1 and
-- D = C + 1"
unfoldable pub C : (base width u v : ℕ) → ℕ
C base width u v = base + 2 * (u * width + v) + 1

unfoldable pub D : (base width u v : ℕ) → ℕ
D base width u v = C base width u v + 1

-- The numbers from `first` on, `count` of them.
unfoldable pub numbers : (first count : ℕ) → List ℕ
numbers first zero = []
numbers first (suc count) = first ∷ numbers (suc first) count

-- "The rank of f is the sum of 2^b over its true bits", over the bits below `bits`.
unfoldable pub rank_below : (k : ℕ) → Assignment → (f bits : ℕ) → ℕ
rank_below k α f zero = 0
rank_below k α f (suc b) = elim (α (bit k f b)) [ true ↦ rank_below k α f b + 2 ^ b | false ↦ rank_below k α f b ]

unfoldable pub ranks_of : (n k : ℕ) → Assignment → List ℕ
ranks_of n k α = map (λ f. rank_below k α f k) (numbers 0 n)
