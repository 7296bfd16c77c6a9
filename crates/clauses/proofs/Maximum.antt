-- The bounds as document 01 states them. The largest book has sixteen symbols of one argument, and 32 times the rule that leaves nine of
-- them over a variable as they are: 16²·4 + 32·2·10·10 variables. Assumes nothing.
use Prim.Native.Nat.{ℕ, zero, suc}
use mathlib.Core.List.Memᴰ
use mathlib.Core.List.{Memᴰ}
use mathlib.Core.Logic.{⊎_elim}
use mathlib.Core.Path.{◌≡◌, refl, sym, subst}
use native.Mathlib.Omega.{arith}
use lib.ListN.{replicate}
use Rattle.term.specs.Term.{Term, var, app, nil, cons}
use Rattle.term.specs.Replacement.{Occurs, it, under, first, later}
use Rattle.term.proofs.Tables.{rank_bits_least}
use Rattle.book.specs.Book.{Book, Rule}
use Rattle.book.specs.Limits.{SideWithinLimits, WithinLimits}
use Rattle.clauses.specs.Bounds.{RankBitsLeast, VariablesAtMaximum, BlocksWithin512}
use Rattle.clauses.specs.Computing.{computing}
use Rattle.clauses.proofs.Bounds.{variables_at_most, block_at_most}

pub rank_bits_are_least : RankBitsLeast
rank_bits_are_least = record { enough = λ n h. (rank_bits_least n h).0; none_fewer = λ n h. (rank_bits_least n h).1 }

pub blocks_within_512 : BlocksWithin512
unfolding BlocksWithin512
blocks_within_512 = block_at_most

-- So many symbols over a variable.
deep : ℕ → Term
deep zero = var 0
deep (suc n) = app 0 (cons (deep n) nil)

growing : Rule
growing = record { left = deep 9; right = deep 9 }

largest_book : Book
largest_book = record { arities = replicate 16 1; rules = replicate 32 growing }

only_one : {A : Type 0} {a b : A} (many : ℕ) → Memᴰ a (replicate many b) → a ≡ b
only_one zero m = absurd (Memᴰ.not-nil m)
only_one {A} {a} {b} (suc many) m = ⊎_elim (λ e. e) (λ later'. only_one many later') (Memᴰ.cases_cons m)

one_variable : (n : ℕ) {x : ℕ} → Occurs x (deep n) → x ≡ 0
unfolding deep
one_variable zero it = refl
one_variable (suc n) (under (first o)) = one_variable n o
one_variable (suc n) (under (later x9)) = elim x9 [ ]

side : SideWithinLimits (replicate 16 1) (deep 9)
unfolding computing deep
side = record { over_symbols = tt; variables = λ x o. omega (arith, one_variable 9 o); nodes = omega arith }

within_limits : WithinLimits largest_book
unfolding computing largest_book growing
within_limits =
    record {
      symbol_count = omega arith;
      arity = λ a m. omega (arith, only_one 16 m);
      rule_count = omega arith;
      left = λ rule m. subst (λ (r : Rule). SideWithinLimits (replicate 16 1) r.left) (sym (only_one 32 m)) side;
      right = λ rule m. subst (λ (r : Rule). SideWithinLimits (replicate 16 1) r.right) (sym (only_one 32 m)) side;
    }

pub variables_at_maximum : VariablesAtMaximum
unfolding computing largest_book growing deep
variables_at_maximum = record { at_most = variables_at_most; largest = largest_book; within = within_limits; reached = refl }
