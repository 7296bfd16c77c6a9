-- The blocks of the pairs hold exactly if the equations of the rank comparison do: at one pair and bit, by cases of the truth values.
-- Assumes nothing.
use Prim.Native.Nat.{ℕ, zero, suc, ◌<◌}
use mathlib.Core.Bool.{Bool, true, false, not, ◌&&◌, ◌||◌, beq}
use mathlib.Core.List.{List, ◌∷◌, flat_map, flatten, Memᴰ}
use mathlib.Core.Logic.{◌↔◌, ◌≢◌}
use mathlib.Core.Path.{◌≡◌, refl}
use borrow.Author.Tests.{eqb-true, eqb-false}
use lib.Dec.{T, eqb}
use Rattle.clauses.specs.Cnf.{Assignment, holds, some_holds, all_hold}
use Rattle.clauses.specs.Numbering.{bit, G, numbers}
use Rattle.clauses.specs.Blocks.{pair_clauses, pair_block, pair_blocks_of, pair_blocks, lowest_bit, higher_bit}
use Rattle.clauses.proofs.Equations.{low_bits, PairEquations}
use Rattle.clauses.proofs.ClauseLists.{tests_whether, by_members, all_hold_append, blocks_hold_append, numbers_below}

-- The clauses of a pair and bit, as truth values: g for the larger low bits, a and b for the bits, q for the larger bits below.
first_bit :
    (g a b : Bool) →
    ((not g || (a || false)) && ((not g || (not b || false)) && ((g || (not a || (b || false))) && true)))
    ≡ beq g (a && not b || beq a b && false)
first_bit true true true = refl
first_bit true true false = refl
first_bit true false true = refl
first_bit true false false = refl
first_bit false true true = refl
first_bit false true false = refl
first_bit false false true = refl
first_bit false false false = refl

later_bit :
    (g a b q : Bool) →
    ((g || (not a || (b || false)))
    && ((g || (not a || (not q || false)))
    && ((g || (b || (not q || false)))
    && ((not g || (a || (not b || false))) && ((not g || (a || (q || false))) && ((not g || (not b || (q || false))) && true))))))
    ≡ beq g (a && not b || beq a b && q)
later_bit true true true true = refl
later_bit true true true false = refl
later_bit true true false true = refl
later_bit true true false false = refl
later_bit true false true true = refl
later_bit true false true false = refl
later_bit true false false true = refl
later_bit true false false false = refl
later_bit false true true true = refl
later_bit false true true false = refl
later_bit false true false true = refl
later_bit false true false false = refl
later_bit false false true true = refl
later_bit false false true false = refl
later_bit false false false true = refl
later_bit false false false false = refl

pair_bit_exactly :
    (n k f g b : ℕ) (α : Assignment) →
    T (all_hold α (pair_clauses n k f g b))
    ↔ (α (G n k f g (suc b)) ≡ (α (bit k f b) && not (α (bit k g b)) || beq (α (bit k f b)) (α (bit k g b)) && low_bits n k α f g b))
unfolding pair_clauses lowest_bit higher_bit all_hold some_holds holds low_bits
pair_bit_exactly n k f g zero α = tests_whether (first_bit (α (G n k f g 1)) (α (bit k f 0)) (α (bit k g 0)))
pair_bit_exactly n k f g (suc b) α =
    tests_whether (later_bit (α (G n k f g (suc (suc b)))) (α (bit k f (suc b))) (α (bit k g (suc b))) (α (G n k f g (suc b))))

pair_block_exactly :
    (n k f g : ℕ) (α : Assignment) →
    T (all_hold α (pair_block n k f g)) ↔ ((b : ℕ) → Memᴰ b (numbers 0 k) → T (all_hold α (pair_clauses n k f g b)))
unfolding pair_block flat_map all_hold
pair_block_exactly n k f g α =
    by_members
    (λ b. all_hold α (pair_clauses n k f g b))
    (λ bs. all_hold α (flat_map (pair_clauses n k f g) bs))
    refl
    (λ b bs. all_hold_append α (pair_clauses n k f g b) (flat_map (pair_clauses n k f g) bs))
    (numbers 0 k)

pairs_of_exactly :
    (n k f : ℕ) (gs : List ℕ) (α : Assignment) →
    T (all_hold α (flatten (pair_blocks_of n k f gs))) ↔ ((g : ℕ) → Memᴰ g gs → T (eqb f g || all_hold α (pair_block n k f g)))
unfolding flatten all_hold pair_blocks_of
pairs_of_exactly n k f gs α =
    by_members (λ g. eqb f g || all_hold α (pair_block n k f g)) (λ gs. all_hold α (flatten (pair_blocks_of n k f gs))) refl first gs
  where
    split :
        (g : ℕ) (gs : List ℕ) (test : Bool) → eqb f g ≡ test →
        all_hold α (flatten (pair_blocks_of n k f (g ∷ gs)))
        ≡ ((test || all_hold α (pair_block n k f g)) && all_hold α (flatten (pair_blocks_of n k f gs)))
    split g gs true e = rw (pair_blocks_of, e)
    split g gs false e = rw (pair_blocks_of, e) (all_hold_append α (pair_block n k f g) (flatten (pair_blocks_of n k f gs)))

    first :
        (g : ℕ) (gs : List ℕ) →
        all_hold α (flatten (pair_blocks_of n k f (g ∷ gs)))
        ≡ ((eqb f g || all_hold α (pair_block n k f g)) && all_hold α (flatten (pair_blocks_of n k f gs)))
    first g gs = split g gs (eqb f g) refl

unless_equal : (f g : ℕ) (b : Bool) → T (eqb f g || b) ↔ (f ≢ g → T b)
unless_equal f g b = go (eqb f g) refl
  where
    go : (test : Bool) → eqb f g ≡ test → T (test || b) ↔ (f ≢ g → T b)
    go true e = (λ h ne. absurd (ne (eqb-true f g e)), λ h. tt)
    go false e = (λ h ne. h, λ h. h (eqb-false f g e))

pub pairs_exactly : (n k : ℕ) (α : Assignment) → T (all_hold α (flatten (pair_blocks n k))) ↔ PairEquations n k α
unfolding pair_blocks flat_map flatten all_hold
pairs_exactly n k α = (λ h. record { larger = into h }, λ h. per_symbol.1 (λ f mf. (pairs_of_exactly n k f (numbers 0 n) α).1 (λ g mg. back h f g mf mg)))
  where
    per_symbol :
        T (all_hold α (flatten (pair_blocks n k)))
        ↔ ((f : ℕ) → Memᴰ f (numbers 0 n) → T (all_hold α (flatten (pair_blocks_of n k f (numbers 0 n)))))
    per_symbol =
        by_members
        (λ f. all_hold α (flatten (pair_blocks_of n k f (numbers 0 n))))
        (λ fs. all_hold α (flatten (flat_map (λ f. pair_blocks_of n k f (numbers 0 n)) fs)))
        refl
        (λ f fs. blocks_hold_append α (pair_blocks_of n k f (numbers 0 n)) (flat_map (λ f. pair_blocks_of n k f (numbers 0 n)) fs))
        (numbers 0 n)

    into :
        T (all_hold α (flatten (pair_blocks n k))) →
        (f g b : ℕ) → f < n → g < n → f ≢ g → b < k →
        α (G n k f g (suc b)) ≡ (α (bit k f b) && not (α (bit k g b)) || beq (α (bit k f b)) (α (bit k g b)) && low_bits n k α f g b)
    into h f g b lf lg ne lb =
        let of_symbol = per_symbol.0 h f ((numbers_below n f).1 lf) in
        let of_pair = (pairs_of_exactly n k f (numbers 0 n) α).0 of_symbol g ((numbers_below n g).1 lg) in
        let of_block = (unless_equal f g (all_hold α (pair_block n k f g))).0 of_pair ne in
        (pair_bit_exactly n k f g b α).0 ((pair_block_exactly n k f g α).0 of_block b ((numbers_below k b).1 lb))

    back :
        PairEquations n k α → (f g : ℕ) → Memᴰ f (numbers 0 n) → Memᴰ g (numbers 0 n) → T (eqb f g || all_hold α (pair_block n k f g))
    back h f g mf mg =
        (unless_equal f g (all_hold α (pair_block n k f g))).1
        (λ ne. (pair_block_exactly n k f g α).1
        (λ b mb. (pair_bit_exactly n k f g b α).1
        (h.larger f g b ((numbers_below n f).0 mf) ((numbers_below n g).0 mg) ne ((numbers_below k b).0 mb))))
