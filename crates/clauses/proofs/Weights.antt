-- The weight of a block, six for each literal and two for each clause's end, is at most 480 for every block of a book: a pair's
-- block has at most four times six clauses of three literals, a block at two nodes at most seven parts for D and seven for C.
-- Assumes nothing.
use Prim.Native.Nat.{ℕ, zero, suc, ◌+◌, ◌*◌, ◌≤◌}
use mathlib.Core.Bool.{Bool, true, false}
use mathlib.Core.List.{List, [], ◌∷◌, ◌++◌, map, flat_map}
use mathlib.Core.Path.{◌≡◌, refl}
use native.Mathlib.Omega.{arith}
use lib.Dec.{T, eqb}
use lib.ListN.{length, length-append, length-map}
use Rattle.reply.proofs.Every.{Every, every_at, every_of_members}
use Rattle.term.specs.Tables.{rank_bits}
use Rattle.term.specs.Term.{Term, var, app, count, over, same}
use Rattle.term.proofs.Tables.{rank_bits_least}
use Rattle.book.specs.Book.{Book, symbols}
use Rattle.book.specs.Limits.{WithinLimits}
use Rattle.clauses.specs.Cnf.{Literal, is, is_not, Clause}
use Rattle.clauses.specs.Numbering.{numbers}
use Rattle.clauses.specs.Blocks.{pair_clauses, pair_block, Numbered, numbered_args, Setting, CAt, DAt, parts_behind, parts_of_d, parts_of_c, some_identical, node_block, blocks, lowest_bit, higher_bit, clauses_of_c}
use Rattle.clauses.specs.Wholes.{all_parts, some_parts}
use Rattle.clauses.proofs.Inside.{Inside, arity_kept, symbol_declared, arguments_counted}
use Rattle.clauses.proofs.EachBlock.{setting, each_block}

abbrev pub weight : List Clause → ℕ
weight [] = 0
weight (c ∷ cs) = 6 * length c + 2 + weight cs

weight_append : (b d : List Clause) → weight (b ++ d) ≡ weight b + weight d
weight_append [] d = omega arith
weight_append (c ∷ b) d = omega (arith, weight_append b d)

-- A pair's block.
pair_clauses_weight : (n k f g b : ℕ) → weight (pair_clauses n k f g b) ≤ 120
unfolding pair_clauses lowest_bit higher_bit
pair_clauses_weight n k f g zero = omega arith
pair_clauses_weight n k f g (suc i) = omega arith

bits_weight : (n k f g first count : ℕ) → weight (flat_map (pair_clauses n k f g) (numbers first count)) ≤ 120 * count
unfolding flat_map numbers
bits_weight n k f g first zero = omega arith
bits_weight n k f g first (suc count) =
    rw weight_append (omega (arith, pair_clauses_weight n k f g first, bits_weight n k f g (suc first) count))

pair_block_weight : (n k f g : ℕ) → k ≤ 4 → weight (pair_block n k f g) ≤ 480
unfolding pair_block
pair_block_weight n k f g h = omega (arith, bits_weight n k f g 0 k)

-- The clauses that tie a whole to its parts.
map_weight : (clause : ℕ → Clause) → ((q : ℕ) → length (clause q) ≡ 2) → (parts : List ℕ) → weight (map clause parts) ≡ 14 * length parts
map_weight clause two [] = refl
map_weight clause two (q ∷ qs) = omega (arith, two q, map_weight clause two qs)

tied_weight :
    (pairs : ℕ → Clause) → ((q : ℕ) → length (pairs q) ≡ 2) → (l : Literal) (sign : ℕ → Literal) (parts : List ℕ) →
    weight (map pairs parts ++ ((l ∷ map sign parts) ∷ [])) ≡ 20 * length parts + 8
tied_weight pairs two l sign parts =
    rw weight_append (omega (arith, map_weight pairs two parts, length-map parts sign))

all_parts_weight : (whole : ℕ) (parts : List ℕ) → weight (all_parts whole parts) ≡ 20 * length parts + 8
unfolding all_parts
all_parts_weight whole [] = refl
all_parts_weight whole (q ∷ qs) = tied_weight (λ q'. is_not whole ∷ is q' ∷ []) (λ q'. refl) (is whole) is_not (q ∷ qs)

some_parts_weight : (whole : ℕ) (parts : List ℕ) → weight (some_parts whole parts) ≡ 20 * length parts + 8
unfolding some_parts
some_parts_weight whole parts = tied_weight (λ q. is whole ∷ is_not q ∷ []) (λ q. refl) (is_not whole) is parts

-- How many parts there are: as many as arguments, and one.
behind_length : (c : Setting) (u : ℕ) (ss ts : List Numbered) → length (parts_behind c u ss ts) ≤ length ts
unfolding parts_behind
behind_length c u [] ts = omega arith
behind_length c u (a ∷ ss) [] = omega arith
behind_length c u (a ∷ ss) (b ∷ ts) = go (same a.term b.term) refl (behind_length c u ss ts)
  where
    go :
        (t : Bool) → same a.term b.term ≡ t → length (parts_behind c u ss ts) ≤ length ts →
        length (parts_behind c u (a ∷ ss) (b ∷ ts)) ≤ length (b ∷ ts)
    go true e later = rw (e, parts_behind) (omega arith)
    go false e later = rw (e, parts_behind) (omega (arith, length-map ts (λ (tⱼ : Numbered). CAt c u tⱼ.node)))

-- How many arguments a term has.
arguments : Term → ℕ
arguments (var x) = 0
arguments (app f ts) = count ts

parts_of_D_length : (c : Setting) (u v : ℕ) (s t : Term) → length (parts_of_d c u v s t) ≤ suc (arguments t)
unfolding parts_of_d arguments
parts_of_D_length c u v (var x) t = omega arith
parts_of_D_length c u v (app f ss) (var y) = omega arith
parts_of_D_length c u v (app f ss) (app g ts) = go (eqb f g) refl
  where
    go : (t : Bool) → eqb f g ≡ t → length (parts_of_d c u v (app f ss) (app g ts)) ≤ suc (count ts)
    go true e =
        rw (e, parts_of_d) (omega (arith, behind_length c u (numbered_args (suc u) ss) (numbered_args (suc v) ts), arguments_counted ts (suc v)))
    go false e =
        rw (e, parts_of_d)
        (omega (arith, length-map (numbered_args (suc v) ts) (λ (tⱼ : Numbered). CAt c u tⱼ.node), arguments_counted ts (suc v)))

parts_of_C_length : (c : Setting) (u v : ℕ) (s : Term) → length (parts_of_c c u v s) ≡ suc (arguments s)
unfolding parts_of_c arguments
parts_of_C_length c u v (var x) = refl
parts_of_C_length c u v (app f ss) =
    rw (length-append, length-map (numbered_args (suc u) ss) (λ (sᵢ : Numbered). CAt c sᵢ.node v), arguments_counted ss (suc u)) (omega arith)

arguments_at_most : (arities : List ℕ) → Every (λ a. a ≤ 6) arities → (t : Term) → T (over arities t) → arguments t ≤ 6
unfolding arguments
arguments_at_most arities six (var x) o = omega arith
arguments_at_most arities six (app f ts) o =
    omega (arith, arity_kept arities f ts o, every_at (λ a. a ≤ 6) arities f 0 (symbol_declared arities f ts o) six)

node_block_weight : (c : Setting) (s t : Numbered) → arguments s.term ≤ 6 → arguments t.term ≤ 6 → weight (node_block c s t) ≤ 296
unfolding node_block clauses_of_c
node_block_weight c s t hs ht = rw weight_append (omega (arith, of_d, of_c (some_identical s.term t.term)))
  where
    of_d : weight (all_parts (DAt c s.node t.node) (parts_of_d c s.node t.node s.term t.term)) ≤ 148
    of_d =
        omega (
          arith,
          all_parts_weight (DAt c s.node t.node) (parts_of_d c s.node t.node s.term t.term),
          parts_of_D_length c s.node t.node s.term t.term,
        )

    of_c :
        (b : Bool) →
        weight
        (elim b [
          | true ↦ (is (CAt c s.node t.node) ∷ []) ∷ []
          | false ↦ some_parts (CAt c s.node t.node) (parts_of_c c s.node t.node s.term)
        ])
        ≤ 148
    of_c true = omega arith
    of_c false =
        omega (
          arith,
          some_parts_weight (CAt c s.node t.node) (parts_of_c c s.node t.node s.term),
          parts_of_C_length c s.node t.node s.term,
        )

pub block_weights : (book : Book) → WithinLimits book → Every (λ b. weight b ≤ 480) (blocks book)
block_weights book limits =
    each_block book limits (λ b. weight b ≤ 480)
    (record {
      pair = λ f g hf hg ne. pair_block_weight n k f g bits;
      root = λ base rule h. omega arith;
      nodes = λ base rule h s t i j. omega (arith, node_block_weight (setting n k base rule) s t (few s i) (few t j));
    })
  where
    n : ℕ
    n = length book.arities

    k : ℕ
    k = rank_bits (symbols book)

    bits : k ≤ 4
    bits = (rank_bits_least (symbols book) limits.symbol_count).1 4 limits.symbol_count

    few : {end : ℕ} (s : Numbered) → Inside book.arities end s → arguments s.term ≤ 6
    few s i = arguments_at_most book.arities (every_of_members (λ a. a ≤ 6) book.arities limits.arity) s.term i.over_symbols
