-- The clauses of a book, block by block, behind the header.
use Rattle.std.specs.Prelude.{ℕ, zero, suc, ◌+◌, Bool, true, false, eqb}
use mathlib.Core.List.{List, [], ◌∷◌, ◌++◌, map, flat_map}
use Rattle.term.specs.Tables.{rank_bits}
use Rattle.term.specs.Term.{Term, Args, var, app, nil, cons, size, same}
use Rattle.book.specs.Book.{Book, Rule, symbols}
use Rattle.order.specs.Test.{some_arg}
use Rattle.clauses.specs.Cnf.{is, is_not, Clause}
use Rattle.clauses.specs.Numbering.{bit, G, first_base, base_after, C, D, numbers}
use Rattle.clauses.specs.Wholes.{all_parts, some_parts}

-- "for j = 1 (−G a)(−G −b)(G −a b)"
unfoldable pub lowest_bit : (g₁ a b : ℕ) → List Clause
lowest_bit g₁ a b = (is_not g₁ ∷ is a ∷ []) ∷ (is_not g₁ ∷ is_not b ∷ []) ∷ (is g₁ ∷ is_not a ∷ is b ∷ []) ∷ []

-- "for larger j (G −a b)(G −a −q)(G b −q)(−G a −b)(−G a q)(−G −b q)"
unfoldable pub higher_bit : (gⱼ a b q : ℕ) → List Clause
higher_bit gⱼ a b q =
    (is gⱼ ∷ is_not a ∷ is b ∷ [])
    ∷ (is gⱼ ∷ is_not a ∷ is_not q ∷ [])
    ∷ (is gⱼ ∷ is b ∷ is_not q ∷ [])
    ∷ (is_not gⱼ ∷ is a ∷ is_not b ∷ [])
    ∷ (is_not gⱼ ∷ is a ∷ is q ∷ [])
    ∷ (is_not gⱼ ∷ is_not b ∷ is q ∷ [])
    ∷ []

-- "With G for G(f,g,j), a and b for bit j−1 of f and g, q for G(f,g,j−1)"; here by the bit j−1.
unfoldable pub pair_clauses : (n k f g b : ℕ) → List Clause
pair_clauses n k f g zero = lowest_bit (G n k f g 1) (bit k f 0) (bit k g 0)
pair_clauses n k f g (suc i) = higher_bit (G n k f g (suc (suc i))) (bit k f (suc i)) (bit k g (suc i)) (G n k f g (suc i))

unfoldable pub pair_block : (n k f g : ℕ) → List Clause
pair_block n k f g = flat_map (pair_clauses n k f g) (numbers 0 k)

-- "Then a block for each ordered pair f ≠ g, by p": f's pairs with each of `others` but itself.
unfoldable pub pair_blocks_of : (n k f : ℕ) (others : List ℕ) → List (List Clause)
pair_blocks_of n k f [] = []
pair_blocks_of n k f (g ∷ others) =
    elim (eqb f g) [ true ↦ pair_blocks_of n k f others | false ↦ pair_block n k f g ∷ pair_blocks_of n k f others ]

unfoldable pub pair_blocks : (n k : ℕ) → List (List Clause)
pair_blocks n k = flat_map (λ f. pair_blocks_of n k f (numbers 0 n)) (numbers 0 n)

-- A subterm with the number of its root in its side, "prefix order from 0".
pub record Numbered : Type 0 where
  pub node : ℕ
  pub term : Term

-- Arguments, the first of which stands at u.
unfoldable pub numbered_args : (u : ℕ) → Args → List Numbered
numbered_args u nil = []
numbered_args u (cons t ts) = record { node = u; term = t } ∷ numbered_args (u + size t) ts

-- All subterms of a term that stands at u, in prefix order.
unfoldable mutual
  pub subterms : (u : ℕ) → Term → List Numbered
  subterms u (var x) = record { node = u; term = var x } ∷ []
  subterms u (app f ts) = record { node = u; term = app f ts } ∷ subterms_of (suc u) ts

  pub subterms_of : (u : ℕ) → Args → List Numbered
  subterms_of u nil = []
  subterms_of u (cons t ts) = subterms u t ++ subterms_of (u + size t) ts

-- What the blocks of one rule share: n, k, the rule's base and |r|.
pub record Setting : Type 0 where
  pub n : ℕ
  pub k : ℕ
  pub base : ℕ
  pub width : ℕ

unfoldable pub CAt : Setting → (u v : ℕ) → ℕ
CAt c u v = C c.base c.width u v

unfoldable pub DAt : Setting → (u v : ℕ) → ℕ
DAt c u v = D c.base c.width u v

-- "the arguments first differ at i, C(si,ti), then C(s,tj) for j > i"
unfoldable pub parts_behind : Setting → (u : ℕ) → List Numbered → List Numbered → List ℕ
parts_behind c u [] ts = []
parts_behind c u (a ∷ ss) [] = []
parts_behind c u (a ∷ ss) (b ∷ ts) =
    elim (same a.term b.term) [
      | true ↦ parts_behind c u ss ts
      | false ↦ CAt c a.node b.node ∷ map (λ (tⱼ : Numbered). CAt c u tⱼ.node) ts
    ]

-- D's parts: "if both roots are symbols and differ, G(f,g,k), then C(s,tj) for each j"; "the same symbol", as above; "otherwise D has
-- no parts".
unfoldable pub parts_of_d : Setting → (u v : ℕ) → (s t : Term) → List ℕ
parts_of_d c u v (var x) t = []
parts_of_d c u v (app f ss) (var y) = []
parts_of_d c u v (app f ss) (app g ts) =
    elim (eqb f g) [
      | true ↦ parts_behind c u (numbered_args (suc u) ss) (numbered_args (suc v) ts)
      | false ↦
          G c.n c.k f g c.k ∷ map (λ (tⱼ : Numbered). CAt c u tⱼ.node) (numbered_args (suc v) ts)
    ]

-- C's parts: "C(si,t) for each i, then D".
unfoldable pub parts_of_c : Setting → (u v : ℕ) → (s : Term) → List ℕ
parts_of_c c u v (var x) = DAt c u v ∷ []
parts_of_c c u v (app f ss) = map (λ (sᵢ : Numbered). CAt c sᵢ.node v) (numbered_args (suc u) ss) ++ (DAt c u v ∷ [])

-- "some si is identical to t"
unfoldable pub some_identical : (s t : Term) → Bool
some_identical (var x) t = false
some_identical (app f ss) t = some_arg (λ sᵢ. same sᵢ t) ss

-- C's clauses: "If some si is identical to t: (C). Otherwise its parts are C(si,t) for each i, then D".
unfoldable pub clauses_of_c : Setting → (u v : ℕ) (s t : Term) → List Clause
clauses_of_c c u v s t =
    elim (some_identical s t) [ true ↦ (is (CAt c u v) ∷ []) ∷ [] | false ↦ some_parts (CAt c u v) (parts_of_c c u v s) ]

-- The block of nodes u and v, s and t their subterms: "D first", then C.
unfoldable pub node_block : Setting → (s t : Numbered) → List Clause
node_block c s t =
    all_parts (DAt c s.node t.node) (parts_of_d c s.node t.node s.term t.term)
    ++ clauses_of_c c s.node t.node s.term t.term

-- "for each rule a block (C of 0,0), and a block for each (u,v), v fastest"
unfoldable pub rule_blocks : Setting → Rule → List (List Clause)
rule_blocks c rule =
    ((is (CAt c 0 0) ∷ []) ∷ [])
    ∷ flat_map (λ s. map (λ t. node_block c s t) (subterms 0 rule.right)) (subterms 0 rule.left)

unfoldable pub rules_blocks : (n k base : ℕ) → List Rule → List (List Clause)
rules_blocks n k base [] = []
rules_blocks n k base (rule ∷ rules) =
    rule_blocks (record { n = n; k = k; base = base; width = size rule.right }) rule
    ++ rules_blocks n k (base_after base rule) rules

-- All blocks behind the header, in their order.
unfoldable pub blocks : Book → List (List Clause)
blocks book =
    pair_blocks (symbols book) (rank_bits (symbols book))
    ++ rules_blocks (symbols book) (rank_bits (symbols book)) (first_base (symbols book) (rank_bits (symbols book))) book.rules

-- "V the base after the last rule"
unfoldable pub base_behind : (base : ℕ) → List Rule → ℕ
base_behind base [] = base
base_behind base (rule ∷ rules) = base_behind (base_after base rule) rules

unfoldable pub «V» : Book → ℕ
«V» book = base_behind (first_base (symbols book) (rank_bits (symbols book))) book.rules
