-- Which block has which number: the pairs "by p", and of a rule the block (C of 0,0) and then (u,v), "v fastest". Assumes nothing.
use Prim.Native.Nat.{ℕ, zero, suc, ◌+◌, ◌-◌, ◌*◌, ◌/◌, ◌%◌, ◌≤◌, ◌<◌}
use mathlib.Core.List.{List, [], ◌∷◌, map}
use mathlib.Core.Option.{some}
use mathlib.Core.Logic.{◌≢◌}
use mathlib.Core.Path.{◌≡◌, refl, sym, ap, ap₂, subst, ◌∙◌}
use native.Mathlib.Nat.{div-add-mod', div-lt_iff_lt-mul, mod-lt, mul-zero}
use native.Mathlib.Omega.{arith}
use lib.ListN.{length, get_or, get_elem?, length-map}
use borrow.Author.Tests.{eq-eqb, ne_eqb, lt-ltb, le-ltb}
use native.Mathlib.Decide.{dec_lt}
use Rattle.reply.proofs.Every.{Every}
use Rattle.term.specs.Term.{size}
use Rattle.book.specs.Book.{Rule}
use Rattle.clauses.specs.Cnf.{is, Clause}
use Rattle.clauses.specs.Numbering.{numbers}
use Rattle.clauses.specs.Blocks.{pair_block, pair_blocks_of, pair_blocks, Numbered, subterms, Setting, CAt, node_block, rule_blocks}
use Rattle.clauses.specs.Pairs.{Pair, other_symbol}
use Rattle.clauses.proofs.Inside.{subterms_counted}
use Rattle.clauses.proofs.Elements.{element_map, element_is, element_row, rows_length}
use Rattle.clauses.proofs.Lists.{numbers_length}

pub other_below : (f r : ℕ) → r < f → other_symbol f r ≡ r
unfolding other_symbol
other_below f r h = rw (lt-ltb r f h, other_symbol)

pub other_above : (f r : ℕ) → f ≤ r → other_symbol f r ≡ r + 1
unfolding other_symbol
other_above f r h = rw (le-ltb r f h, other_symbol)

number_at : (first count i : ℕ) → i < count → get_elem? (numbers first count) i ≡ some (first + i)
unfolding numbers
number_at first zero i h = absurd (omega arith)
number_at first (suc count) zero h = let same : first ≡ first + 0 = omega arith in ap some same
number_at first (suc count) (suc i) h =
    let same : suc first + i ≡ first + suc i = omega arith in
    number_at (suc first) count i (omega arith) ∙ ap some same

module _ (n k f : ℕ) where
  skip : (g : ℕ) (others : List ℕ) → f ≡ g → pair_blocks_of n k f (g ∷ others) ≡ pair_blocks_of n k f others
  unfolding pair_blocks_of
  skip g others e = rw (eq-eqb f g e, pair_blocks_of)

  keep : (g : ℕ) (others : List ℕ) → (f ≡ g → ⊥) → pair_blocks_of n k f (g ∷ others) ≡ pair_block n k f g ∷ pair_blocks_of n k f others
  unfolding pair_blocks_of
  keep g others e = rw (ne_eqb f g e, pair_blocks_of)

  -- Symbols behind f: none is left out.
  behind_length : (a m : ℕ) → f < a → length (pair_blocks_of n k f (numbers a m)) ≡ m
  unfolding numbers pair_blocks_of
  behind_length a zero h = refl
  behind_length a (suc m) h =
      ap length (keep a (numbers (suc a) m) (λ e. omega arith)) ∙ ap suc (behind_length (suc a) m (omega arith))

  behind_at : (a m r : ℕ) → f < a → r < m → get_elem? (pair_blocks_of n k f (numbers a m)) r ≡ some (pair_block n k f (a + r))
  unfolding numbers
  behind_at a zero r h k' = absurd (omega arith)
  behind_at a (suc m) zero h k' =
      let same : a ≡ a + 0 = omega arith in
      ap (λ (l : List (List Clause)). get_elem? l 0) (keep a (numbers (suc a) m) (λ e. omega arith))
      ∙ ap (λ (g : ℕ). some (pair_block n k f g)) same
  behind_at a (suc m) (suc r) h k' =
      let same : suc a + r ≡ a + suc r = omega arith in
      ap (λ (l : List (List Clause)). get_elem? l (suc r)) (keep a (numbers (suc a) m) (λ e. omega arith))
      ∙ behind_at (suc a) m r (omega arith) (omega arith)
      ∙ ap (λ (g : ℕ). some (pair_block n k f g)) same

  -- Symbols around f: it is left out.
  around_length : (a m : ℕ) → a ≤ f → f < a + m → length (pair_blocks_of n k f (numbers a m)) ≡ m - 1
  unfolding numbers
  around_length a zero h k' = absurd (omega arith)
  around_length a (suc m) h k' =
      elim (dec_lt a f) [
        | yes before ↦
            ap length (keep a (numbers (suc a) m) (λ e. omega arith)) ∙ omega (arith, around_length (suc a) m (omega arith) (omega arith))
        | no here ↦ ap length (skip a (numbers (suc a) m) (omega arith)) ∙ omega (arith, behind_length (suc a) m (omega arith))
      ]

  around_here :
      (a m r : ℕ) → (a < f → ⊥) → a ≤ f → r < m → get_elem? (pair_blocks_of n k f (a ∷ numbers (suc a) m)) r ≡ some (pair_block n k f (other_symbol f (a + r)))
  around_here a m r here h l =
      let same : suc a + r ≡ a + r + 1 = omega arith in
      ap (λ (l : List (List Clause)). get_elem? l r) (skip a (numbers (suc a) m) (omega arith))
      ∙ behind_at (suc a) m r (omega arith) l
      ∙ ap (λ (g : ℕ). some (pair_block n k f g)) (same ∙ sym (other_above f (a + r) (omega arith)))

  around_at :
      (a m r : ℕ) → a ≤ f → f < a + m → r < m - 1 → get_elem? (pair_blocks_of n k f (numbers a m)) r ≡ some (pair_block n k f (other_symbol f (a + r)))
  unfolding numbers
  around_at a zero r h k' l = absurd (omega arith)
  around_at a (suc m) zero h k' l =
      elim (dec_lt a f) [
        | yes before ↦
            let same : a ≡ a + 0 = omega arith in
            ap (λ (l : List (List Clause)). get_elem? l 0) (keep a (numbers (suc a) m) (λ e. omega arith))
            ∙ ap (λ (g : ℕ). some (pair_block n k f g)) (same ∙ sym (other_below f (a + 0) (omega arith)))
        | no here ↦ around_here a m 0 here h (omega arith)
      ]
  around_at a (suc m) (suc r) h k' l =
      elim (dec_lt a f) [
        | yes before ↦
            let same : suc a + r ≡ a + suc r = omega arith in
            ap (λ (l : List (List Clause)). get_elem? l (suc r)) (keep a (numbers (suc a) m) (λ e. omega arith))
            ∙ around_at (suc a) m r (omega arith) (omega arith) (omega arith)
            ∙ ap (λ (g : ℕ). some (pair_block n k f (other_symbol f g))) same
        | no here ↦ around_here a m (suc r) here h (omega arith)
      ]

pairs_width : (n k a m : ℕ) → a + m ≤ n → Every (λ (f : ℕ). length (pair_blocks_of n k f (numbers 0 n)) ≡ n - 1) (numbers a m)
unfolding numbers
pairs_width n k a zero h = tt
pairs_width n k a (suc m) h = (around_length n k a 0 n (omega arith) (omega arith), pairs_width n k (suc a) m (omega arith))

pub pairs_count : (n k : ℕ) → length (pair_blocks n k) ≡ n * (n - 1)
unfolding pair_blocks
pairs_count n k =
    rows_length (λ f. pair_blocks_of n k f (numbers 0 n)) (n - 1) (numbers 0 n) (pairs_width n k 0 n (omega arith))
    ∙ ap (λ (m : ℕ). m * (n - 1)) (numbers_length 0 n)

-- The pair with number p: f is p divided by n − 1, and g the symbol other_symbol f with the remainder's number.
pub pair_at : (n k f r : ℕ) → f < n → r < n - 1 → get_elem? (pair_blocks n k) (f * (n - 1) + r) ≡ some (pair_block n k f (other_symbol f r))
unfolding pair_blocks
pair_at n k f r h l =
    let zeroth : 0 + f ≡ f = omega arith in
    let same : 0 + r ≡ r = omega arith in
    element_row (λ f. pair_blocks_of n k f (numbers 0 n)) (n - 1) (numbers 0 n) (pairs_width n k 0 n (omega arith)) f r
    (number_at 0 n f h ∙ ap some zeroth) l
    ∙ around_at n k f 0 n r (omega arith) (omega arith) l
    ∙ ap (λ (g : ℕ). some (pair_block n k f (other_symbol f g))) same

-- A pair by its number p.
module _ (n p others : ℕ) (few : n ≤ 16) (within : p < n * (n - 1)) (e : others ≡ n - 1) where
  pub some_others : 0 < others
  some_others = go others e
    where
      go : (m : ℕ) → m ≡ n - 1 → 0 < m
      go zero f = absurd (omega (arith, ap (λ (x : ℕ). n * x) (sym f), mul-zero n))
      go (suc m) f = omega arith

  first_below : p / others < n
  first_below = (div-lt_iff_lt-mul some_others).1 (subst (λ (m : ℕ). p < n * m) (sym e) within)

  rest_below : p % others < n - 1
  rest_below = omega (arith, mod-lt p some_others)

  pub rest_small : p % others < 16
  rest_small = omega (arith, rest_below)

  pub pair_of_number : Pair n (p / others) (other_symbol (p / others) (p % others))
  pair_of_number =
      elim (dec_lt (p % others) (p / others)) [
        | yes below ↦ of_symbol (other_below (p / others) (p % others) below) (omega (arith, rest_below)) (λ same. omega arith)
        | no above ↦ of_symbol (other_above (p / others) (p % others) (omega arith)) (omega (arith, rest_below)) (λ same. omega arith)
      ]
    where
      of_symbol : {g : ℕ} → other_symbol (p / others) (p % others) ≡ g → g < 16 → p / others ≢ g → Pair n (p / others) (other_symbol (p / others) (p % others))
      of_symbol same small differ =
          rw same (record { few = few; one = omega (arith, first_below); other = small; different = differ })

  pub block_of_number :
      {k bits g : ℕ} → k ≡ bits → g ≡ other_symbol (p / others) (p % others) → pair_block n k (p / others) g ≡ get_or (pair_blocks n bits) p []
  block_of_number {bits = bits} f g =
      ap₂ (λ (k g : ℕ). pair_block n k (p / others) g) f g
      ∙ element_is (pair_blocks n bits) p []
      (ap (get_elem? (pair_blocks n bits)) (sym (div-add-mod' p others) ∙ ap (λ (m : ℕ). p / others * m + p % others) e)
      ∙ pair_at n bits (p / others) (p % others) first_below rest_below)

-- The blocks of a rule.
module _ (c : Setting) (rule : Rule) where
  abbrev row : Numbered → List (List Clause)
  row s = map (λ t. node_block c s t) (subterms 0 rule.right)

  row_width : (l : List Numbered) → Every (λ (s : Numbered). length (row s) ≡ size rule.right) l
  row_width [] = tt
  row_width (s ∷ l) = (length-map (subterms 0 rule.right) (λ t. node_block c s t) ∙ subterms_counted rule.right 0, row_width l)

  pub rule_blocks_count : length (rule_blocks c rule) ≡ 1 + size rule.left * size rule.right
  unfolding rule_blocks
  rule_blocks_count =
      let rows = rows_length row (size rule.right) (subterms 0 rule.left) (row_width (subterms 0 rule.left)) in
      let many = ap (λ (m : ℕ). m * size rule.right) (subterms_counted rule.left 0) in
      omega arith

  pub rule_root_at : get_elem? (rule_blocks c rule) 0 ≡ some ((is (CAt c 0 0) ∷ []) ∷ [])
  unfolding rule_blocks
  rule_root_at = refl

  pub rule_nodes_at :
      (u v : ℕ) {s t : Numbered} → get_elem? (subterms 0 rule.left) u ≡ some s → get_elem? (subterms 0 rule.right) v ≡ some t → v < size rule.right →
      get_elem? (rule_blocks c rule) (suc (u * size rule.right + v)) ≡ some (node_block c s t)
  unfolding rule_blocks
  rule_nodes_at u v {s} hs ht h =
      element_row row (size rule.right) (subterms 0 rule.left) (row_width (subterms 0 rule.left)) u v hs h
      ∙ element_map (λ t. node_block c s t) (subterms 0 rule.right) v ht
