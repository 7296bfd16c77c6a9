-- How many blocks the clause file of a read book has: the header, one for each ordered pair, and |l||r| + 1 for each rule. Assumes nothing.
use Prim.Native.Nat.{ℕ, zero, suc, ◌+◌, ◌-◌, ◌*◌, ◌≤◌, ◌<◌}
use mathlib.Core.List.{List, [], ◌∷◌, flat_map}
use mathlib.Core.Path.{◌≡◌, refl, sym, ap, ap₂, ◌∙◌}
use native.Mathlib.Nat.{mul-suc}
use native.Mathlib.Omega.{arith}
use lib.ListN.{length, drop, drop_of_length-le, length-append, length-map}
use Rattle.term.specs.Tables.{rank_bits}
use Rattle.term.specs.Term.{size}
use Rattle.book.specs.Book.{Book, Rule, symbols}
use Rattle.book.specs.Entries.{places_of}
use Rattle.book.specs.Meaning.{book_at}
use Rattle.book.specs.declared.Book.{Book as Places}
use Rattle.clauses.specs.Numbering.{base_after, first_base}
use Rattle.clauses.specs.Blocks.{pair_blocks, rule_blocks, rules_blocks, blocks}
use Rattle.clauses.specs.File.{clause_bytes, file_blocks}
use Rattle.book.specs.WasRead.{ReadFrom}
use Rattle.clauses.proofs.BlockNumbers.{pairs_count, rule_blocks_count}
use Rattle.book.proofs.WasRead.{read_stands}
use Rattle.counts.proofs.ReadRules.{read_symbols, rule_next}

-- The blocks of these rules: "for each rule a block (C of 0,0), and a block for each (u,v)".
unfoldable pub blocks_of : List Rule → ℕ
blocks_of [] = 0
blocks_of (rule ∷ rules) = 1 + size rule.left * size rule.right + blocks_of rules

rules_blocks_count : (n k base : ℕ) (rules : List Rule) → length (rules_blocks n k base rules) ≡ blocks_of rules
unfolding rules_blocks blocks_of
rules_blocks_count n k base [] = refl
rules_blocks_count n k base (rule ∷ rules) =
    length-append (rule_blocks (record { n = n; k = k; base = base; width = size rule.right }) rule) (rules_blocks n k (base_after base rule) rules)
    ∙ ap₂ ◌+◌ (rule_blocks_count (record { n = n; k = k; base = base; width = size rule.right }) rule)
    (rules_blocks_count n k (base_after base rule) rules)

pub file_blocks_count : (book : Book) → length (file_blocks book) ≡ 1 + symbols book * (symbols book - 1) + blocks_of book.rules
unfolding file_blocks blocks
file_blocks_count book =
    let n = symbols book in
    let k = rank_bits n in
    let all = length-map (blocks book) (flat_map clause_bytes) in
    let both = length-append (pair_blocks n k) (rules_blocks n k (first_base n k) book.rules) in
    let pairs = pairs_count n k in
    let rules = rules_blocks_count n k (first_base n k) book.rules in
    omega arith

-- n(n − 1), as the code forms it.
pub squares : (n : ℕ) → n * n ≡ n * (n - 1) + n
squares zero = omega arith
squares (suc n) = let one : suc n - 1 ≡ n = omega arith in mul-suc (suc n) n ∙ ap (λ (m : ℕ). suc n * m + suc n) (sym one)

-- So many blocks stand before rule i.
abbrev pub CountedTo : Places → (count i : ℕ) → Type 0
CountedTo b count i = (bytes : List ℕ) → ReadFrom bytes b → count + blocks_of (drop i (book_at bytes b).rules) ≡ length (file_blocks (book_at bytes b))

pub count_starts : (b : Places) (count : ℕ) → count ≡ 1 + b.symbols * b.symbols - b.symbols → CountedTo b count 0
count_starts b count is bytes read =
    let n = read_symbols read in
    let pairs = ap (λ (n : ℕ). n * (n - 1)) n in
    omega (arith, file_blocks_count (book_at bytes b), squares b.symbols)

pub count_goes_on :
    (b : Places) (count i : ℕ) → CountedTo b count i → i < b.rules → (count' : ℕ) →
    count' ≡ count + (1 + (places_of b i).left.nodes * (places_of b i).right.nodes) → CountedTo b count' (i + 1)
unfolding blocks_of
count_goes_on b count i known h count' is bytes read =
    let here = rule_next read i h in
    let next = ap blocks_of here.next in
    let nodes = ap₂ ◌*◌ here.left here.right in
    omega (arith, known bytes read)

pub count_ends :
    (b : Places) (count i : ℕ) → CountedTo b count i → b.rules ≤ i → (bytes : List ℕ) → ReadFrom bytes b → count ≡ length (file_blocks (book_at bytes b))
unfolding blocks_of
count_ends b count i known h bytes read =
    let none = ap blocks_of (drop_of_length-le (book_at bytes b).rules {i = i} (omega (arith, (read_stands read).rule_count))) in
    omega (arith, known bytes read)
