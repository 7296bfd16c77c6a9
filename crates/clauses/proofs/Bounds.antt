-- The bounds that document 01 states: at most 7,424 variables, and no block above 512 bytes. A literal takes at most six bytes,
-- as 7,424 has four digits; the header is short, as there are fewer than 10^7 clauses. Assumes nothing.
use Prim.Native.Nat.{ℕ, ◌+◌, ◌*◌, ◌≤◌, ◌<◌}
use mathlib.Core.List.{List, [], ◌∷◌, flat_map, flatten, Memᴰ}
use native.Mathlib.Nat.{mul-le-mul}
use native.Mathlib.Omega.{arith}
use lib.ListN.{length, length-append}
use Rattle.text.specs.Text.{ascii}
use Rattle.text.proofs.Decimal.{decimal_length}
use Rattle.reply.proofs.Every.{Every, every_map, every_both, every_member}
use Rattle.term.specs.Tables.{rank_bits}
use Rattle.term.proofs.Tables.{rank_bits_least}
use Rattle.book.specs.Book.{Book, Rule, symbols}
use Rattle.book.specs.Limits.{WithinLimits}
use Rattle.clauses.specs.Cnf.{Literal, is, is_not, Clause, variable_of}
use Rattle.clauses.specs.Numbering.{first_base, base_after}
use Rattle.clauses.specs.Blocks.{blocks, base_behind, «V»}
use Rattle.clauses.specs.File.{literal_bytes, clause_bytes, header, file_blocks, counts_text}
use Rattle.clauses.proofs.Items.{Within, Over}
use Rattle.clauses.proofs.WithinV.{blocks_within_V}
use Rattle.clauses.proofs.Counts.{Small, small_rules, clauses_at_most}
use Rattle.clauses.proofs.Weights.{weight, block_weights}

base_at_most : (base : ℕ) (rules : List Rule) → Every Small rules → base_behind base rules ≤ base + 200 * length rules
unfolding base_behind base_after
base_at_most base [] small = omega arith
base_at_most base (rule ∷ rules) small =
    omega (arith, base_at_most (base_after base rule) rules small.1, mul-le-mul small.0.left small.0.right)

pub variables_at_most : (book : Book) → WithinLimits book → «V» book ≤ 7424
unfolding «V» first_base
variables_at_most book limits =
    omega (
      arith,
      base_at_most (n * n * k) book.rules (small_rules book limits),
      mul-le-mul {n₁ = n * n} {m₁ = k} {n₂ = 256} {m₂ = 4} square ((rank_bits_least n few).1 4 few),
      limits.rule_count,
    )
  where
    n : ℕ
    n = symbols book

    k : ℕ
    k = rank_bits n

    few : n ≤ 16
    few = limits.symbol_count

    square : n * n ≤ 256
    square = mul-le-mul few few

-- A literal of four digits at most.
literal_length : (top : ℕ) → top < 10000 → (l : Literal) → Within top (variable_of l) → length (literal_bytes l) ≤ 6
unfolding literal_bytes ascii
literal_length top h (is v) w = rw length-append (omega (arith, decimal_length v 4 (omega arith) (omega arith)))
literal_length top h (is_not v) w = rw length-append (omega (arith, decimal_length v 4 (omega arith) (omega arith)))

literals_length : (top : ℕ) → top < 10000 → (c : Clause) → Over top c → length (flat_map literal_bytes c) ≤ 6 * length c
unfolding flat_map
literals_length top h [] o = omega arith
literals_length top h (l ∷ ls) o = rw length-append (omega (arith, literal_length top h l o.0, literals_length top h ls o.1))

block_length : (top : ℕ) → top < 10000 → (b : List Clause) → Every (Over top) b → length (flat_map clause_bytes b) ≤ weight b
unfolding flat_map clause_bytes ascii
block_length top h [] o = omega arith
block_length top h (c ∷ cs) o =
    rw (length-append, length-append) (omega (arith, literals_length top h c o.0, block_length top h cs o.1))

header_length : (book : Book) → WithinLimits book → length (header book) ≤ 512
unfolding header counts_text ascii
header_length book limits =
    simp length-append
    (omega (
      arith,
      decimal_length («V» book) 4 (omega arith) (omega (arith, variables_at_most book limits)),
      decimal_length (length (flatten (blocks book))) 7 (omega arith) (clauses_at_most book limits),
    ))

pub block_at_most : (book : Book) → WithinLimits book → (block : List ℕ) → Memᴰ block (file_blocks book) → length block ≤ 512
unfolding file_blocks
block_at_most book limits block m =
    every_member (λ bytes. length bytes ≤ 512) m (
      header_length book limits,
      every_map (λ b. Every (Over («V» book)) b × (weight b ≤ 480)) (λ bytes. length bytes ≤ 512) (flat_map clause_bytes)
          (λ b h. omega (arith, block_length («V» book) (omega (arith, variables_at_most book limits)) b h.0, h.1))
          (blocks book) (every_both (Every (Over («V» book))) (λ b. weight b ≤ 480) (blocks book) (blocks_within_V book limits) (block_weights book limits)),
    )
