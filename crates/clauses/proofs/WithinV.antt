-- Every variable in every clause of a book lies between 1 and V, block by block. Assumes nothing.
use Prim.Native.Nat.{ℕ, zero, suc, ◌^◌, ◌≤◌, ◌<◌}
use mathlib.Core.List.{List}
use mathlib.Core.Logic.{◌≢◌}
use native.Mathlib.Omega.{arith}
use lib.ListN.{length}
use Rattle.reply.proofs.Every.{Every, every_of_members, every_flat_map}
use Rattle.term.specs.Tables.{rank_bits}
use Rattle.term.specs.Term.{size}
use Rattle.term.proofs.Tables.{rank_bits_least}
use Rattle.book.specs.Book.{Book, Rule, symbols}
use Rattle.book.specs.Limits.{WithinLimits}
use Rattle.clauses.specs.Numbering.{bit, G, first_base, base_after, numbers}
use Rattle.clauses.specs.Blocks.{pair_clauses, pair_block, CAt, DAt, blocks, «V», lowest_bit, higher_bit}
use Rattle.clauses.proofs.Items.{Within, Over}
use Rattle.clauses.proofs.ClauseLists.{numbers_below}
use Rattle.clauses.proofs.Numbers.{bit_within, G_within, C_within, D_within, base_grows}
use Rattle.clauses.proofs.Inside.{size_positive}
use Rattle.clauses.proofs.EachBlock.{setting, each_block}
use Rattle.clauses.proofs.NodesWithin.{Fits, node_block_over}

within_more : (a b v : ℕ) → a ≤ b → Within a v → Within b v
within_more a b v h w = record { first = w.first; last = omega arith }

-- The blocks of pairs, up to n²·k.
module _ (n k top : ℕ) (room : first_base n k ≤ top) where
  bit_over : (f b : ℕ) → f < n → b < k → Within top (bit k f b)
  bit_over f b hf hb = within_more (first_base n k) top (bit k f b) room (bit_within n k f b hf hb)

  G_over : (f g j : ℕ) → f < n → g < n → f ≢ g → 0 < j → j ≤ k → Within top (G n k f g j)
  G_over f g j hf hg ne pos h = within_more (first_base n k) top (G n k f g j) room (G_within n k f g j hf hg ne pos h)

  pair_clauses_over : (f g b : ℕ) → f < n → g < n → f ≢ g → b < k → Every (Over top) (pair_clauses n k f g b)
  unfolding pair_clauses lowest_bit higher_bit
  pair_clauses_over f g zero hf hg ne hb =
      let larger = G_over f g 1 hf hg ne (omega arith) (omega arith) in
      let a = bit_over f 0 hf hb in
      let b = bit_over g 0 hg hb in
      ((larger, (a, tt)), ((larger, (b, tt)), ((larger, (a, (b, tt))), tt)))
  pair_clauses_over f g (suc i) hf hg ne hb =
      let larger = G_over f g (suc (suc i)) hf hg ne (omega arith) (omega arith) in
      let q = G_over f g (suc i) hf hg ne (omega arith) (omega arith) in
      let a = bit_over f (suc i) hf hb in
      let b = bit_over g (suc i) hg hb in
      ((larger, (a, (b, tt))), ((larger, (a, (q, tt))), ((larger, (b, (q, tt))), ((larger, (a, (b, tt))), ((larger, (a, (q, tt))), ((larger, (b, (q, tt))), tt))))))

  pair_block_over : (f g : ℕ) → f < n → g < n → f ≢ g → Every (Over top) (pair_block n k f g)
  unfolding pair_block
  pair_block_over f g hf hg ne =
      every_flat_map (λ b. b < k) (Over top) (pair_clauses n k f g) (λ b hb. pair_clauses_over f g b hf hg ne hb) (numbers 0 k)
      (every_of_members (λ b. b < k) (numbers 0 k) (λ b m. (numbers_below k b).0 m))

-- The blocks of a rule, up to the base after it.
rule_fits :
    (arities : List ℕ) (k top base : ℕ) (rule : Rule) → first_base (length arities) k ≤ top →
    ((f g : ℕ) → f < length arities → g < length arities → f ≢ g → 0 < k) →
    base_after base rule ≤ top → Fits arities top (size rule.left) (setting (length arities) k base rule)
unfolding CAt DAt
rule_fits arities k top base rule room some_bits h =
    record {
      C_fits = λ u v hu hv. within_more (base_after base rule) top _ h (C_within base rule u v hu hv);
      D_fits = λ u v hu hv. within_more (base_after base rule) top _ h (D_within base rule u v hu hv);
      G_fits = λ f g hf hg ne. G_over (length arities) k top room f g k hf hg ne (some_bits f g hf hg ne) (omega arith);
    }

-- Two different symbols need a bit.
bits_of_two : (n k f g : ℕ) → n ≤ 2 ^ k → f < n → g < n → f ≢ g → 0 < k
bits_of_two n zero f g h hf hg ne = absurd (omega arith)
bits_of_two n (suc k) f g h hf hg ne = omega arith

pub blocks_within_V : (book : Book) → WithinLimits book → Every (Every (Over («V» book))) (blocks book)
unfolding symbols
blocks_within_V book limits =
    each_block book limits (Every (Over («V» book)))
    (record {
      pair = pair_block_over n k («V» book) room;
      root =
          λ base rule h.
          (((fits base rule h).C_fits 0 0 (size_positive rule.left) (size_positive rule.right), tt), tt);
      nodes = λ base rule h s t i j. node_block_over book.arities («V» book) (size rule.left) (setting n k base rule) (fits base rule h) s t i j;
    })
  where
    n : ℕ
    n = symbols book

    k : ℕ
    k = rank_bits n

    room : first_base n k ≤ «V» book
    room = unfold «V» in base_grows (first_base n k) book.rules

    fits : (base : ℕ) (rule : Rule) → base_after base rule ≤ «V» book → Fits book.arities («V» book) (size rule.left) (setting n k base rule)
    fits base rule h =
        rule_fits book.arities k («V» book) base rule room
        (λ f g hf hg ne. bits_of_two n k f g (rank_bits_least n limits.symbol_count).0 hf hg ne) h
