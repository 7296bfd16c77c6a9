-- Ranks in an array of 16: laid there symbol by symbol, and the zeros behind them change no rank. Assumes nothing.
use Prim.Native.Nat.{ℕ, zero, suc, ◌+◌, ◌-◌, ◌≤◌, ◌<◌}
use mathlib.Core.List.{List, [], ◌∷◌, ◌++◌, map, append_assoc}
use mathlib.Core.Path.{◌≡◌, refl, sym, ap, ◌∙◌}
use native.Mathlib.Numerals.{add-one}
use native.Mathlib.Omega.{arith}
use lib.ListN.{length, get_or, set, replicate, length-map, length-append, length-replicate}
use lib.Seq.{set_at}
use Rattle.order.specs.SameRanks.{SameRanks}
use Rattle.clauses.specs.Cnf.{Assignment}
use Rattle.clauses.specs.Numbering.{numbers, rank_below, ranks_of}
use Rattle.answer.specs.PaddedRanks.{padded_ranks}
use Rattle.clauses.proofs.Lists.{numbers_length}

-- One rank for each symbol.
pub length_ranks_of : (n k : ℕ) (α : Assignment) → length (ranks_of n k α) ≡ n
unfolding ranks_of
length_ranks_of n k α = length-map (numbers 0 n) (λ f. rank_below k α f k) ∙ numbers_length 0 n

-- One rank more.
ranks_behind :
    (g : ℕ → ℕ) (first count : ℕ) → map g (numbers first (suc count)) ≡ map g (numbers first count) ++ (g (first + count) ∷ [])
unfolding numbers
ranks_behind g first zero = ap (λ (n : ℕ). g n ∷ []) (omega arith)
ranks_behind g first (suc count) =
    ap (λ (rs : List ℕ). g first ∷ rs) (ranks_behind g (suc first) count)
    ∙ ap (λ (n : ℕ). g first ∷ map g (numbers (suc first) count) ++ (g n ∷ [])) (omega arith)

module _ (k : ℕ) (α : Assignment) where
  pub no_ranks : replicate 16 0 ≡ padded_ranks 0 k α
  unfolding padded_ranks ranks_of numbers
  no_ranks = refl

  pub next_rank : (f r : ℕ) → f < 16 → r ≡ rank_below k α f k → set (padded_ranks f k α) f r ≡ padded_ranks (f + 1) k α
  unfolding padded_ranks ranks_of
  next_rank f r h e = rw (add-one, room) (set_at (ranks_of f k α) 0 rest r f (length_ranks_of f k α) ∙ sym as_laid)
    where
      room : 16 - f ≡ suc (16 - suc f)
      room = omega arith

      rest : List ℕ
      rest = replicate (16 - suc f) 0

      last : rank_below k α (0 + f) k ≡ r
      last = ap (λ (g : ℕ). rank_below k α g k) (omega arith) ∙ sym e

      as_laid : ranks_of (suc f) k α ++ rest ≡ ranks_of f k α ++ r ∷ rest
      as_laid =
          ap (λ (rs : List ℕ). rs ++ rest) (ranks_behind (λ g. rank_below k α g k) 0 f)
          ∙ append_assoc (ranks_of f k α) (rank_below k α (0 + f) k ∷ []) rest
          ∙ ap (λ (n : ℕ). ranks_of f k α ++ n ∷ rest) last

  pub length_padded : (n : ℕ) {ranks : List ℕ} → n ≤ 16 → ranks ≡ padded_ranks n k α → length ranks ≡ 16
  unfolding padded_ranks
  length_padded n h e = ap length e ∙ simp (length-append, length-replicate, length_ranks_of) (omega arith)

-- Zeros behind the ranks change no rank: a symbol without one counts as one of rank 0.
zeros : (m i : ℕ) → ◌≡◌ {A = ℕ} (get_or (replicate m 0) i 0) 0
zeros zero i = refl
zeros (suc m) zero = refl
zeros (suc m) (suc i) = zeros m i

pub same_padded : (ranks : List ℕ) (m : ℕ) → SameRanks (ranks ++ replicate m 0) ranks
same_padded [] m i = zeros m i
same_padded (r ∷ ranks) m zero = refl
same_padded (r ∷ ranks) m (suc i) = same_padded ranks m i
