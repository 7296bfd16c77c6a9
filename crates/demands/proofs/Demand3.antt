-- Demand 3: a cleared book comes to rest. A strict precedence that clears gives ranks that do; ranks give a reduction order; a reduction
-- order bounds every sequence of free steps; and a run's steps are such a sequence. Assumes nothing.
use Prim.Native.Nat.{ℕ, ◌<◌}
use mathlib.Core.List.{List, Memᴰ}
use mathlib.Core.Logic.{◌⊎◌, inl, inr}
use mathlib.Core.Bool.{Bool, true, false}
use mathlib.Core.Path.{◌≡◌, refl, sym, ap, ap₂, subst, ◌∙◌}
use lib.Dec.{T}
use lib.ListN.{length}
use Rattle.reply.specs.Reply.{Reply, given, refused}
use Rattle.term.specs.Term.{Term, over}
use Rattle.reply.proofs.Tests.{passed}
use Rattle.reply.proofs.Given.{refused_not_given}
use Rattle.book.specs.Book.{Book, symbols}
use Rattle.book.specs.Reading.{read_book}
use Rattle.record.specs.Record.{read_record}
use Rattle.book.specs.Limits.{WithinLimits}
use Rattle.book.proofs.Limits.{read_within_limits}
use Rattle.order.specs.Precedence.{Above}
use Rattle.order.specs.Clearing.{Clears, ranks_clear}
use Rattle.order.specs.Exceeds.{Exceeds}
use Rattle.order.specs.Test.{exceeds}
use Rattle.order.proofs.Decides.{exceeds_decides}
use Rattle.order.proofs.Tables.{Table, some_table}
use Rattle.order.proofs.Checked.{all_decrease_decided, ranks_clear_exactly, check_of_read}
use Rattle.order.proofs.Grows.{over→declared}
use Rattle.order.proofs.RanksOfPrecedence.{ranks_of_precedence}
use Rattle.order.proofs.PathOrder.{ranks_order}
use Rattle.order.proofs.Among.{rules_go_down}
use Rattle.steps.specs.Run.{Outcome, done, spent, too_large, Ran, run_from}
use Rattle.steps.proofs.Bound.{bounded}
use Rattle.steps.proofs.Run.{never_spent_lem}
use Rattle.steps.proofs.Accepted.{accepted, run_of}
use Rattle.demands.specs.EntryPoints.{Bytes}
use Rattle.demands.specs.Demand2.{SomePrecedenceClears}
use Rattle.demands.specs.Demand3.{Bounds, ComesToRest, AcceptedRanksRest, NeverSpent, NotRefused, Demand3}

-- Ranks that clear a book bound every sequence of steps, from any term over its symbols.
pub ranks_bound :
    (book : Book) → WithinLimits book → (ranks : List ℕ) → Clears (Above ranks) book.rules →
    (t : Term) → T (over book.arities t) → (N : ℕ) × Bounds book.rules t N
unfolding Bounds
ranks_bound book limits ranks clears = bounded (ranks_order book.arities ranks) book.rules (rules_go_down limits clears)

-- Ranks below n that clear a book that some strict precedence clears.
pub clearing_ranks :
    (book : Book) → WithinLimits book → SomePrecedenceClears book →
    (ranks : List ℕ) × (length ranks ≡ symbols book) × ((rank : ℕ) → Memᴰ rank ranks → rank < symbols book) × Clears (Above ranks) book.rules
unfolding symbols
clearing_ranks book limits p =
    ranks_of_precedence (symbols book) book.rules p.above p.strict p.clears
    (λ rule m f i. over→declared book.arities (limits.left rule m).over_symbols i)
    (λ rule m f i. over→declared book.arities (limits.right rule m).over_symbols i)

-- N from the book and the term alone: of the tables of ranks 0 to n - 1 the first that clears gives it; where none does, 0.
module _ (book : Book) (limits : WithinLimits book) (t : Term) where
  abbrev ClearingTable : Type 0
  ClearingTable = Table (symbols book) (symbols book) (λ (ranks : List ℕ). Clears (Above ranks) book.rules)

  tried : Dec ClearingTable
  tried =
      some_table (symbols book) (symbols book) (λ (ranks : List ℕ). Clears (Above ranks) book.rules)
      (λ ranks. all_decrease_decided (Exceeds (Above ranks)) (exceeds ranks) (exceeds_decides ranks) book.rules)

  number : Dec ClearingTable → (o : Bool) → over book.arities t ≡ o → ℕ
  number (yes table) true o = (ranks_bound book limits table.0 table.3 t (passed o)).0
  number (yes table) false o = 0
  number (no none) o e = 0

  number_bounds :
      (table : Dec ClearingTable) (o : Bool) (e : over book.arities t ≡ o) → SomePrecedenceClears book → T (over book.arities t) →
      Bounds book.rules t (number table o e)
  unfolding number
  number_bounds (yes table) true e p h = (ranks_bound book limits table.0 table.3 t (passed e)).1
  number_bounds (yes table) false e p h = absurd (subst T e h)
  number_bounds (no none) o e p h = absurd (none (clearing_ranks book limits p))

module _ (bytes : Bytes) (t : Term) where
  number_of : (reply : Reply Book) → read_book bytes ≡ reply → ℕ
  number_of (given book) e = let limits = read_within_limits bytes book e in number book limits t (tried book limits t) (over book.arities t) refl
  number_of (refused r) e = 0

  number_of_bounds :
      (book : Book) (reply : Reply Book) (e : read_book bytes ≡ reply) → reply ≡ given book → SomePrecedenceClears book → T (over book.arities t) →
      Bounds book.rules t (number_of reply e)
  unfolding number_of
  number_of_bounds book (given b) e same p h =
      let limits = read_within_limits bytes b e in
      let its : book ≡ b = cc same in
      subst (λ (c : Book). Bounds c.rules t (number b limits t (tried b limits t) (over b.arities t) refl)) (sym its)
      (number_bounds b limits t (tried b limits t) (over b.arities t) refl (subst SomePrecedenceClears its p) (subst (λ (c : Book). T (over c.arities t)) its h))
  number_of_bounds book (refused r) e same p h = absurd (refused_not_given r book same)

comes_to_rest_lem : ComesToRest
unfolding ComesToRest
comes_to_rest_lem = (
  λ bytes t. number_of bytes t (read_book bytes) refl,
  λ bytes book t read p o free. number_of_bounds bytes t book (read_book bytes) refl read p o,
)

accepted_ranks_rest : AcceptedRanksRest
unfolding AcceptedRanksRest
accepted_ranks_rest bytes ranks book t read accepted o free =
    let cleared : ranks_clear book ranks ≡ given tt = sym (check_of_read bytes book ranks read) ∙ accepted in
    ranks_bound book (read_within_limits bytes book read) ranks ((ranks_clear_exactly book ranks).0 cleared).1 t o

-- An outcome that is not spent.
not_spent : (outcome : Outcome) → (outcome ≡ spent → ⊥) → (outcome ≡ done) ⊎ (outcome ≡ too_large)
not_spent done never = inl refl
not_spent spent never = absurd (never refl)
not_spent too_large never = inr refl

run_never_spent : NeverSpent
unfolding NeverSpent Bounds
run_never_spent bytes ranks record' budget room book t N ran read recorded bounds enough e =
    let a = accepted bytes ranks record' budget room ran e in
    let same : a.book ≡ book = cc a.readable in
    let its_term : a.term ≡ t = cc (sym a.recorded ∙ ap (λ b. read_record b.arities record') same ∙ recorded) in
    let runs : run_from book.rules budget 0 t ≡ ran = ap₂ (λ (b : Book) (u : Term). run_from b.rules budget 0 u) (sym same) (sym its_term) ∙ a.runs in
    not_spent ran.outcome (λ s. never_spent_lem book.rules t N bounds budget enough (ap (λ (r : Ran). r.outcome) runs ∙ s))

run_not_refused : NotRefused
unfolding NotRefused
run_not_refused bytes ranks record' budget room book t read accepted recorded roomy = (
  run_from book.rules budget 0 t,
  run_of bytes ranks record' budget room book t read (sym (check_of_read bytes book ranks read) ∙ accepted) recorded roomy,
)

pub demand3 : Demand3
demand3 = record { comes_to_rest = comes_to_rest_lem; accepted_ranks = accepted_ranks_rest; never_spent = run_never_spent; not_refused = run_not_refused }
