-- Demand 3: a cleared book comes to rest.
use Rattle.std.specs.Prelude.{ℕ, ◌≤◌, List, ◌⊎◌, ◌≡◌, T}
use Rattle.reply.specs.Reply.{given}
use Rattle.term.specs.Term.{Term, over, variable_free}
use Rattle.book.specs.Book.{Book, Rule}
use Rattle.book.specs.Reading.{read_book}
use Rattle.record.specs.Record.{read_record}
use Rattle.order.specs.Clearing.{check_ranks}
use Rattle.steps.specs.Step.{Steps}
use Rattle.steps.specs.Run.{done, too_large, Ran, run}
use Rattle.demands.specs.EntryPoints.{Bytes}
use Rattle.demands.specs.Demand2.{SomePrecedenceClears}

-- "a number N that no sequence of rewriting steps exceeds, rule and place chosen freely, term size unlimited"
unfoldable pub Bounds : List Rule → Term → (N : ℕ) → Type 0
Bounds rules t N = (steps : ℕ) (u : Term) → Steps rules steps t u → steps ≤ N

-- "For a book cleared by some ranks, and any record without variables over its symbols, there is a number N": one for the book and the term,
-- whatever cleared the book, ranks or any strict precedence.
unfoldable pub ComesToRest : Type 1
ComesToRest =
    (N : Bytes → Term → ℕ)
    × ((bytes : Bytes) (book : Book) (t : Term) → read_book bytes ≡ given book → SomePrecedenceClears book →
    T (over book.arities t) → T (variable_free t) → Bounds book.rules t (N bytes t))

-- "So a run that isn't refused, with a budget of N or more, never answers "budget spent": it ends where no rule fits, or stops because the
-- next term would pass 256 nodes." Whichever N no sequence of steps exceeds.
unfoldable pub NeverSpent : Type 0
NeverSpent =
    (bytes ranks record' : Bytes) (budget room : ℕ) (book : Book) (t : Term) (N : ℕ) (ran : Ran) → read_book bytes ≡ given book →
    read_record book.arities record' ≡ given t → Bounds book.rules t N → N ≤ budget → run bytes ranks record' budget room ≡ given ran →
    (ran.outcome ≡ done) ⊎ (ran.outcome ≡ too_large)

-- And it isn't refused with ranks that are accepted, a well-formed record and a lent buffer of 513 bytes.
unfoldable pub NotRefused : Type 0
NotRefused =
    (bytes ranks record' : Bytes) (budget room : ℕ) (book : Book) (t : Term) → read_book bytes ≡ given book → check_ranks bytes ranks ≡ given tt →
    read_record book.arities record' ≡ given t → 513 ≤ room → (ran : Ran) × (run bytes ranks record' budget room ≡ given ran)

-- "cleared by some ranks": ranks that the rank check accepts give such an N.
unfoldable pub AcceptedRanksRest : Type 0
AcceptedRanksRest =
    (bytes ranks : Bytes) (book : Book) (t : Term) → read_book bytes ≡ given book → check_ranks bytes ranks ≡ given tt →
    T (over book.arities t) → T (variable_free t) → (N : ℕ) × Bounds book.rules t N

-- Demand 3, of the definitions: of a book that is cleared, by whatever strict precedence, and so by ranks that are accepted.
pub record Demand3 : Type 1 where
  pub comes_to_rest : ComesToRest
  pub accepted_ranks : AcceptedRanksRest
  pub never_spent : NeverSpent
  pub not_refused : NotRefused
