-- The next step of a record before it is made: the rule that it takes, and the place.
use Rattle.std.specs.Prelude.{ℕ, suc, ◌+◌, ◌*◌, true, false, List, [], ◌∷◌}
use Rattle.std.proofs.Math.Option.{Option, none, some, map, or_else}
use Rattle.reply.specs.Reply.{Reply, given, ◌>>◌, ◌>>=◌}
use Rattle.term.specs.Term.{Term, Args, var, app, nil, cons, size}
use Rattle.book.specs.Book.{Book, Rule}
use Rattle.book.specs.Reading.{read_book}
use Rattle.record.specs.Record.{read_record}
use Rattle.order.specs.Clearing.{ranks_clear}
use Rattle.steps.specs.Fits.{fits}

-- The rule's number, and where the subterm starts in the record's bytes, two a node.
pub record Taken : Type 0 where
  pub rule : ℕ
  pub place : ℕ

-- "the rule with the lowest number" of those that fit s.
unfoldable pub lowest : List Rule → Term → Option ℕ
lowest [] s = none
lowest (rule ∷ rules) s = elim (fits rule.left s) [ true ↦ some 0 | false ↦ map suc (lowest rules s) ]

-- What is taken at a place where s starts, and not inside s.
unfoldable pub taken_at : List Rule → (place : ℕ) → (s : Term) → Option Taken
taken_at rules p s = map (λ (i : ℕ). record { rule = i; place = p }) (lowest rules s)

-- "A step takes the first place in postorder at which some rule fits": of a term that starts at a place.
unfoldable mutual
  pub taken_in : List Rule → (place : ℕ) → Term → Option Taken
  taken_in rules p (var x) = taken_at rules p (var x)
  taken_in rules p (app f ts) = or_else (taken_in_args rules (p + 2) ts) (taken_at rules p (app f ts))

  pub taken_in_args : List Rule → (place : ℕ) → Args → Option Taken
  taken_in_args rules p nil = none
  taken_in_args rules p (cons t ts) = or_else (taken_in rules p t) (taken_in_args rules (p + 2 * size t) ts)

-- The next step of a record under a cleared book; none where no rule fits.
unfoldable pub next_cleared : Book → (record' : List ℕ) → Reply (Option Taken)
next_cleared book record' = do
  t ← read_record book.arities record'
  given (taken_in book.rules 0 t)

-- The ranks are checked and refusals are given as in the run, which has a budget and a lent buffer besides: "7, 8, 11".
unfoldable pub next_step : (book ranks record' : List ℕ) → Reply (Option Taken)
next_step book ranks record' = do
  b ← read_book book
  ranks_clear b ranks
  next_cleared b record'
