-- Demand 2: what the clause file, the rank check and a run mean.
use Rattle.std.specs.Prelude.{ℕ, ◌<◌, ◌≤◌, ◌^◌, ◌↔◌, ◌≡◌, T, length}
use mathlib.Core.List.{List, Memᴰ}
use Rattle.std.proofs.Math.Option.{none, some}
use Rattle.reply.specs.Reply.{given}
use Rattle.term.specs.Tables.{rank_bits}
use Rattle.term.specs.Term.{Term, size, over, variable_free}
use Rattle.book.specs.Book.{Book, Rule, symbols}
use Rattle.book.specs.Bytes.{book_bytes}
use Rattle.book.specs.Limits.{WithinLimits}
use Rattle.book.specs.Reading.{read_book}
use Rattle.record.specs.Record.{record_bytes, read_record}
use Rattle.order.specs.Precedence.{StrictPrecedence, Above}
use Rattle.order.specs.Clearing.{Clears, check_ranks, NewVariableNeverDecreases}
use Rattle.clauses.specs.Cnf.{Cnf, Literal, Assignment, Satisfies}
use Rattle.clauses.specs.Numbering.{ranks_of}
use Rattle.clauses.specs.Bounds.{RankBitsLeast, VariablesAtMaximum, BlocksWithin512}
use Rattle.clauses.specs.Blocks.{«V»}
use Rattle.clauses.specs.File.{clause_program}
use Rattle.clauses.specs.Dimacs.{read_dimacs}
use Rattle.answer_lines.specs.Lines.{read_answer}
use Rattle.answer_lines.specs.Values.{valued}
use Rattle.answer.specs.Ranks.{ranks_from_answer}
use Rattle.printed_answer.specs.WellFormed.{WellFormed}
use Rattle.printed_answer.specs.Decided.{Answers, Decided}
use Rattle.printed_answer.specs.Usual.{usual_answer}
use Rattle.steps.specs.Step.{Step, step_of}
use Rattle.steps.specs.Run.{Ran, Yields, run}
use Rattle.demands.specs.EntryPoints.{Bytes}

-- "Bytes of a book": exactly the bytes of the books that keep to the limits are read, each to its book ..
unfoldable pub BooksAreRead : Type 0
BooksAreRead = (bytes : Bytes) (book : Book) → (read_book bytes ≡ given book) ↔ (WithinLimits book × (bytes ≡ book_bytes book))

-- .. and as a record exactly the bytes of the terms over the book's symbols, "kind 3 nodes only .., at most 256 nodes".
unfoldable pub RecordsAreRead : Type 0
RecordsAreRead =
    (book : Book) (bytes : Bytes) (t : Term) →
    (read_record book.arities bytes ≡ given t) ↔ (T (over book.arities t) × T (variable_free t) × (size t ≤ 256) × (bytes ≡ record_bytes t))

-- A satisfying assignment of a file: of the clauses that a DIMACS reader finds in its bytes.
pub record SatisfyingAssignment (file : Bytes) (α : Assignment) : Type 0 where
  pub clauses : Cnf
  pub reads : read_dimacs file ≡ some clauses
  pub satisfies : Satisfies α clauses

-- "some strict precedence makes every rule decrease": any irreflexive, transitive relation.
pub record SomePrecedenceClears (book : Book) : Type 1 where
  pub above : ℕ → ℕ → Type 0
  pub strict : StrictPrecedence (symbols book) above
  pub clears : Clears above book.rules

-- The ranks that an assignment's rank bits are.
unfoldable pub rank_bits_of : Book → Assignment → List ℕ
rank_bits_of book α = ranks_of (symbols book) (rank_bits (symbols book)) α

-- "The clause file has a satisfying assignment exactly if some strict precedence makes every rule decrease in the lexicographic path order of
-- source document 003."
unfoldable pub SatisfiableExactlyIfCleared : Type 1
SatisfiableExactlyIfCleared =
    (bytes : Bytes) (book : Book) → read_book bytes ≡ given book →
    ((α : Assignment) × SatisfyingAssignment (clause_program bytes) α) ↔ SomePrecedenceClears book

-- "The rank bits of every satisfying assignment clear the book".
unfoldable pub RankBitsClear : Type 0
RankBitsClear =
    (bytes : Bytes) (book : Book) (α : Assignment) → read_book bytes ≡ given book →
    SatisfyingAssignment (clause_program bytes) α → Clears (Above (rank_bits_of book α)) book.rules

-- "every clearing table of ranks that fit those bits extends to one."
unfoldable pub ClearingRanksExtend : Type 0
ClearingRanksExtend =
    (bytes : Bytes) (book : Book) (ranks : List ℕ) → read_book bytes ≡ given book → length ranks ≡ symbols book →
    ((rank : ℕ) → Memᴰ rank ranks → rank < 2 ^ rank_bits (symbols book)) → Clears (Above ranks) book.rules →
    (α : Assignment) × SatisfyingAssignment (clause_program bytes) α × (rank_bits_of book α ≡ ranks)

-- In fact to exactly one, as far as the file's variables 1 to V go.
unfoldable pub ExtendOnlyOnce : Type 0
ExtendOnlyOnce =
    (bytes : Bytes) (book : Book) (α β : Assignment) → read_book bytes ≡ given book → SatisfyingAssignment (clause_program bytes) α →
    SatisfyingAssignment (clause_program bytes) β → rank_bits_of book α ≡ rank_bits_of book β →
    (v : ℕ) → 0 < v → v ≤ «V» book → α v ≡ β v

-- "Ranks are accepted exactly if they make every rule decrease", one for each symbol ..
unfoldable pub AcceptedExactlyIfDecreasing : Type 0
AcceptedExactlyIfDecreasing =
    (bytes : Bytes) (book : Book) (ranks : List ℕ) → read_book bytes ≡ given book →
    (check_ranks bytes ranks ≡ given tt) ↔ ((length ranks ≡ symbols book) × Clears (Above ranks) book.rules)

-- .. "whichever solver proposed them". Of answers exactly the well-formed texts are read, each to the values of the rank variables that it
-- names ..
unfoldable pub AnswersAreRead : Type 0
AnswersAreRead =
    (variables rank_variables : ℕ) (text : Bytes) (values : Assignment) →
    ((literals : List Literal)
    × (read_answer variables rank_variables text ≡ given literals)
    × ((v : ℕ) → 1 ≤ v → v ≤ rank_variables → valued literals v ≡ values v))
    ↔ WellFormed variables rank_variables text values

-- .. and so what comes of any text is decided: of one that is well formed and says SATISFIABLE, by its ranks alone.
unfoldable pub AnswersAreDecided : Type 0
AnswersAreDecided =
    (bytes text : Bytes) (room : ℕ) (book : Book) → read_book bytes ≡ given book →
    Decided book text room (ranks_from_answer bytes text room) (λ ranks. ranks_from_answer bytes text room ≡ given ranks)

-- What a satisfying assignment of the clause file prints, in whatever well-formed way, is accepted, and its ranks are the rank bits. The lent
-- buffer has a byte for each symbol.
unfoldable pub PrintedAnswersAreAccepted : Type 0
PrintedAnswersAreAccepted =
    (bytes : Bytes) (book : Book) (α : Assignment) (text : Bytes) (room : ℕ) → read_book bytes ≡ given book →
    SatisfyingAssignment (clause_program bytes) α → Answers book text α → length text ≤ 65536 → symbols book ≤ room →
    ranks_from_answer bytes text room ≡ given (rank_bits_of book α)

-- In the solvers' usual form, all literals in order on one line, it is never too long.
unfoldable pub UsualAnswersAreAccepted : Type 0
UsualAnswersAreAccepted =
    (bytes : Bytes) (book : Book) (α : Assignment) (room : ℕ) → read_book bytes ≡ given book → SatisfyingAssignment (clause_program bytes) α →
    symbols book ≤ room → ranks_from_answer bytes (usual_answer («V» book) α) room ≡ given (rank_bits_of book α)

-- So a book has an accepted answer, a text of bytes, exactly if some strict precedence clears it.
pub record AcceptedAnswer (bytes : Bytes) (room : ℕ) : Type 0 where
  pub text : Bytes
  pub is_bytes : (b : ℕ) → Memᴰ b text → b < 256
  pub ranks : List ℕ
  pub accepted : ranks_from_answer bytes text room ≡ given ranks

unfoldable pub AcceptedAnswerExactlyIfCleared : Type 1
AcceptedAnswerExactlyIfCleared =
    (bytes : Bytes) (book : Book) (room : ℕ) → read_book bytes ≡ given book → symbols book ≤ room →
    AcceptedAnswer bytes room ↔ SomePrecedenceClears book

-- "A run yields the term and the step count of the rewriting rules in document 01": so many of its own steps, none above 256 nodes and no
-- more than the budget, lead from the record to the term, and the outcome is the one that the term reached has ..
unfoldable pub RunYields : Type 0
RunYields =
    (bytes ranks record' : Bytes) (budget room : ℕ) (book : Book) (t : Term) (ran : Ran) → read_book bytes ≡ given book →
    read_record book.arities record' ≡ given t → run bytes ranks record' budget room ≡ given ran → Yields book.rules budget t ran

-- .. and nothing but one outcome, one count and one term is yielded.
unfoldable pub YieldsOnce : Type 0
YieldsOnce =
    (rules : List Rule) (budget : ℕ) (t : Term) (ran ran' : Ran) → Yields rules budget t ran → Yields rules budget t ran' → ran ≡ ran'

-- Document 01's step is one of the free steps, and it finds none exactly if there is none.
unfoldable pub OwnStepIsFree : Type 0
OwnStepIsFree =
    (rules : List Rule) (s : Term) →
    ((t : Term) → step_of rules s ≡ some t → Step rules s t) × ((step_of rules s ≡ none) ↔ ((t : Term) → Step rules s t → ⊥))

-- Demand 2, of the definitions: each of its sentences, and what a reader could doubt behind it.
pub record Demand2 : Type 1 where
  pub books : BooksAreRead
  pub records : RecordsAreRead
  pub satisfiable : SatisfiableExactlyIfCleared
  pub rank_bits_clear : RankBitsClear
  pub ranks_extend : ClearingRanksExtend
  pub only_once : ExtendOnlyOnce
  pub accepted : AcceptedExactlyIfDecreasing
  pub answers_read : AnswersAreRead
  pub answers : AnswersAreDecided
  pub printed_answers : PrintedAnswersAreAccepted
  pub usual_answers : UsualAnswersAreAccepted
  pub accepted_answer : AcceptedAnswerExactlyIfCleared
  pub runs : RunYields
  pub only_one_run : YieldsOnce
  pub own_steps : OwnStepIsFree
  -- The sizes that document 01 states of the clause file, and that a rule with a new variable on its right never decreases.
  pub least_bits : RankBitsLeast
  pub variables : VariablesAtMaximum
  pub blocks : BlocksWithin512
  pub new_variable : NewVariableNeverDecreases
