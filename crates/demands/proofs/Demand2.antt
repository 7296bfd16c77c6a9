-- Demand 2: the clause file, the rank check and a run mean what document 01 says. The file's bytes are read back to its clauses, which hold
-- exactly if their equations do; those are the order's. Assumes nothing.
use Prim.Native.Nat.{ℕ, ◌<◌, ◌^◌}
use mathlib.Core.List.{List, Memᴰ}
use mathlib.Core.Option.{some}
use mathlib.Core.Path.{◌≡◌, refl, sym, ap, ap₂, subst, ◌∙◌}
use native.Mathlib.Nat.{lt_of_lt_of_le}
use lib.Dec.{T}
use Rattle.reply.specs.Reply.{given}
use Rattle.reply.proofs.Every.{every_member}
use Rattle.term.specs.Tables.{rank_bits}
use Rattle.term.proofs.Tables.{rank_bits_least}
use Rattle.term.specs.Term.{Term}
use Rattle.book.specs.Book.{Book, symbols}
use Rattle.book.specs.Reading.{read_book}
use Rattle.record.specs.Record.{read_record}
use Rattle.book.specs.Limits.{WithinLimits}
use Rattle.book.proofs.Limits.{read_within_limits}
use Rattle.book.proofs.ReadExactly.{book_read_exactly}
use Rattle.record.proofs.ReadExactly.{record_read_exactly}
use Rattle.order.specs.Precedence.{Above}
use Rattle.order.specs.Clearing.{Clears}
use Rattle.order.proofs.Checked.{accepted_exactly}
use Rattle.order.proofs.RanksStrict.{ranks_strict}
use Rattle.clauses.specs.Cnf.{Cnf, Assignment, Satisfies, all_hold}
use Rattle.clauses.specs.Blocks.{«V»}
use Rattle.clauses.specs.File.{clause_file, clause_program}
use Rattle.clauses.specs.Dimacs.{read_dimacs}
use Rattle.clauses.proofs.Equations.{Equations}
use Rattle.clauses.proofs.Satisfied.{satisfied_exactly}
use Rattle.clauses.proofs.RankBitsClear.{satisfying_clears}
use Rattle.clauses.proofs.Assigned.{assigned, ranks_of_assigned}
use Rattle.clauses.proofs.RanksExtend.{clearing_satisfies}
use Rattle.clauses.proofs.ExtendsUniquely.{extends_uniquely}
use Rattle.clauses.proofs.Dimacs.{file_reads_back, program_prints}
use Rattle.printed_answer.specs.Usual.{usual_answer}
use Rattle.printed_answer.proofs.Taken.{well_formed_read}
use Rattle.printed_answer.proofs.LinesBack.{read_well_formed}
use Rattle.printed_answer.proofs.Decided.{answers_decided}
use Rattle.printed_answer.proofs.Usual.{usual_well_formed, usual_short}
use Rattle.printed_answer.proofs.UsualBytes.{usual_bytes}
use Rattle.steps.specs.Run.{Yields, run_from}
use Rattle.steps.proofs.OwnStep.{own_step_is_free}
use Rattle.steps.proofs.Run.{run_yields, run_settled}
use Rattle.clauses.proofs.Maximum.{rank_bits_are_least, blocks_within_512, variables_at_maximum}
use Rattle.order.proofs.NewVariable.{new_variable_never_decreases}
use Rattle.demands.specs.EntryPoints.{Bytes}
use Rattle.demands.specs.Demand2.{
  BooksAreRead,
  RecordsAreRead,
  SatisfyingAssignment,
  SomePrecedenceClears,
  rank_bits_of,
  SatisfiableExactlyIfCleared,
  RankBitsClear,
  ClearingRanksExtend,
  ExtendOnlyOnce,
  AcceptedExactlyIfDecreasing,
  AnswersAreRead,
  AnswersAreDecided,
  PrintedAnswersAreAccepted,
  UsualAnswersAreAccepted,
  AcceptedAnswer,
  AcceptedAnswerExactlyIfCleared,
  RunYields,
  YieldsOnce,
  OwnStepIsFree,
  Demand2,
}
use Rattle.steps.proofs.Accepted.{accepted}
use Rattle.demands.proofs.Demand3.{clearing_ranks}

-- A satisfying assignment of the file is one of the book's equations, and the other way round.
equations_of :
    (bytes : Bytes) (book : Book) (α : Assignment) → read_book bytes ≡ given book → SatisfyingAssignment (clause_program bytes) α → Equations book α
unfolding Satisfies clause_file
equations_of bytes book α read found =
    let back : read_dimacs (clause_program bytes) ≡ some (clause_file book) =
    ap read_dimacs (program_prints bytes book read) ∙ file_reads_back book (read_within_limits bytes book read) in
    let same : found.clauses ≡ clause_file book = cc found.reads in
    (satisfied_exactly book α).0 (subst (λ (cnf : Cnf). T (all_hold α cnf.clauses)) same found.satisfies)

satisfying : (bytes : Bytes) (book : Book) (α : Assignment) → read_book bytes ≡ given book → Equations book α → SatisfyingAssignment (clause_program bytes) α
unfolding Satisfies clause_file
satisfying bytes book α read equations =
    record {
      clauses = clause_file book;
      reads = ap read_dimacs (program_prints bytes book read) ∙ file_reads_back book (read_within_limits bytes book read);
      satisfies = (satisfied_exactly book α).1 equations;
    }

rank_bits_clear_lem : RankBitsClear
unfolding RankBitsClear rank_bits_of
rank_bits_clear_lem bytes book α read found = satisfying_clears book (read_within_limits bytes book read) α (equations_of bytes book α read found)

ranks_extend_lem : ClearingRanksExtend
unfolding ClearingRanksExtend rank_bits_of
ranks_extend_lem bytes book ranks read many fit clears = (
  assigned book ranks,
  satisfying bytes book (assigned book ranks) read (clearing_satisfies book (read_within_limits bytes book read) ranks many fit clears),
  ranks_of_assigned book ranks many fit,
)

extend_only_once : ExtendOnlyOnce
unfolding ExtendOnlyOnce rank_bits_of
extend_only_once bytes book α β read first second same v positive within =
    extends_uniquely book (read_within_limits bytes book read) α β (equations_of bytes book α read first) (equations_of bytes book β read second)
    same v positive within

-- Ranks below n fit the rank bits.
fit_the_bits :
    (book : Book) → WithinLimits book → (ranks : List ℕ) → ((rank : ℕ) → Memᴰ rank ranks → rank < symbols book) →
    (rank : ℕ) → Memᴰ rank ranks → rank < 2 ^ rank_bits (symbols book)
fit_the_bits book limits ranks below rank m = lt_of_lt_of_le (below rank m) (rank_bits_least (symbols book) limits.symbol_count).0

-- Ranks that clear are a strict precedence that does.
pub ranks_precede : (book : Book) (ranks : List ℕ) → Clears (Above ranks) book.rules → SomePrecedenceClears book
ranks_precede book ranks clears = record { above = Above ranks; strict = ranks_strict (symbols book) ranks; clears = clears }

satisfiable_exactly : SatisfiableExactlyIfCleared
unfolding SatisfiableExactlyIfCleared rank_bits_of RankBitsClear
satisfiable_exactly bytes book read = (cleared, assignment)
  where
    cleared : ((α : Assignment) × SatisfyingAssignment (clause_program bytes) α) → SomePrecedenceClears book
    cleared (α, found) =
        ranks_precede book (rank_bits_of book α) (rank_bits_clear_lem bytes book α read found)

    assignment : SomePrecedenceClears book → (α : Assignment) × SatisfyingAssignment (clause_program bytes) α
    assignment p =
        let limits = read_within_limits bytes book read in
        let (ranks, many, below, clears) = clearing_ranks book limits p in (
          assigned book ranks,
          satisfying bytes book (assigned book ranks) read
              (clearing_satisfies book limits ranks many (fit_the_bits book limits ranks below) clears),
        )

answers_read_lem : AnswersAreRead
unfolding AnswersAreRead
answers_read_lem variables rank_variables text values = (
  λ (literals, read, told). read_well_formed variables rank_variables text literals values read told,
  well_formed_read variables rank_variables values text,
)

-- Ranks that clear are accepted, of a well-formed text that spells them.
printed_accepted : PrintedAnswersAreAccepted
unfolding PrintedAnswersAreAccepted rank_bits_of RankBitsClear
printed_accepted bytes book α text room read found answers short fits =
    (((answers_decided bytes text room book read).decides α answers short fits).accepts (rank_bits_of book α)).1 (refl, rank_bits_clear_lem bytes book α read found)

usual_accepted : UsualAnswersAreAccepted
unfolding UsualAnswersAreAccepted PrintedAnswersAreAccepted
usual_accepted bytes book α room read found fits =
    printed_accepted bytes book α (usual_answer («V» book) α) room read found (usual_well_formed book α)
    (usual_short book α (read_within_limits bytes book read)) fits

accepted_answer_exactly : AcceptedAnswerExactlyIfCleared
unfolding AcceptedAnswerExactlyIfCleared SatisfiableExactlyIfCleared UsualAnswersAreAccepted rank_bits_of
accepted_answer_exactly bytes book room read fits = (cleared, found)
  where
    cleared : AcceptedAnswer bytes room → SomePrecedenceClears book
    cleared a =
        let decided = answers_decided bytes a.text room book read in
        let (values, answers, short, room-there, accepted_so) = decided.only_well_formed a.ranks a.accepted in
        ranks_precede book (rank_bits_of book values) (((decided.decides values answers short room-there).accepts (rank_bits_of book values)).0 accepted_so).1

    found : SomePrecedenceClears book → AcceptedAnswer bytes room
    found p =
        let (α, satisfies) = (satisfiable_exactly bytes book read).1 p in
        record {
          text = usual_answer («V» book) α;
          is_bytes = λ b m. every_member (λ n. n < 256) m (usual_bytes («V» book) α);
          ranks = rank_bits_of book α;
          accepted = usual_accepted bytes book α room read satisfies fits;
        }

run_yields_its : RunYields
unfolding RunYields
run_yields_its bytes ranks record' budget room book t ran read recorded e =
    let a = accepted bytes ranks record' budget room ran e in
    let same : a.book ≡ book = cc a.readable in
    let its_term : a.term ≡ t = cc (sym a.recorded ∙ ap (λ b. read_record b.arities record') same ∙ recorded) in
    subst (Yields book.rules budget t)
    (ap₂ (λ (b : Book) (u : Term). run_from b.rules budget 0 u) (sym same) (sym its_term) ∙ a.runs) (run_yields book.rules budget t)

yields_once : YieldsOnce
unfolding YieldsOnce
yields_once rules budget t ran ran' y y' = run_settled rules budget t ran y ∙ sym (run_settled rules budget t ran' y')

pub demand2 : Demand2
unfolding BooksAreRead RecordsAreRead AcceptedExactlyIfDecreasing AnswersAreDecided OwnStepIsFree
demand2 =
    record {
      books = book_read_exactly;
      records = λ book. record_read_exactly book.arities;
      satisfiable = satisfiable_exactly;
      rank_bits_clear = rank_bits_clear_lem;
      ranks_extend = ranks_extend_lem;
      only_once = extend_only_once;
      accepted = accepted_exactly;
      answers_read = answers_read_lem;
      answers = answers_decided;
      printed_answers = printed_accepted;
      usual_answers = usual_accepted;
      accepted_answer = accepted_answer_exactly;
      runs = run_yields_its;
      only_one_run = yields_once;
      own_steps = own_step_is_free;
      least_bits = rank_bits_are_least;
      variables = variables_at_maximum;
      blocks = blocks_within_512;
      new_variable = new_variable_never_decreases;
    }
