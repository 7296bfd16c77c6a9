-- Demand 1: every reply of the six entry points is a result or a refusal with one of its numbers, and a refusal leaves the lent buffer. By
-- what each question may refuse with, question by question. Assumes nothing.
use Prim.Native.Nat.{ℕ, zero, suc, ◌+◌, ◌*◌}
use mathlib.Core.Bool.{Bool, true, false, ◌&&◌, ◌||◌}
use mathlib.Core.List.{List, [], ◌∷◌, Memᴰ}
use mathlib.Core.Option.{Option, none, some}
use mathlib.Core.Path.{◌≡◌, refl, sym, ap, subst}
use lib.Dec.{T, leb, eqb, eqb→eq}
use lib.ListN.{length}
use Rattle.reply.specs.Reply.{Refusal, Attempt, Reply, given, refused, unless, told_as, ◌>>◌, ◌>>=◌, ◌at◌}
use Rattle.reply.specs.Refusals.{numbered}
use Rattle.reply.specs.declared.Refusal.{Refusal as Named}
use Rattle.reply.specs.declared.Refusal.TheVariants.{
  BookEnded,
  UnknownKind,
  NotAllowed,
  BadBody,
  TooMany,
  AfterEnd,
  WrongRankCount,
  NotDecreasing,
  ShortBuffer,
  NoSuchBlock,
  BadRecord,
  AnswerTooLong,
  BadAnswer,
  NoModel,
  NoSuchArgument,
}
use Rattle.reply.specs.Lent.{laid}
use Rattle.term.specs.Term.{Term, Args, var, app, nil, cons, size}
use Rattle.reply.proofs.Tests.{and_left, and_right, passed}
use Rattle.reply.proofs.Every.{every_member}
use Rattle.book.specs.Book.{Book, Rule}
use Rattle.book.specs.Reading.{read_book}
use Rattle.record.specs.Record.{fault_refusal, refusal_of, read_record}
use Rattle.record.specs.declared.RecordFault.{RecordFault}
use Rattle.record.specs.declared.RecordFault.TheVariants.{EndedEarly, WrongKind, NotDeclared, TooManyNodes, AfterTheTerm}
use Rattle.book.proofs.Refusals.{read_refuses}
use Rattle.order.specs.Clearing.{all_decrease, ranks_clear, check_ranks}
use Rattle.clauses.specs.Cnf.{Literal, variable_of}
use Rattle.clauses.specs.Item.{Item, closing, literal, faulty}
use Rattle.clauses.specs.File.{numbered_block, block_of, block}
use Rattle.answer_lines.specs.Values.{Values, unclosed, closed, named, item_after, items_after}
use Rattle.answer_lines.specs.Lines.{Line, comment, verdict, values, no_line, Said, nothing, satisfied, no_model, verdict_after, values_after, line_after, lines_after, line_of, whole, read_answer}
use Rattle.answer.specs.Ranks.{ranks_checked, answered, ranks_from_answer}
use Rattle.steps.specs.Run.{ran_cleared, run}
use Rattle.steps.specs.Argument.{part_of, argument_of, argument}
use Rattle.demands.specs.EntryPoints.{Bytes, EntryPoint, answer, buffer_after, reading_a_book, counting_a_book, a_block, checking_ranks, ranks_of_an_answer, a_run, an_argument, entry_points}
use Rattle.demands.specs.Demand1.{InTable, ResultOrRefusal, Demanded, Demand1}
use Rattle.demands.proofs.Each.{no_more, also, each→}

-- A reply that refuses only with these numbers, each as the table has it.
data Only (numbers : List ℕ) {A : Type 0} : Reply A → Type 0 where
  result : {a : A} → Only numbers (given a)
  refusal : {r : Refusal} → Memᴰ r.number numbers → InTable r → Only numbers (refused r)

-- Numbers among others, by computing: below, `tt` says that a refusal's number is on the list.
abbrev is_among : ℕ → List ℕ → Bool
is_among n [] = false
is_among n (m ∷ numbers) = eqb n m || is_among n numbers

abbrev are_among : List ℕ → List ℕ → Bool
are_among [] numbers = true
are_among (n ∷ few) numbers = is_among n numbers && are_among few numbers

among : (n : ℕ) (numbers : List ℕ) → T (is_among n numbers) → Memᴰ n numbers
among n [] h = absurd h
among n (m ∷ numbers) h = go (eqb n m) (eqb→eq n m) (among n numbers) h
  where
    go : (first : Bool) → (T first → n ≡ m) → (T (is_among n numbers) → Memᴰ n numbers) → T (first || is_among n numbers) → Memᴰ n (m ∷ numbers)
    go true here later h' = Memᴰ.head (here h')
    go false here later h' = Memᴰ.tail (later h')

all_among : (few many : List ℕ) → T (are_among few many) → (n : ℕ) → Memᴰ n few → Memᴰ n many
all_among [] many h n m = elim m [ ]
all_among (k ∷ few) many h n (Memᴰ.head e) = rw e (among k many (and_left (is_among k many) (are_among few many) h))
all_among (k ∷ few) many h n (Memᴰ.tail m) = all_among few many (and_right (is_among k many) (are_among few many) h) n m

-- The refusals whose rows name a place, and those at 0.
abbrev placed : List ℕ
placed = 1 ∷ 2 ∷ 3 ∷ 4 ∷ 5 ∷ 6 ∷ 8 ∷ 13 ∷ []

abbrev unplaced : List ℕ
unplaced = 7 ∷ 9 ∷ 10 ∷ 11 ∷ 12 ∷ 14 ∷ 15 ∷ []

abbrev is_tabled : Refusal → Bool
is_tabled r = is_among r.number placed || (eqb r.place 0 && is_among r.number unplaced)

tabled : (row : Named) {r : Refusal} → numbered row ≡ r → InTable r
tabled row e = record { row = row; tells = e }

placed_row : (number place : ℕ) → Memᴰ number placed → InTable (number at place)
unfolding numbered
placed_row number place m =
    every_member (λ n. InTable (n at place)) m (
      tabled (BookEnded place) refl,
      (
        tabled (UnknownKind place) refl,
        (
          tabled (NotAllowed place) refl,
          (
            tabled (BadBody place) refl,
            (
              tabled (TooMany place) refl,
              (
                tabled (AfterEnd place) refl,
                (
                  tabled (NotDecreasing place) refl,
                  (tabled (BadAnswer place) refl, tt),
                ),
              ),
            ),
          ),
        ),
      ),
    )

unplaced_row : (number : ℕ) → Memᴰ number unplaced → InTable (number at 0)
unfolding numbered
unplaced_row number m =
    every_member (λ n. InTable (n at 0)) m (
      tabled WrongRankCount refl,
      (
        tabled ShortBuffer refl,
        (
          tabled NoSuchBlock refl,
          (
            tabled BadRecord refl,
            (
              tabled AnswerTooLong refl,
              (
                tabled NoModel refl,
                (tabled NoSuchArgument refl, tt),
              ),
            ),
          ),
        ),
      ),
    )

in_table : (r : Refusal) → T (is_tabled r) → InTable r
in_table r h = go (is_among r.number placed) refl h
  where
    go : (b : Bool) → is_among r.number placed ≡ b → T (b || (eqb r.place 0 && is_among r.number unplaced)) → InTable r
    go true e h' = placed_row r.number r.place (among r.number placed (passed e))
    go false e h' =
        let at0 : r.place ≡ 0 = eqb→eq r.place 0 (and_left (eqb r.place 0) (is_among r.number unplaced) h') in
        subst (λ p. InTable (r.number at p)) (sym at0)
        (unplaced_row r.number (among r.number unplaced (and_right (eqb r.place 0) (is_among r.number unplaced) h')))

module _ {A : Type 0} where
  -- The same with more numbers allowed.
  more : {few : List ℕ} {x : Reply A} (many : List ℕ) → T (are_among few many) → Only few x → Only many x
  more many h result = result
  more many h (refusal m t) = refusal (all_among _ many h _ m) t

  -- One of two replies, as a test says.
  either :
      {numbers : List ℕ} {x y : Reply A} (b : Bool) → Only numbers x → Only numbers y →
      Only numbers {A = A} (elim b [ true ↦ x | false ↦ y ])
  either true when_true when_false = when_true
  either false when_true when_false = when_false

  only→result-or-refusal : {numbers : List ℕ} {x : Reply A} → Only numbers x → ResultOrRefusal numbers x
  unfolding ResultOrRefusal
  only→result-or-refusal result = tt
  only→result-or-refusal (refusal m t) = (m, t)

module _ {A B : Type 0} {numbers : List ℕ} where
  -- A question that is asked only of what was given.
  after : {first : Reply A} {next : A → Reply B} → Only numbers first → ((a : A) → Only numbers (next a)) → Only numbers (◌>>=◌ first next)
  unfolding ◌>>=◌
  after result rest = rest _
  after (refusal m t) rest = refusal m t

  then : {first : Reply A} {next : Reply B} → Only numbers first → Only numbers next → Only numbers (◌>>◌ first next)
  unfolding ◌>>◌
  then result rest = rest
  then (refusal m t) rest = refusal m t

module _ {numbers : List ℕ} where
  -- A refusal with one of the numbers, as the table has it.
  refusal_with : {A : Type 0} (r : Refusal) → T (is_among r.number numbers && is_tabled r) → Only numbers {A = A} (refused r)
  refusal_with r h =
      refusal (among r.number numbers (and_left (is_among r.number numbers) (is_tabled r) h)) (in_table r (and_right (is_among r.number numbers) (is_tabled r) h))

  unless_only : (b : Bool) (r : Refusal) → T (is_among r.number numbers && is_tabled r) → Only numbers (unless b r)
  unfolding unless
  unless_only true r h = result
  unless_only false r h = refusal_with r h

  -- A test with such a refusal, and the questions behind it.
  test : {B : Type 0} (b : Bool) (r : Refusal) {next : Reply B} → T (is_among r.number numbers && is_tabled r) → Only numbers next → Only numbers (◌>>◌ (unless b r) next)
  test b r h rest = then (unless_only b r h) rest

-- Reading a book.
abbrev reading : List ℕ
reading = 1 ∷ 2 ∷ 3 ∷ 4 ∷ 5 ∷ 6 ∷ []

book_only : (bytes : Bytes) → Only reading (read_book bytes)
book_only bytes = go (read_book bytes) refl
  where
    go : (x : Reply Book) → read_book bytes ≡ x → Only reading x
    go (given book) e = result
    go (refused r) e =
        let m = read_refuses bytes r e in
        refusal m (placed_row r.number r.place (all_among reading placed tt _ m))

-- A block.
numbered_only : (found : Option Bytes) → Only (10 ∷ []) (numbered_block found)
unfolding numbered_block
numbered_only none = refusal_with _ tt
numbered_only (some bytes) = result

block_only : (book : Bytes) (number room : ℕ) → Only (1 ∷ 2 ∷ 3 ∷ 4 ∷ 5 ∷ 6 ∷ 10 ∷ 9 ∷ []) (block book number room)
unfolding block block_of
block_only book number room =
    after (more _ tt (book_only book)) (λ b. after (more _ tt (numbered_only _)) (λ bytes. test _ _ tt result))

-- Checking ranks.
decrease_only : (exceeds : Term → Term → Bool) (number : ℕ) (rules : List Rule) → Only (8 ∷ []) (all_decrease exceeds number rules)
unfolding all_decrease
decrease_only exceeds number [] = result
decrease_only exceeds number (rule ∷ rules) = test _ _ tt (decrease_only exceeds (suc number) rules)

clear_only : (book : Book) (ranks : Bytes) → Only (7 ∷ 8 ∷ []) (ranks_clear book ranks)
unfolding ranks_clear
clear_only book ranks = test _ _ tt (more _ tt (decrease_only _ 0 book.rules))

check_only : (book ranks : Bytes) → Only (1 ∷ 2 ∷ 3 ∷ 4 ∷ 5 ∷ 6 ∷ 7 ∷ 8 ∷ []) (check_ranks book ranks)
unfolding check_ranks
check_only book ranks = after (more _ tt (book_only book)) (λ b. more _ tt (clear_only b ranks))

-- Reading a record.
fault_tells : (fault : RecordFault) → refusal_of fault ≡ (11 at 0)
unfolding refusal_of fault_refusal numbered
fault_tells (EndedEarly p) = refl
fault_tells (WrongKind p) = refl
fault_tells (NotDeclared p) = refl
fault_tells (TooManyNodes p) = refl
fault_tells (AfterTheTerm p) = refl

told_only : {A : Type 0} (x : Attempt RecordFault A) → Only (11 ∷ []) (told_as refusal_of x)
unfolding told_as
told_only {A} (given a) = result
told_only {A} (refused fault) = subst (λ (r : Refusal). Only (11 ∷ []) {A = A} (refused r)) (sym (fault_tells fault)) (refusal_with _ tt)

term_only : (book : Book) (bytes : Bytes) → Only (11 ∷ []) (read_record book.arities bytes)
unfolding read_record
term_only book bytes = told_only _

-- A run.
run_only : (book ranks record' : Bytes) (budget room : ℕ) → Only (1 ∷ 2 ∷ 3 ∷ 4 ∷ 5 ∷ 6 ∷ 7 ∷ 8 ∷ 11 ∷ 9 ∷ []) (run book ranks record' budget room)
unfolding run ran_cleared
run_only book ranks record' budget room =
    after (more _ tt (book_only book))
    (λ b. then (more _ tt (clear_only b ranks)) (after (more _ tt (term_only b record')) (λ t. test _ _ tt result)))

-- An argument.
part_only : (p : ℕ) (ts : Args) (i : ℕ) → Only (15 ∷ []) (part_of p ts i)
unfolding part_of
part_only p nil i = refusal_with _ tt
part_only p (cons t ts) zero = result
part_only p (cons t ts) (suc i) = part_only (p + 2 * size t) ts i

argument_of_only : (t : Term) (i : ℕ) → Only (15 ∷ []) (argument_of t i)
unfolding argument_of
argument_of_only (var x) i = refusal_with _ tt
argument_of_only (app f ts) i = part_only 2 ts i

argument_only : (book record' : Bytes) (i : ℕ) → Only (1 ∷ 2 ∷ 3 ∷ 4 ∷ 5 ∷ 6 ∷ 11 ∷ 15 ∷ []) (argument book record' i)
unfolding argument
argument_only book record' i = after (more _ tt (book_only book)) (λ b. after (more _ tt (term_only b record')) (λ t. more _ tt (argument_of_only t i)))

-- A solver's answer: each line is refused with its own fault, 13 at its start.
module _ (line : ℕ) (rank_variables : ℕ) where
  abbrev fault : Refusal
  fault = 13 at line

  named_only : (l : Literal) (ls : List Literal) → Only (13 ∷ []) (named fault rank_variables l ls)
  unfolding named
  named_only l ls = either (leb (variable_of l) rank_variables) (then (unless_only _ fault tt) result) result

  item_only : (vs : Values) (i : Item) → Only (13 ∷ []) (item_after fault rank_variables vs i)
  unfolding item_after
  item_only (closed ls) i = refusal_with _ tt
  item_only (unclosed ls) closing = result
  item_only (unclosed ls) (literal l) = named_only l ls
  item_only (unclosed ls) faulty = refusal_with _ tt

  items_only : (variables : ℕ) (vs : Values) (items : List Bytes) → Only (13 ∷ []) (items_after fault variables rank_variables vs items)
  unfolding items_after
  items_only variables vs [] = result
  items_only variables vs (i ∷ items) = after (item_only vs _) (λ vs'. items_only variables vs' items)

  verdict_only : (said : Said) (satisfiable : Bool) → Only (13 ∷ []) (verdict_after fault said satisfiable)
  unfolding verdict_after
  verdict_only nothing true = result
  verdict_only nothing false = result
  verdict_only (satisfied vs) b = refusal_with _ tt
  verdict_only no_model b = refusal_with _ tt

  values_only : (variables : ℕ) (said : Said) (items : List Bytes) → Only (13 ∷ []) (values_after fault variables rank_variables said items)
  unfolding values_after
  values_only variables nothing items = refusal_with _ tt
  values_only variables (satisfied vs) items = after (items_only variables vs items) (λ vs'. result)
  values_only variables no_model items = refusal_with _ tt

  line_only : (variables : ℕ) (said : Said) (line : Line) → Only (13 ∷ []) (line_after fault variables rank_variables said line)
  unfolding line_after
  line_only variables said comment = result
  line_only variables said (verdict b) = verdict_only said b
  line_only variables said (values items) = values_only variables said items
  line_only variables said no_line = refusal_with _ tt

lines_only : (variables rank_variables p : ℕ) (said : Said) (lines : List Bytes) → Only (13 ∷ []) (lines_after variables rank_variables p said lines)
unfolding lines_after
lines_only variables rank_variables p said [] = result
lines_only variables rank_variables p said (line ∷ lines) =
    after (line_only p rank_variables variables said (line_of line))
    (λ said'. lines_only variables rank_variables (p + length line + 1) said' lines)

whole_only : (len : ℕ) (said : Said) → Only (13 ∷ 14 ∷ []) (whole len said)
unfolding whole
whole_only len nothing = refusal_with _ tt
whole_only len (satisfied (unclosed ls)) = refusal_with _ tt
whole_only len (satisfied (closed ls)) = result
whole_only len no_model = refusal_with _ tt

answer_only :
    (book text : Bytes) (room : ℕ) → Only (1 ∷ 2 ∷ 3 ∷ 4 ∷ 5 ∷ 6 ∷ 12 ∷ 13 ∷ 14 ∷ 9 ∷ 8 ∷ []) (ranks_from_answer book text room)
unfolding ranks_from_answer answered ranks_checked read_answer
answer_only book text room =
    after (more _ tt (book_only book))
    (λ b. test _ _ tt
    (after (after (more _ tt (lines_only _ _ 0 nothing _)) (λ said. more _ tt (whole_only _ said)))
    (λ literals. test _ _ tt (then (more _ tt (decrease_only _ 0 b.rules)) result))))

-- "A refusal changes no byte of any lent buffer."
refusal_leaves : (e : EntryPoint) (asked : e.Asked) (buffer : Bytes) (r : Refusal) → e.reply asked ≡ refused r → buffer_after e asked buffer ≡ buffer
unfolding buffer_after laid ◌>>=◌
refusal_leaves e asked buffer r p = ap (λ (x : Reply e.Result). laid (◌>>=◌ x (λ given-result. given (e.written given-result))) buffer) p

demanded : (e : EntryPoint) → ((asked : e.Asked) → Only e.numbers (e.reply asked)) → Demanded e
demanded e only = record { replies = λ asked. only→result-or-refusal (only asked); untouched = refusal_leaves e }

-- What is told of a result is refused exactly as the result is.
told_replies : {A B : Type 0} (told : A → B) (numbers : List ℕ) (reply : Reply A) → ResultOrRefusal numbers reply → ResultOrRefusal numbers (◌>>=◌ reply (λ a. given (told a)))
unfolding ResultOrRefusal ◌>>=◌
told_replies told numbers (given a) ok = tt
told_replies told numbers (refused r) ok = ok

pub answer_replies : (e : EntryPoint) → Demanded e → (asked : e.Asked) → ResultOrRefusal e.numbers (answer e asked)
unfolding answer
answer_replies e demanded asked = told_replies e.told e.numbers (e.reply asked) (demanded.replies asked)

pub book_demanded : Demanded reading_a_book
book_demanded = demanded reading_a_book book_only

pub counts_demanded : Demanded counting_a_book
counts_demanded = demanded counting_a_book book_only

pub block_demanded : Demanded a_block
block_demanded = demanded a_block (λ asked. block_only asked.0 asked.1 asked.2)

pub ranks_demanded : Demanded checking_ranks
ranks_demanded = demanded checking_ranks (λ asked. check_only asked.0 asked.1)

pub answer_demanded : Demanded ranks_of_an_answer
answer_demanded = demanded ranks_of_an_answer (λ asked. answer_only asked.0 asked.1 asked.2)

pub run_demanded : Demanded a_run
run_demanded = demanded a_run (λ asked. run_only asked.0 asked.1 asked.2 asked.3 asked.4)

pub argument_demanded : Demanded an_argument
argument_demanded = demanded an_argument (λ asked. argument_only asked.0 asked.1 asked.2)

pub demand1 : Demand1
unfolding Demand1 entry_points
demand1 e m =
    each→ Demanded
    (also book_demanded (also block_demanded (also ranks_demanded (also answer_demanded (also run_demanded (also argument_demanded no_more)))))) m
