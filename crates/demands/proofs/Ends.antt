-- Whatever is handed to a function has a call that its contract allows: an answer means what the definition replies, since the code's enum of
-- refusals has a row for each. Assumes nothing.
use Prim.Native.Nat.{ℕ, ◌+◌}
use mathlib.Core.List.{List, []}
use mathlib.Core.Path.{◌≡◌, refl, sym, ap, ◌∙◌}
use denote.Ref.{Bor, MutBor, at_last}
use lib.ListN.{length, replicate, length-replicate}
use Rattle.std.specs.Prelude.{Result, Ok, Err}
use Rattle.reply.specs.Reply.{Refusal, Reply, given, refused}
use Rattle.reply.specs.Lent.{laid}
use Rattle.reply.specs.Replied.{replied, replied_as}
use Rattle.reply.specs.declared.Refusal.{Refusal as Named}
use Rattle.book.specs.Placed.{placed}
use Rattle.book.proofs.Placed.{placed_means}
use Rattle.order.specs.Clearing.{check_ranks}
use Rattle.clauses.specs.File.{block}
use Rattle.answer.specs.Ranks.{ranks_from_answer}
use Rattle.steps.specs.Run.{Outcome, done, spent, too_large, run, ran_bytes}
use Rattle.steps.specs.Argument.{Part, argument}
use Rattle.stepping.specs.Stepped.{outcome_of}
use Rattle.stepping.specs.declared.Outcome.{Outcome as Ending}
use Rattle.stepping.specs.declared.Outcome.TheVariants.{Done, Spent, TooLarge}
use Rattle.running.specs.RunMeaning.{Told, run_told, told_in_code, run_meaning}
use Rattle.asking.specs.Asked.{part_of, argument_meaning, handed_out, part_bytes}
use Rattle.running.specs.declared.RanTo.{RanTo}
use Rattle.asking.specs.declared.Found.{Found}
use Rattle.demands.specs.EntryPoints.{Bytes, EntryPoint, answer, a_block, checking_ranks, ranks_of_an_answer, a_run, an_argument}
use Rattle.demands.specs.Demand1.{ResultOrRefusal}
use Rattle.demands.specs.InCode.{InCode}
use Rattle.demands.specs.Functions.{
  read_book_in_code,
  write_block_in_code,
  check_ranks_in_code,
  ranks_from_answer_in_code,
  run_in_code,
  argument_in_code,
  argument_hands_out,
}
use Rattle.demands.proofs.Demand1.{answer_replies, block_demanded, ranks_demanded, answer_demanded, run_demanded, argument_demanded}
use Rattle.demands.proofs.AsDefined.{itself, told_by_length}

-- Whatever is handed over has a call.
abbrev pub Ends : {e : EntryPoint} → InCode e → Type 0
Ends code = (handed : code.Handed) → (call : code.Call) × (code.hands call ≡ handed)

-- Whatever can be asked has one, if something handed over asks it.
abbrev pub Asks : {e : EntryPoint} → InCode e → Type 0
Asks {e} code = (question : e.Asked) → (call : code.Call) × (code.asked call ≡ question)

module _ {e : EntryPoint} (code : InCode e) (ends : Ends code) (asking : code.Handed → e.Asked) (asks : (call : code.Call) → code.asked call ≡ asking (code.hands call)) where
  pub asks_by : (question : e.Asked) (handed : code.Handed) → asking handed ≡ question → (call : code.Call) × (code.asked call ≡ question)
  asks_by question handed so = let (call, same) = ends handed in (call, asks call ∙ ap asking same ∙ so)

-- Bytes behind a reference, and a buffer of a length.
abbrev pub behind : Bytes → Bor Bytes
behind bytes = record { ref_ptr = (0, 0); now = bytes }

abbrev pub room_for : ℕ → MutBor Bytes
room_for room = record { ref_ptr = (0, 0); ghost_name = 0; now = replicate room 0 }

-- A Result for every reply.
result_for : {A : Type 0} (numbers : List ℕ) (reply : Reply A) → ResultOrRefusal numbers reply → (r : Result A Named) × (replied r ≡ reply)
unfolding ResultOrRefusal replied
result_for numbers (given a) ok = (Ok a, refl)
result_for numbers (refused r) ok = (Err ok.1.row, ap (λ (q : Refusal). refused q) ok.1.tells)

ending_for : (outcome : Outcome) → (ending : Ending) × (outcome_of ending ≡ outcome)
unfolding outcome_of
ending_for done = (Done, refl)
ending_for spent = (Spent, refl)
ending_for too_large = (TooLarge, refl)

ran_for : (numbers : List ℕ) (reply : Reply Told) → ResultOrRefusal numbers reply → (r : Result RanTo Named) × (run_meaning r ≡ reply)
unfolding ResultOrRefusal run_meaning replied_as told_in_code
ran_for numbers (given told) ok =
    let (ending, so) = ending_for told.outcome in (
      Ok (record { outcome = ending; steps = told.steps; length = told.length }),
      ap (λ (o : Outcome). given (record { outcome = o; steps = told.steps; length = told.length })) so,
    )
ran_for numbers (refused r) ok = (Err ok.1.row, ap (λ (q : Refusal). refused q) ok.1.tells)

part_for : (numbers : List ℕ) (reply : Reply Part) → ResultOrRefusal numbers reply → (r : Result Found Named) × (argument_meaning r ≡ reply)
unfolding ResultOrRefusal argument_meaning replied_as part_of
part_for numbers (given part) ok = (Ok (record { start = part.start; length = part.length }), refl)
part_for numbers (refused r) ok = (Err ok.1.row, ap (λ (q : Refusal). refused q) ok.1.tells)

pub read_book_ends : Ends read_book_in_code
unfolding read_book_in_code
read_book_ends handed = (
  record {
    lifetimes = handed.0;
    arguments = handed.1;
    result = placed handed.1.0.now;
    at_exit = (handed.1.0, tt);
    ensured = (refl, placed_means handed.1.0.now);
  },
  refl,
)

pub write_block_ends : Ends write_block_in_code
unfolding write_block_in_code answer
write_block_ends handed =
    let book = handed.1.0.now in
    let number = handed.1.1.0 in
    let buffer = handed.1.1.1.0 in
    let room = length buffer.now in
    let (result, means) = result_for a_block.numbers _ (answer_replies a_block block_demanded (book, number, room)) in (
      record {
        lifetimes = handed.0;
        arguments = handed.1;
        result = result;
        at_exit = (handed.1.0, (number, (at_last buffer (laid (block book number room) buffer.now), tt)));
        ensured = (means ∙ sym (told_by_length (block book number room)), refl);
      },
      refl,
    )

pub check_ranks_ends : Ends check_ranks_in_code
unfolding check_ranks_in_code answer
check_ranks_ends handed =
    let book = handed.1.0.now in
    let ranks = handed.1.1.0.now in
    let (result, means) = result_for checking_ranks.numbers _ (answer_replies checking_ranks ranks_demanded (book, ranks)) in (
      record {
        lifetimes = handed.0;
        arguments = handed.1;
        result = result;
        at_exit = (handed.1.0, (handed.1.1.0, tt));
        ensured = means ∙ sym (itself (check_ranks book ranks));
      },
      refl,
    )

pub ranks_from_answer_ends : Ends ranks_from_answer_in_code
unfolding ranks_from_answer_in_code answer
ranks_from_answer_ends handed =
    let book = handed.1.0.now in
    let text = handed.1.1.0.now in
    let buffer = handed.1.1.1.0 in
    let room = length buffer.now in
    let (result, means) = result_for ranks_of_an_answer.numbers _ (answer_replies ranks_of_an_answer answer_demanded (book, text, room)) in (
      record {
        lifetimes = handed.0;
        arguments = handed.1;
        result = result;
        at_exit = (handed.1.0, (handed.1.1.0, (at_last buffer (laid (ranks_from_answer book text room) buffer.now), tt)));
        ensured = (means ∙ sym (told_by_length (ranks_from_answer book text room)), refl);
      },
      refl,
    )

pub run_ends : Ends run_in_code
unfolding run_in_code answer run_told
run_ends handed =
    let book = handed.1.0.now in
    let ranks = handed.1.1.0.now in
    let record' = handed.1.1.1.0.now in
    let budget = handed.1.1.1.1.0 in
    let buffer = handed.1.1.1.1.1.0 in
    let room = length buffer.now in
    let (result, means) = ran_for a_run.numbers _ (answer_replies a_run run_demanded (book, ranks, record', budget, room)) in (
      record {
        lifetimes = handed.0;
        arguments = handed.1;
        result = result;
        at_exit = (
          handed.1.0,
          (handed.1.1.0, (handed.1.1.1.0, (budget, (at_last buffer (laid (ran_bytes (run book ranks record' budget room)) buffer.now), tt)))),
        );
        ensured = record { replied = means; written = refl };
      },
      refl,
    )

pub argument_reply_ends : Ends argument_in_code
unfolding argument_in_code answer
argument_reply_ends handed =
    let book = handed.1.0.now in
    let record' = handed.1.1.0.now in
    let i = handed.1.1.1.0 in
    let (result, means) = part_for an_argument.numbers _ (answer_replies an_argument argument_demanded (book, record', i)) in (
      record {
        lifetimes = handed.0;
        arguments = handed.1;
        result = result;
        at_exit = (handed.1.0, (handed.1.1.0, (i, tt)));
        ensured = means ∙ sym (itself (argument book record' i));
      },
      refl,
    )

-- Whatever can be asked has a call.
pub read_book_asks : Asks read_book_in_code
unfolding read_book_in_code
read_book_asks question =
    asks_by read_book_in_code read_book_ends (λ h. h.1.0.now) (λ call. refl) question (([], tt), (behind question, tt)) refl

pub write_block_asks : Asks write_block_in_code
unfolding write_block_in_code
write_block_asks question =
    asks_by write_block_in_code write_block_ends (λ h. (h.1.0.now, h.1.1.0, length h.1.1.1.0.now)) (λ call. refl) question
    (([], ([], tt)), (behind question.0, (question.1, (room_for question.2, tt))))
    (ap (λ (n : ℕ). (question.0, question.1, n)) (length-replicate question.2 0))

pub check_ranks_asks : Asks check_ranks_in_code
unfolding check_ranks_in_code
check_ranks_asks question =
    asks_by check_ranks_in_code check_ranks_ends (λ h. (h.1.0.now, h.1.1.0.now)) (λ call. refl) question
    (([], ([], tt)), (behind question.0, (behind question.1, tt))) refl

pub ranks_from_answer_asks : Asks ranks_from_answer_in_code
unfolding ranks_from_answer_in_code
ranks_from_answer_asks question =
    asks_by ranks_from_answer_in_code ranks_from_answer_ends (λ h. (h.1.0.now, h.1.1.0.now, length h.1.1.1.0.now)) (λ call. refl) question
    (([], ([], ([], tt))), (behind question.0, (behind question.1, (room_for question.2, tt))))
    (ap (λ (n : ℕ). (question.0, question.1, n)) (length-replicate question.2 0))

pub run_asks : Asks run_in_code
unfolding run_in_code
run_asks question =
    asks_by run_in_code run_ends
    (λ h. (h.1.0.now, h.1.1.0.now, h.1.1.1.0.now, h.1.1.1.1.0, length h.1.1.1.1.1.0.now)) (λ call. refl) question (
      ([], ([], ([], ([], tt)))),
      (behind question.0, (behind question.1, (behind question.2, (question.3, (room_for question.4, tt))))),
    )
    (ap (λ (n : ℕ). (question.0, question.1, question.2, question.3, n)) (length-replicate question.4 0))

pub argument_reply_asks : Asks argument_in_code
unfolding argument_in_code
argument_reply_asks question =
    asks_by argument_in_code argument_reply_ends (λ h. (h.1.0.now, h.1.1.0.now, h.1.1.1.0)) (λ call. refl) question
    (([], ([], tt)), (behind question.0, (behind question.1, (question.2, tt)))) refl

-- The part is handed out at its place in the record.
pub argument_ends : (handed : argument_hands_out.Handed) → (got : argument_hands_out.Call) × (argument_hands_out.hands got ≡ handed)
unfolding argument_hands_out
argument_ends handed =
    let whole = handed.1.1.0 in
    let part = handed_out (argument handed.1.0.now whole.now handed.1.1.1.0) in (
      record {
        lifetimes = handed.0;
        arguments = handed.1;
        result = record { ref_ptr = (whole.ref_ptr.0, whole.ref_ptr.1 + part.start); now = part_bytes part whole.now };
        at_exit = (handed.1.0, (whole, (handed.1.1.1.0, tt)));
        ensured = (refl, (refl, refl));
      },
      refl,
    )
