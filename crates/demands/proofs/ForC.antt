-- Each call for C answers and writes what the definition of its entry point says: its struct says the reply, since no refusal has the number 0. From
-- its contract; and whatever is handed over has a call. Assumes nothing.
use Prim.Native.Nat.{ℕ}
use mathlib.Core.Bool.{Bool, true, false, not, ◌&&◌}
use mathlib.Core.List.{List, [], ◌∷◌, Memᴰ}
use mathlib.Core.Path.{◌≡◌, refl, ap, ◌∙◌}
use denote.Ref.{at_last}
use lib.Dec.{T, eqb}
use lib.ListN.{length, length-replicate}
use Rattle.reply.specs.Reply.{Refusal, Reply, given, refused, ◌>>=◌, ◌at◌}
use Rattle.reply.specs.Lent.{laid, length_of}
use Rattle.reply.proofs.Tests.{and_left, and_right}
use Rattle.book.specs.Book.{Book}
use Rattle.book.specs.Reading.{read_book}
use Rattle.order.specs.Clearing.{check_ranks}
use Rattle.clauses.specs.File.{block}
use Rattle.answer.specs.Ranks.{ranks_from_answer}
use Rattle.steps.specs.Run.{Outcome, done, spent, too_large, run, ran_bytes}
use Rattle.steps.specs.Argument.{Part, argument}
use Rattle.running.specs.RunMeaning.{Told, run_told}
use Rattle.rulebook.specs.Replies.{verdict_reply, book_reply, written_reply, outcome_number, ran_reply, part_reply}
use Rattle.demands.specs.EntryPoints.{counts_of, answer, buffer_after, counting_a_book, a_block, checking_ranks, ranks_of_an_answer, a_run, an_argument}
use Rattle.demands.specs.Demand1.{ResultOrRefusal}
use Rattle.demands.specs.InCode.{AsDefined}
use Rattle.demands.specs.ForC.{
  saying,
  verdict_says,
  book_says,
  written_says,
  outcome_says,
  ran_says,
  part_says,
  read_book_of_c,
  write_block_of_c,
  check_ranks_of_c,
  ranks_from_answer_of_c,
  run_of_c,
  argument_of_c,
}
use Rattle.demands.proofs.Demand1.{
  answer_replies,
  counts_demanded,
  block_demanded,
  ranks_demanded,
  answer_demanded,
  run_demanded,
  argument_demanded,
}
use Rattle.demands.proofs.AsDefined.{itself, nothing_written, itself_written, told_by_length}
use Rattle.demands.proofs.Ends.{Ends, Asks, asks_by, behind, room_for}

-- Numbers of refusals: none is 0.
abbrev positive : List ℕ → Bool
positive [] = true
positive (n ∷ numbers) = not (eqb n 0) && positive numbers

not_zero : (n : ℕ) → T (not (eqb n 0)) → eqb n 0 ≡ false
not_zero n h = go (eqb n 0) h
  where
    go : (b : Bool) → T (not b) → b ≡ false
    go true h' = absurd h'
    go false h' = refl

none_zero : (numbers : List ℕ) → T (positive numbers) → {n : ℕ} → Memᴰ n numbers → eqb n 0 ≡ false
none_zero [] h m = elim m [ ]
none_zero (k ∷ numbers) h (Memᴰ.head e) = ap (λ n. eqb n 0) e ∙ not_zero k (and_left (not (eqb k 0)) (positive numbers) h)
none_zero (k ∷ numbers) h (Memᴰ.tail m) = none_zero numbers (and_right (not (eqb k 0)) (positive numbers) h) m

module _ (numbers : List ℕ) (none : T (positive numbers)) where
  -- A struct with a refusal's number and place says that refusal.
  refusal_said : {A : Type 0} (r : Refusal) (a : A) → Memᴰ r.number numbers → saying r.number r.place a ≡ refused r
  unfolding saying
  refusal_said {A} r a m =
      ap (λ (b : Bool). elim b as (λ x. Reply A) [ true ↦ given a | false ↦ refused (r.number at r.place) ]) (none_zero numbers none m)

  -- So each struct says the reply that it was made of.
  verdict_said : (reply : Reply (Unit {0})) → ResultOrRefusal numbers reply → verdict_says (verdict_reply reply) ≡ reply
  unfolding ResultOrRefusal saying
  verdict_said (given accepted) ok = refl
  verdict_said (refused r) ok = refusal_said r tt ok.0

  book_said :
      (reply : Reply Book) → ResultOrRefusal numbers (◌>>=◌ reply (λ book. given (counts_of book))) →
      book_says (book_reply reply) ≡ ◌>>=◌ reply (λ book. given (counts_of book))
  unfolding ResultOrRefusal saying counts_of ◌>>=◌
  book_said (given book) ok = refl
  book_said (refused r) ok = refusal_said r (record { symbols = 0; rules = 0; blocks = 0 }) ok.0

  written_said : (reply : Reply ℕ) → ResultOrRefusal numbers reply → written_says (written_reply reply) ≡ reply
  unfolding ResultOrRefusal saying
  written_said (given many) ok = refl
  written_said (refused r) ok = refusal_said r 0 ok.0

  outcome_said : (outcome : Outcome) → outcome_says (outcome_number outcome) ≡ outcome
  unfolding outcome_says
  outcome_said done = refl
  outcome_said spent = refl
  outcome_said too_large = refl

  ran_said : (reply : Reply Told) → ResultOrRefusal numbers reply → ran_says (ran_reply reply) ≡ reply
  unfolding ResultOrRefusal saying
  ran_said (given told) ok =
      ap (λ (o : Outcome). given (record { outcome = o; steps = told.steps; length = told.length })) (outcome_said told.outcome)
  ran_said (refused r) ok = refusal_said r (record { outcome = outcome_says 0; steps = 0; length = 0 }) ok.0

  part_said : (reply : Reply Part) → ResultOrRefusal numbers reply → part_says (part_reply reply) ≡ reply
  unfolding ResultOrRefusal saying
  part_said (given part) ok = refl
  part_said (refused r) ok = refusal_said r (record { start = 0; length = 0 }) ok.0

pub read_book_of_c_lem : AsDefined read_book_of_c
unfolding read_book_of_c answer buffer_after
read_book_of_c_lem = record {
  answers = λ call.
      ap book_says call.ensured
      ∙ book_said counting_a_book.numbers tt (read_book call.arguments.0.now) (answer_replies counting_a_book counts_demanded call.arguments.0.now);
  writes = λ call. nothing_written _;
}

pub write_block_of_c_lem : AsDefined write_block_of_c
unfolding write_block_of_c answer buffer_after
write_block_of_c_lem = record {
  answers = λ call.
      ap written_says (call.ensured.0 ∙ ap written_reply (told_by_length _))
      ∙ written_said a_block.numbers tt (answer a_block (write_block_of_c.asked call)) (answer_replies a_block block_demanded (write_block_of_c.asked call));
  writes = λ call. call.ensured.1 ∙ itself_written _ _;
}

pub check_ranks_of_c_lem : AsDefined check_ranks_of_c
unfolding check_ranks_of_c answer buffer_after
check_ranks_of_c_lem = record {
  answers = λ call.
      ap verdict_says (call.ensured ∙ ap verdict_reply (itself _))
      ∙ verdict_said checking_ranks.numbers tt (answer checking_ranks (check_ranks_of_c.asked call))
      (answer_replies checking_ranks ranks_demanded (check_ranks_of_c.asked call));
  writes = λ call. nothing_written _;
}

pub ranks_from_answer_of_c_lem : AsDefined ranks_from_answer_of_c
unfolding ranks_from_answer_of_c answer buffer_after
ranks_from_answer_of_c_lem = record {
  answers = λ call.
      ap written_says (call.ensured.0 ∙ ap written_reply (told_by_length _))
      ∙ written_said ranks_of_an_answer.numbers tt (answer ranks_of_an_answer (ranks_from_answer_of_c.asked call))
      (answer_replies ranks_of_an_answer answer_demanded (ranks_from_answer_of_c.asked call));
  writes = λ call. call.ensured.1 ∙ itself_written _ _;
}

pub run_of_c_lem : AsDefined run_of_c
unfolding run_of_c answer buffer_after run_told ran_bytes
run_of_c_lem = record {
  answers = λ call.
      ap ran_says call.ensured.0
      ∙ ran_said a_run.numbers tt (answer a_run (run_of_c.asked call)) (answer_replies a_run run_demanded (run_of_c.asked call));
  writes = λ call. call.ensured.1;
}

pub argument_of_c_lem : AsDefined argument_of_c
unfolding argument_of_c answer buffer_after
argument_of_c_lem = record {
  answers = λ call.
      ap part_says (call.ensured ∙ ap part_reply (itself _))
      ∙ part_said an_argument.numbers tt (answer an_argument (argument_of_c.asked call)) (answer_replies an_argument argument_demanded (argument_of_c.asked call));
  writes = λ call. nothing_written _;
}

-- Whatever is handed over has a call: the struct of the reply.
pub read_book_of_c_ends : Ends read_book_of_c
unfolding read_book_of_c
read_book_of_c_ends handed = (
  record {
    lifetimes = handed.0;
    arguments = handed.1;
    result = book_reply (read_book handed.1.0.now);
    at_exit = (handed.1.0, tt);
    ensured = refl;
  },
  refl,
)

pub write_block_of_c_ends : Ends write_block_of_c
unfolding write_block_of_c
write_block_of_c_ends handed =
    let buffer = handed.1.1.1.0 in
    let replied = block handed.1.0.now handed.1.1.0 (length buffer.now) in (
      record {
        lifetimes = handed.0;
        arguments = handed.1;
        result = written_reply (length_of replied);
        at_exit = (handed.1.0, (handed.1.1.0, (at_last buffer (laid replied buffer.now), tt)));
        ensured = (refl, refl);
      },
      refl,
    )

pub check_ranks_of_c_ends : Ends check_ranks_of_c
unfolding check_ranks_of_c
check_ranks_of_c_ends handed = (
  record {
    lifetimes = handed.0;
    arguments = handed.1;
    result = verdict_reply (check_ranks handed.1.0.now handed.1.1.0.now);
    at_exit = (handed.1.0, (handed.1.1.0, tt));
    ensured = refl;
  },
  refl,
)

pub ranks_from_answer_of_c_ends : Ends ranks_from_answer_of_c
unfolding ranks_from_answer_of_c
ranks_from_answer_of_c_ends handed =
    let buffer = handed.1.1.1.0 in
    let replied = ranks_from_answer handed.1.0.now handed.1.1.0.now (length buffer.now) in (
      record {
        lifetimes = handed.0;
        arguments = handed.1;
        result = written_reply (length_of replied);
        at_exit = (handed.1.0, (handed.1.1.0, (at_last buffer (laid replied buffer.now), tt)));
        ensured = (refl, refl);
      },
      refl,
    )

pub run_of_c_ends : Ends run_of_c
unfolding run_of_c
run_of_c_ends handed =
    let buffer = handed.1.1.1.1.1.0 in
    let budget = handed.1.1.1.1.0 in
    let replied = run handed.1.0.now handed.1.1.0.now handed.1.1.1.0.now budget (length buffer.now) in (
      record {
        lifetimes = handed.0;
        arguments = handed.1;
        result = ran_reply (run_told replied);
        at_exit = (handed.1.0, (handed.1.1.0, (handed.1.1.1.0, (budget, (at_last buffer (laid (ran_bytes replied) buffer.now), tt)))));
        ensured = (refl, refl);
      },
      refl,
    )

pub argument_of_c_ends : Ends argument_of_c
unfolding argument_of_c
argument_of_c_ends handed = (
  record {
    lifetimes = handed.0;
    arguments = handed.1;
    result = part_reply (argument handed.1.0.now handed.1.1.0.now handed.1.1.1.0);
    at_exit = (handed.1.0, (handed.1.1.0, (handed.1.1.1.0, tt)));
    ensured = refl;
  },
  refl,
)

-- Whatever can be asked has a call.
pub read_book_of_c_asks : Asks read_book_of_c
unfolding read_book_of_c
read_book_of_c_asks question =
    asks_by read_book_of_c read_book_of_c_ends (λ h. h.1.0.now) (λ call. refl) question (([], tt), (behind question, tt)) refl

pub write_block_of_c_asks : Asks write_block_of_c
unfolding write_block_of_c
write_block_of_c_asks question =
    asks_by write_block_of_c write_block_of_c_ends (λ h. (h.1.0.now, h.1.1.0, length h.1.1.1.0.now)) (λ call. refl) question
    (([], ([], tt)), (behind question.0, (question.1, (room_for question.2, tt))))
    (ap (λ (n : ℕ). (question.0, question.1, n)) (length-replicate question.2 0))

pub check_ranks_of_c_asks : Asks check_ranks_of_c
unfolding check_ranks_of_c
check_ranks_of_c_asks question =
    asks_by check_ranks_of_c check_ranks_of_c_ends (λ h. (h.1.0.now, h.1.1.0.now)) (λ call. refl) question
    (([], ([], tt)), (behind question.0, (behind question.1, tt))) refl

pub ranks_from_answer_of_c_asks : Asks ranks_from_answer_of_c
unfolding ranks_from_answer_of_c
ranks_from_answer_of_c_asks question =
    asks_by ranks_from_answer_of_c ranks_from_answer_of_c_ends (λ h. (h.1.0.now, h.1.1.0.now, length h.1.1.1.0.now)) (λ call. refl) question
    (([], ([], ([], tt))), (behind question.0, (behind question.1, (room_for question.2, tt))))
    (ap (λ (n : ℕ). (question.0, question.1, n)) (length-replicate question.2 0))

pub run_of_c_asks : Asks run_of_c
unfolding run_of_c
run_of_c_asks question =
    asks_by run_of_c run_of_c_ends
    (λ h. (h.1.0.now, h.1.1.0.now, h.1.1.1.0.now, h.1.1.1.1.0, length h.1.1.1.1.1.0.now)) (λ call. refl) question (
      ([], ([], ([], ([], tt)))),
      (behind question.0, (behind question.1, (behind question.2, (question.3, (room_for question.4, tt))))),
    )
    (ap (λ (n : ℕ). (question.0, question.1, question.2, question.3, n)) (length-replicate question.4 0))

pub argument_of_c_asks : Asks argument_of_c
unfolding argument_of_c
argument_of_c_asks question =
    asks_by argument_of_c argument_of_c_ends (λ h. (h.1.0.now, h.1.1.0.now, h.1.1.1.0)) (λ call. refl) question
    (([], ([], tt)), (behind question.0, (behind question.1, (question.2, tt)))) refl
