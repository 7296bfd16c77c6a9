-- The calls for C, the functions of `rulebook`, which `rulebook_c` exports under the same clauses: which contract each entry point has, what is asked
-- by what is handed over, what the answered struct says, and what is left in the lent buffer.
use Rattle.std.specs.Prelude.{ℕ, true, false, List, [], ◌∷◌, refl, eqb, length}
use Rattle.reply.specs.Reply.{Reply, given, refused, ◌at◌}
use Rattle.steps.specs.Run.{Outcome, done, spent, too_large}
use Rattle.steps.specs.Argument.{Part}
use Rattle.running.specs.RunMeaning.{Told}
use Rattle.rulebook.specs.declared.replies.Verdict.{Verdict}
use Rattle.rulebook.specs.declared.replies.BookReply.{BookReply}
use Rattle.rulebook.specs.declared.replies.WrittenReply.{WrittenReply}
use Rattle.rulebook.specs.declared.replies.RanReply.{RanReply}
use Rattle.rulebook.specs.declared.replies.PartReply.{PartReply}
use Rattle.rulebook.specs.contracts.rulebook_read_book as read_book
use Rattle.rulebook.proofs.rulebook_read_book.Kinds as read_book_kinds
use Rattle.rulebook.proofs.rulebook_read_book.Reads as read_book_reads
use Rattle.rulebook.proofs.rulebook_read_book.Symbol as read_book_symbol
use Rattle.rulebook.specs.contracts.rulebook_write_block as write_block
use Rattle.rulebook.proofs.rulebook_write_block.Kinds as write_block_kinds
use Rattle.rulebook.proofs.rulebook_write_block.Reads as write_block_reads
use Rattle.rulebook.proofs.rulebook_write_block.Symbol as write_block_symbol
use Rattle.rulebook.specs.contracts.rulebook_check_ranks as check_ranks
use Rattle.rulebook.proofs.rulebook_check_ranks.Kinds as check_ranks_kinds
use Rattle.rulebook.proofs.rulebook_check_ranks.Reads as check_ranks_reads
use Rattle.rulebook.proofs.rulebook_check_ranks.Symbol as check_ranks_symbol
use Rattle.rulebook.specs.contracts.rulebook_ranks_from_answer as ranks_from_answer
use Rattle.rulebook.proofs.rulebook_ranks_from_answer.Kinds as ranks_from_answer_kinds
use Rattle.rulebook.proofs.rulebook_ranks_from_answer.Reads as ranks_from_answer_reads
use Rattle.rulebook.proofs.rulebook_ranks_from_answer.Symbol as ranks_from_answer_symbol
use Rattle.rulebook.specs.contracts.rulebook_run as run
use Rattle.rulebook.proofs.rulebook_run.Kinds as run_kinds
use Rattle.rulebook.proofs.rulebook_run.Reads as run_reads
use Rattle.rulebook.proofs.rulebook_run.Symbol as run_symbol
use Rattle.rulebook.specs.contracts.rulebook_argument as argument
use Rattle.rulebook.proofs.rulebook_argument.Kinds as argument_kinds
use Rattle.rulebook.proofs.rulebook_argument.Reads as argument_reads
use Rattle.rulebook.proofs.rulebook_argument.Symbol as argument_symbol
use Rattle.demands.specs.EntryPoints.{Counts, counting_a_book, a_block, checking_ranks, ranks_of_an_answer, a_run, an_argument}
use Rattle.demands.specs.GeneratedContract.{Contract}
use Rattle.demands.specs.InCode.{InCode, by_contract, Function}

-- What a struct says, read as `include/rulebook.h` has it: where `refusal` is 0 the result is in the other fields, else it is refused by that number
-- at that place.
unfoldable pub saying : {A : Type 0} → (refusal place : ℕ) → A → Reply A
saying refusal place result = elim (eqb refusal 0) [ true ↦ given result | false ↦ refused (refusal at place) ]

abbrev pub verdict_says : Verdict → Reply (Unit {0})
verdict_says r = saying r.refusal r.place tt

abbrev pub book_says : BookReply → Reply Counts
book_says r = saying r.refusal r.place (record { symbols = r.symbols; rules = r.rules; blocks = r.blocks })

abbrev pub written_says : WrittenReply → Reply ℕ
written_says r = saying r.refusal r.place r.length

-- An outcome by its number: 1 done, 2 spent, 3 too large.
unfoldable pub outcome_says : ℕ → Outcome
outcome_says number = elim (eqb number 1) [ true ↦ done | false ↦ elim (eqb number 2) [ true ↦ spent | false ↦ too_large ] ]

abbrev pub ran_says : RanReply → Reply Told
ran_says r = saying r.refusal r.place (record { outcome = outcome_says r.outcome; steps = r.steps; length = r.length })

abbrev pub part_says : PartReply → Reply Part
part_says r = saying r.refusal r.place (record { start = r.start; length = r.length })

-- The contracts.
abbrev pub read_book_contract_of_c : Contract
read_book_contract_of_c = record {
  lifetimes = 1;
  parameters = read_book_kinds.ps;
  result = read_book_kinds.r;
  requires = read_book_reads.Pre;
  ensures = read_book_reads.Post;
  lent = λ κs e. [];
  signature = read_book.signature;
  code = read_book_symbol.code;
  name = read_book_symbol.name;
  contract = λ w. read_book.spec w.𝓛 w.𝓜.mem w.𝓡.returns;
}

abbrev pub write_block_contract_of_c : Contract
write_block_contract_of_c = record {
  lifetimes = 2;
  parameters = write_block_kinds.ps;
  result = write_block_kinds.r;
  requires = write_block_reads.Pre;
  ensures = write_block_reads.Post;
  lent = λ κs e. e.1.1.0.now;
  signature = write_block.signature;
  code = write_block_symbol.code;
  name = write_block_symbol.name;
  contract = λ w. write_block.spec w.𝓛 w.𝓜.mem w.𝓡.returns;
}

abbrev pub check_ranks_contract_of_c : Contract
check_ranks_contract_of_c = record {
  lifetimes = 2;
  parameters = check_ranks_kinds.ps;
  result = check_ranks_kinds.r;
  requires = check_ranks_reads.Pre;
  ensures = check_ranks_reads.Post;
  lent = λ κs e. [];
  signature = check_ranks.signature;
  code = check_ranks_symbol.code;
  name = check_ranks_symbol.name;
  contract = λ w. check_ranks.spec w.𝓛 w.𝓜.mem w.𝓡.returns;
}

abbrev pub ranks_from_answer_contract_of_c : Contract
ranks_from_answer_contract_of_c = record {
  lifetimes = 3;
  parameters = ranks_from_answer_kinds.ps;
  result = ranks_from_answer_kinds.r;
  requires = ranks_from_answer_reads.Pre;
  ensures = ranks_from_answer_reads.Post;
  lent = λ κs e. e.1.1.0.now;
  signature = ranks_from_answer.signature;
  code = ranks_from_answer_symbol.code;
  name = ranks_from_answer_symbol.name;
  contract = λ w. ranks_from_answer.spec w.𝓛 w.𝓜.mem w.𝓡.returns;
}

abbrev pub run_contract_of_c : Contract
run_contract_of_c = record {
  lifetimes = 4;
  parameters = run_kinds.ps;
  result = run_kinds.r;
  requires = run_reads.Pre;
  ensures = run_reads.Post;
  lent = λ κs e. e.1.1.1.1.0.now;
  signature = run.signature;
  code = run_symbol.code;
  name = run_symbol.name;
  contract = λ w. run.spec w.𝓛 w.𝓜.mem w.𝓡.returns;
}

abbrev pub argument_contract_of_c : Contract
argument_contract_of_c = record {
  lifetimes = 2;
  parameters = argument_kinds.ps;
  result = argument_kinds.r;
  requires = argument_reads.Pre;
  ensures = argument_reads.Post;
  lent = λ κs e. [];
  signature = argument.signature;
  code = argument_symbol.code;
  name = argument_symbol.name;
  contract = λ w. argument.spec w.𝓛 w.𝓜.mem w.𝓡.returns;
}

-- The entry points by them.
unfoldable pub read_book_of_c : InCode counting_a_book
read_book_of_c = by_contract read_book_contract_of_c counting_a_book (λ call. call.arguments.0.now) (λ call. book_says call.result) (λ call. [])

unfoldable pub write_block_of_c : InCode a_block
write_block_of_c =
    by_contract write_block_contract_of_c a_block
    (λ call. (call.arguments.0.now, call.arguments.1.0, length call.arguments.1.1.0.now))
    (λ call. written_says call.result)
    (λ call. call.arguments.1.1.0.now)

unfoldable pub check_ranks_of_c : InCode checking_ranks
check_ranks_of_c =
    by_contract check_ranks_contract_of_c checking_ranks
    (λ call. (call.arguments.0.now, call.arguments.1.0.now))
    (λ call. verdict_says call.result)
    (λ call. [])

unfoldable pub ranks_from_answer_of_c : InCode ranks_of_an_answer
ranks_from_answer_of_c =
    by_contract ranks_from_answer_contract_of_c ranks_of_an_answer
    (λ call. (call.arguments.0.now, call.arguments.1.0.now, length call.arguments.1.1.0.now))
    (λ call. written_says call.result)
    (λ call. call.arguments.1.1.0.now)

unfoldable pub run_of_c : InCode a_run
run_of_c =
    by_contract run_contract_of_c a_run
    (λ call. (
      call.arguments.0.now,
      call.arguments.1.0.now,
      call.arguments.1.1.0.now,
      call.arguments.1.1.1.0,
      length call.arguments.1.1.1.1.0.now,
    ))
    (λ call. ran_says call.result)
    (λ call. call.arguments.1.1.1.1.0.now)

unfoldable pub argument_of_c : InCode an_argument
argument_of_c =
    by_contract argument_contract_of_c an_argument
    (λ call. (call.arguments.0.now, call.arguments.1.0.now, call.arguments.1.1.0))
    (λ call. part_says call.result)
    (λ call. [])

unfoldable pub functions_of_c : List Function
unfolding read_book_of_c write_block_of_c check_ranks_of_c ranks_from_answer_of_c run_of_c argument_of_c
functions_of_c =
    record { entry = counting_a_book; contract = read_book_contract_of_c; code = read_book_of_c; calls = refl }
    ∷ record { entry = a_block; contract = write_block_contract_of_c; code = write_block_of_c; calls = refl }
    ∷ record { entry = checking_ranks; contract = check_ranks_contract_of_c; code = check_ranks_of_c; calls = refl }
    ∷ record { entry = ranks_of_an_answer; contract = ranks_from_answer_contract_of_c; code = ranks_from_answer_of_c; calls = refl }
    ∷ record { entry = a_run; contract = run_contract_of_c; code = run_of_c; calls = refl }
    ∷ record { entry = an_argument; contract = argument_contract_of_c; code = argument_of_c; calls = refl }
    ∷ []
