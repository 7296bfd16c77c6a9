-- The functions of the code: which contract each entry point has, what is asked by what is handed over, and what is answered and left in the lent buffer.
use Rattle.std.specs.Prelude.{◌+◌, List, [], ◌∷◌, ◌≡◌, refl, length}
use Rattle.reply.specs.Replied.{replied}
use Rattle.book.specs.Meaning.{meaning}
use Rattle.asking.specs.Asked.{argument_meaning}
use Rattle.running.specs.RunMeaning.{run_meaning}
use Rattle.book.specs.contracts.read_book as read_book
use Rattle.book.proofs.read_book.Kinds as read_book_kinds
use Rattle.book.proofs.read_book.Reads as read_book_reads
use Rattle.book.proofs.read_book.Symbol as read_book_symbol
use Rattle.blocks.specs.contracts.write_block as write_block
use Rattle.blocks.proofs.write_block.Kinds as write_block_kinds
use Rattle.blocks.proofs.write_block.Reads as write_block_reads
use Rattle.blocks.proofs.write_block.Symbol as write_block_symbol
use Rattle.clearing.specs.contracts.check_ranks as check_ranks
use Rattle.clearing.proofs.check_ranks.Kinds as check_ranks_kinds
use Rattle.clearing.proofs.check_ranks.Reads as check_ranks_reads
use Rattle.clearing.proofs.check_ranks.Symbol as check_ranks_symbol
use Rattle.answer.specs.contracts.ranks_from_answer as ranks_from_answer
use Rattle.answer.proofs.ranks_from_answer.Kinds as ranks_from_answer_kinds
use Rattle.answer.proofs.ranks_from_answer.Reads as ranks_from_answer_reads
use Rattle.answer.proofs.ranks_from_answer.Symbol as ranks_from_answer_symbol
use Rattle.running.specs.contracts.run as run
use Rattle.running.proofs.run.Kinds as run_kinds
use Rattle.running.proofs.run.Reads as run_reads
use Rattle.running.proofs.run.Symbol as run_symbol
use Rattle.asking.specs.contracts.argument_reply as argument_reply
use Rattle.asking.proofs.argument_reply.Kinds as argument_reply_kinds
use Rattle.asking.proofs.argument_reply.Reads as argument_reply_reads
use Rattle.asking.proofs.argument_reply.Symbol as argument_reply_symbol
use Rattle.asking.specs.contracts.argument as argument
use Rattle.asking.proofs.argument.Kinds as argument_kinds
use Rattle.asking.proofs.argument.Reads as argument_reads
use Rattle.asking.proofs.argument.Symbol as argument_symbol
use Rattle.demands.specs.EntryPoints.{reading_a_book, a_block, checking_ranks, ranks_of_an_answer, a_run, an_argument}
use Rattle.demands.specs.GeneratedContract.{Contract}
use Rattle.demands.specs.InCode.{InCode, by_contract, Function}
use Rattle.demands.specs.ArgumentInCode.{HandsOut, handing_out}

-- The contracts.
abbrev pub read_book_contract : Contract
read_book_contract = record {
  lifetimes = 1;
  parameters = read_book_kinds.ps;
  result = read_book_kinds.r;
  requires = read_book_reads.Pre;
  ensures = read_book_reads.Post;
  lent = λ κs e. [];
  signature = read_book.signature;
  code = read_book_symbol.code;
  name = read_book_symbol.name;
  contract = λ w. read_book.spec w.𝓛 w.𝓜.mem w.𝓡.returns;
}

abbrev pub write_block_contract : Contract
write_block_contract = record {
  lifetimes = 2;
  parameters = write_block_kinds.ps;
  result = write_block_kinds.r;
  requires = write_block_reads.Pre;
  ensures = write_block_reads.Post;
  lent = λ κs e. e.1.1.0.now;
  signature = write_block.signature;
  code = write_block_symbol.code;
  name = write_block_symbol.name;
  contract = λ w. write_block.spec w.𝓛 w.𝓜.mem w.𝓡.returns;
}

abbrev pub check_ranks_contract : Contract
check_ranks_contract = record {
  lifetimes = 2;
  parameters = check_ranks_kinds.ps;
  result = check_ranks_kinds.r;
  requires = check_ranks_reads.Pre;
  ensures = check_ranks_reads.Post;
  lent = λ κs e. [];
  signature = check_ranks.signature;
  code = check_ranks_symbol.code;
  name = check_ranks_symbol.name;
  contract = λ w. check_ranks.spec w.𝓛 w.𝓜.mem w.𝓡.returns;
}

abbrev pub ranks_from_answer_contract : Contract
ranks_from_answer_contract = record {
  lifetimes = 3;
  parameters = ranks_from_answer_kinds.ps;
  result = ranks_from_answer_kinds.r;
  requires = ranks_from_answer_reads.Pre;
  ensures = ranks_from_answer_reads.Post;
  lent = λ κs e. e.1.1.0.now;
  signature = ranks_from_answer.signature;
  code = ranks_from_answer_symbol.code;
  name = ranks_from_answer_symbol.name;
  contract = λ w. ranks_from_answer.spec w.𝓛 w.𝓜.mem w.𝓡.returns;
}

abbrev pub run_contract : Contract
run_contract = record {
  lifetimes = 4;
  parameters = run_kinds.ps;
  result = run_kinds.r;
  requires = run_reads.Pre;
  ensures = run_reads.Post;
  lent = λ κs e. e.1.1.1.1.0.now;
  signature = run.signature;
  code = run_symbol.code;
  name = run_symbol.name;
  contract = λ w. run.spec w.𝓛 w.𝓜.mem w.𝓡.returns;
}

abbrev pub argument_reply_contract : Contract
argument_reply_contract = record {
  lifetimes = 2;
  parameters = argument_reply_kinds.ps;
  result = argument_reply_kinds.r;
  requires = argument_reply_reads.Pre;
  ensures = argument_reply_reads.Post;
  lent = λ κs e. [];
  signature = argument_reply.signature;
  code = argument_reply_symbol.code;
  name = argument_reply_symbol.name;
  contract = λ w. argument_reply.spec w.𝓛 w.𝓜.mem w.𝓡.returns;
}

abbrev pub argument_contract : Contract
argument_contract = record {
  lifetimes = 2;
  parameters = argument_kinds.ps;
  result = argument_kinds.r;
  requires = argument_reads.Pre;
  ensures = argument_reads.Post;
  lent = λ κs e. [];
  signature = argument.signature;
  code = argument_symbol.code;
  name = argument_symbol.name;
  contract = λ w. argument.spec w.𝓛 w.𝓜.mem w.𝓡.returns;
}

-- The entry points by them.
unfoldable pub read_book_in_code : InCode reading_a_book
read_book_in_code =
    by_contract read_book_contract reading_a_book
    (λ call. call.arguments.0.now)
    (λ call. meaning call.arguments.0.now call.result)
    (λ call. [])

unfoldable pub write_block_in_code : InCode a_block
write_block_in_code =
    by_contract write_block_contract a_block
    (λ call. (call.arguments.0.now, call.arguments.1.0, length call.arguments.1.1.0.now))
    (λ call. replied call.result)
    (λ call. call.arguments.1.1.0.now)

unfoldable pub check_ranks_in_code : InCode checking_ranks
check_ranks_in_code =
    by_contract check_ranks_contract checking_ranks
    (λ call. (call.arguments.0.now, call.arguments.1.0.now))
    (λ call. replied call.result)
    (λ call. [])

unfoldable pub ranks_from_answer_in_code : InCode ranks_of_an_answer
ranks_from_answer_in_code =
    by_contract ranks_from_answer_contract ranks_of_an_answer
    (λ call. (call.arguments.0.now, call.arguments.1.0.now, length call.arguments.1.1.0.now))
    (λ call. replied call.result)
    (λ call. call.arguments.1.1.0.now)

unfoldable pub run_in_code : InCode a_run
run_in_code =
    by_contract run_contract a_run
    (λ call. (
      call.arguments.0.now,
      call.arguments.1.0.now,
      call.arguments.1.1.0.now,
      call.arguments.1.1.1.0,
      length call.arguments.1.1.1.1.0.now,
    ))
    (λ call. run_meaning call.result)
    (λ call. call.arguments.1.1.1.1.0.now)

unfoldable pub argument_in_code : InCode an_argument
argument_in_code =
    by_contract argument_reply_contract an_argument
    (λ call. (call.arguments.0.now, call.arguments.1.0.now, call.arguments.1.1.0))
    (λ call. argument_meaning call.result)
    (λ call. [])

unfoldable pub functions : List Function
unfolding read_book_in_code write_block_in_code check_ranks_in_code ranks_from_answer_in_code run_in_code argument_in_code
functions =
    record { entry = reading_a_book; contract = read_book_contract; code = read_book_in_code; calls = refl }
    ∷ record { entry = a_block; contract = write_block_contract; code = write_block_in_code; calls = refl }
    ∷ record { entry = checking_ranks; contract = check_ranks_contract; code = check_ranks_in_code; calls = refl }
    ∷ record { entry = ranks_of_an_answer; contract = ranks_from_answer_contract; code = ranks_from_answer_in_code; calls = refl }
    ∷ record { entry = a_run; contract = run_contract; code = run_in_code; calls = refl }
    ∷ record { entry = an_argument; contract = argument_reply_contract; code = argument_in_code; calls = refl }
    ∷ []

-- `argument` hands out the part itself.
unfoldable pub argument_hands_out : HandsOut
argument_hands_out =
    handing_out argument_contract
    (λ call. (call.arguments.0.now, call.arguments.1.0.now, call.arguments.1.1.0))
    (λ call. call.result.now)
    (λ call behind. (call.result.ref_ptr.0 ≡ call.arguments.1.0.ref_ptr.0) × (call.result.ref_ptr.1 ≡ call.arguments.1.0.ref_ptr.1 + behind))
