-- The entry points return: each routine meets its contract, which the toolchain's adequacy carries to the machine. Assumes nothing.
use prog.Routine.{any_callee}
use mir.Syntax.{Symbol}
use mathlib.Core.Bool.{true}
use prog.Linked.{Entry}
use prog.LinkedThreads.{HasT, has-wired_t, tie_t, tie_t-follows, tie_t-threads}
use prog.Wired.{Wired}
use contract.Running.{alone, strict}
use denote.Triple.Spec.{Meets}
use denote.Triple.Adequate.{adequate}
use borrow.Fn.World.{World}
use Rattle.book.proofs.read_book.Met as read_book
use Rattle.blocks.proofs.write_block.Met as write_block
use Rattle.clearing.proofs.check_ranks.Met as check_ranks
use Rattle.answer.proofs.ranks_from_answer.Met as ranks_from_answer
use Rattle.running.proofs.run.Met as run
use Rattle.asking.proofs.argument_reply.Met as argument_reply
use Rattle.asking.proofs.argument.Met as argument
use Rattle.rulebook.proofs.rulebook_read_book.Met as c_read_book
use Rattle.rulebook.proofs.rulebook_write_block.Met as c_write_block
use Rattle.rulebook.proofs.rulebook_check_ranks.Met as c_check_ranks
use Rattle.rulebook.proofs.rulebook_ranks_from_answer.Met as c_ranks_from_answer
use Rattle.rulebook.proofs.rulebook_run.Met as c_run
use Rattle.rulebook.proofs.rulebook_argument.Met as c_argument
use Rattle.demands.specs.GeneratedContract.{Contract}
use Rattle.demands.specs.InCode.{Function}
use Rattle.demands.specs.Functions.{
  read_book_contract,
  write_block_contract,
  check_ranks_contract,
  ranks_from_answer_contract,
  run_contract,
  argument_reply_contract,
  argument_contract,
  functions,
}
use Rattle.demands.specs.ForC.{
  read_book_contract_of_c,
  write_block_contract_of_c,
  check_ranks_contract_of_c,
  ranks_from_answer_contract_of_c,
  run_contract_of_c,
  argument_contract_of_c,
  functions_of_c,
}
use Rattle.demands.proofs.Each.{no_more, also, each→}
use Rattle.returning.specs.Returning.{Returns, EndsInCode}

-- A model in which the process may not stop: no contract here lets it.
abbrev pub strictly : World → World
strictly w = record { M = w.M; 𝓤 = w.𝓤; 𝓛 = w.𝓛; 𝓜 = w.𝓜; 𝓡 = strict w.𝓤 w.𝓛.H w.𝓜 w.𝓡 }

pub returns :
    (c : Contract) →
    ((w : World) → Wired w.𝓡.env c.code → Meets w.𝓛 c.signature ((strictly w).𝓡.run (w.𝓡.env c.name)) (c.contract w)) →
    Returns c
unfolding alone
returns c met w wired handed memory frame holds =
    adequate w.𝓤 w.𝓛.H w.𝓜 (alone w.𝓤 w.𝓛.H w.𝓜 (strictly w).𝓡 (w.𝓡.env c.name)) (λ s allowed. allowed, tt) any_callee _ (met w wired) handed memory
    frame holds

-- A program is such a model, if it has each symbol of the function's code with its own code: the toolchain's machine on it is wired.
pub wired_in_program : (look : Symbol → Entry) (c : Contract) → HasT look true c.code → Wired (tie_t look) c.code
wired_in_program look c has = has-wired_t look (tie_t look) (tie_t-follows look) (tie_t-threads look) c.code has

pub ends_in_code : EndsInCode
unfolding functions functions_of_c
ends_in_code = record {
  each = λ f m.
      each→ (λ (g : Function). Returns g.contract)
      (also (returns read_book_contract (λ w. read_book.met w.𝓤 w.𝓛 w.𝓜 (strictly w).𝓡))
      (also (returns write_block_contract (λ w. write_block.met w.𝓤 w.𝓛 w.𝓜 (strictly w).𝓡))
      (also (returns check_ranks_contract (λ w. check_ranks.met w.𝓤 w.𝓛 w.𝓜 (strictly w).𝓡))
      (also (returns ranks_from_answer_contract (λ w. ranks_from_answer.met w.𝓤 w.𝓛 w.𝓜 (strictly w).𝓡))
      (also (returns run_contract (λ w. run.met w.𝓤 w.𝓛 w.𝓜 (strictly w).𝓡))
      (also (returns argument_reply_contract (λ w. argument_reply.met w.𝓤 w.𝓛 w.𝓜 (strictly w).𝓡)) no_more))))))
      m;
  argument = returns argument_contract (λ w. argument.met w.𝓤 w.𝓛 w.𝓜 (strictly w).𝓡);
  of_c = λ f m.
      each→ (λ (g : Function). Returns g.contract)
      (also (returns read_book_contract_of_c (λ w. c_read_book.met w.𝓤 w.𝓛 w.𝓜 (strictly w).𝓡))
      (also (returns write_block_contract_of_c (λ w. c_write_block.met w.𝓤 w.𝓛 w.𝓜 (strictly w).𝓡))
      (also (returns check_ranks_contract_of_c (λ w. c_check_ranks.met w.𝓤 w.𝓛 w.𝓜 (strictly w).𝓡))
      (also (returns ranks_from_answer_contract_of_c (λ w. c_ranks_from_answer.met w.𝓤 w.𝓛 w.𝓜 (strictly w).𝓡))
      (also (returns run_contract_of_c (λ w. c_run.met w.𝓤 w.𝓛 w.𝓜 (strictly w).𝓡))
      (also (returns argument_contract_of_c (λ w. c_argument.met w.𝓤 w.𝓛 w.𝓜 (strictly w).𝓡)) no_more))))))
      m;
}
