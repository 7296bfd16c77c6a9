-- "Every entry point .. ends", of what the archive exports: each export returns, and keeps the contract of the call for C, that of `rulebook`'s function
-- of its name. Its own contract is the same. Assumes nothing.
use mathlib.Core.List.{List, [], ◌∷◌, Memᴰ}
use mir.Syntax.{Callee}
use prog.Wired.{Code}
use Rattle.demands.specs.GeneratedContract.{Contract}
use Rattle.demands.specs.ForC.{
  read_book_contract_of_c,
  write_block_contract_of_c,
  check_ranks_contract_of_c,
  ranks_from_answer_contract_of_c,
  run_contract_of_c,
  argument_contract_of_c,
}
use Rattle.demands.proofs.Each.{no_more, also, each→}
use Rattle.returning.specs.Returning.{Returns}
use Rattle.returning.proofs.Returning.{returns, strictly}
use Rattle.rulebook_c.proofs.rulebook_read_book.Symbol as read_book
use Rattle.rulebook_c.proofs.rulebook_read_book.Met as read_book_met
use Rattle.rulebook_c.proofs.rulebook_write_block.Symbol as write_block
use Rattle.rulebook_c.proofs.rulebook_write_block.Met as write_block_met
use Rattle.rulebook_c.proofs.rulebook_check_ranks.Symbol as check_ranks
use Rattle.rulebook_c.proofs.rulebook_check_ranks.Met as check_ranks_met
use Rattle.rulebook_c.proofs.rulebook_ranks_from_answer.Symbol as ranks_from_answer
use Rattle.rulebook_c.proofs.rulebook_ranks_from_answer.Met as ranks_from_answer_met
use Rattle.rulebook_c.proofs.rulebook_run.Symbol as run
use Rattle.rulebook_c.proofs.rulebook_run.Met as run_met
use Rattle.rulebook_c.proofs.rulebook_argument.Symbol as argument
use Rattle.rulebook_c.proofs.rulebook_argument.Met as argument_met

-- A contract, of an export's code in place of that of the function of its name.
abbrev pub exported : Contract → Code → Callee → Contract
exported c code name = record c { code = code; name = name }

unfoldable pub exports : List Contract
exports =
    exported read_book_contract_of_c read_book.code read_book.name
    ∷ exported write_block_contract_of_c write_block.code write_block.name
    ∷ exported check_ranks_contract_of_c check_ranks.code check_ranks.name
    ∷ exported ranks_from_answer_contract_of_c ranks_from_answer.code ranks_from_answer.name
    ∷ exported run_contract_of_c run.code run.name
    ∷ exported argument_contract_of_c argument.code argument.name
    ∷ []

pub exports_return : (c : Contract) → Memᴰ c exports → Returns c
unfolding exports
exports_return c m =
    each→ Returns
    (also (returns (exported read_book_contract_of_c read_book.code read_book.name) (λ w. read_book_met.met w.𝓤 w.𝓛 w.𝓜 (strictly w).𝓡))
    (also (returns (exported write_block_contract_of_c write_block.code write_block.name) (λ w. write_block_met.met w.𝓤 w.𝓛 w.𝓜 (strictly w).𝓡))
    (also (returns (exported check_ranks_contract_of_c check_ranks.code check_ranks.name) (λ w. check_ranks_met.met w.𝓤 w.𝓛 w.𝓜 (strictly w).𝓡))
    (also
    (returns
    (exported ranks_from_answer_contract_of_c ranks_from_answer.code ranks_from_answer.name)
    (λ w. ranks_from_answer_met.met w.𝓤 w.𝓛 w.𝓜 (strictly w).𝓡))
    (also (returns (exported run_contract_of_c run.code run.name) (λ w. run_met.met w.𝓤 w.𝓛 w.𝓜 (strictly w).𝓡))
    (also (returns (exported argument_contract_of_c argument.code argument.name) (λ w. argument_met.met w.𝓤 w.𝓛 w.𝓜 (strictly w).𝓡)) no_more))))))
    m
