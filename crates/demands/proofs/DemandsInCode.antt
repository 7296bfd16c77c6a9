-- Demands 2 and 3 of the running code: what the definitions keep to, functions that answer and write as they are defined keep to; so Rattle's do, and
-- the calls for C. Assumes nothing.
use Rattle.demands.specs.EntryPoints.{a_block, checking_ranks, ranks_of_an_answer, a_run, an_argument}
use Rattle.demands.specs.InCode.{InCode, AsDefined}
use Rattle.demands.specs.Functions.{write_block_in_code, check_ranks_in_code, ranks_from_answer_in_code, run_in_code, argument_in_code}
use Rattle.demands.specs.ForC.{write_block_of_c, check_ranks_of_c, ranks_from_answer_of_c, run_of_c, argument_of_c}
use Rattle.demands.specs.DemandsInCode.{DemandsInCode}
use Rattle.demands.proofs.AsDefined.{write_block_as_defined, check_ranks_as_defined, ranks_from_answer_as_defined, run_as_defined, argument_as_defined}
use Rattle.demands.proofs.Ends.{Asks, write_block_asks}
use Rattle.demands.proofs.ForC.{write_block_of_c_lem, check_ranks_of_c_lem, ranks_from_answer_of_c_lem, run_of_c_lem, argument_of_c_lem, write_block_of_c_asks}
use Rattle.demands.proofs.FileInCode.{files}
use Rattle.demands.proofs.RanksInCode.{accepted_so}
use Rattle.demands.proofs.AnswerInCode as Answer
use Rattle.demands.proofs.RunInCode as Run
use Rattle.demands.proofs.RestInCode.{rests}
use Rattle.demands.proofs.BudgetsAddInCode.{adds}
use Rattle.demands.proofs.ArgumentInCode.{question}

demands :
    (block : InCode a_block) → AsDefined block → Asks block → (ranks : InCode checking_ranks) → AsDefined ranks → (answer : InCode ranks_of_an_answer) →
    AsDefined answer → (running : InCode a_run) → AsDefined running → (part : InCode an_argument) → AsDefined part → DemandsInCode block ranks answer running part
demands block block-so asks ranks ranks-so answer answer-so running running-so part part_so = record {
  file = files block block-so asks;
  accepted = accepted_so ranks ranks-so;
  answers = Answer.answers answer answer-so;
  yields = Run.yields running running-so;
  rest = rests ranks ranks-so answer answer-so running running-so;
  never_spent = Run.never_spent_lem running running-so;
  not_refused = Run.not_refused_lem running running-so;
  budgets_add = adds running running-so;
  argument = question part part_so;
}

pub demands_in_code : DemandsInCode write_block_in_code check_ranks_in_code ranks_from_answer_in_code run_in_code argument_in_code
demands_in_code =
    demands write_block_in_code write_block_as_defined write_block_asks check_ranks_in_code check_ranks_as_defined
    ranks_from_answer_in_code ranks_from_answer_as_defined run_in_code run_as_defined argument_in_code argument_as_defined

pub demands_of_c : DemandsInCode write_block_of_c check_ranks_of_c ranks_from_answer_of_c run_of_c argument_of_c
demands_of_c =
    demands write_block_of_c write_block_of_c_lem write_block_of_c_asks check_ranks_of_c check_ranks_of_c_lem
    ranks_from_answer_of_c ranks_from_answer_of_c_lem run_of_c run_of_c_lem argument_of_c argument_of_c_lem
