-- Demands 2 and 3 of the running code, and that budgets add up, of one set of functions: Rattle's own, and the calls for C.
use Rattle.demands.specs.EntryPoints.{a_block, checking_ranks, ranks_of_an_answer, a_run, an_argument}
use Rattle.demands.specs.InCode.{InCode}
use Rattle.demands.specs.Functions.{argument_hands_out}
use Rattle.demands.specs.FileInCode.{FileInCode}
use Rattle.demands.specs.RanksInCode.{AcceptedInCode}
use Rattle.demands.specs.AnswerInCode.{AnswersInCode}
use Rattle.demands.specs.RunInCode.{RunYieldsInCode, NeverSpentInCode, NotRefusedInCode}
use Rattle.demands.specs.RestInCode.{RestInCode}
use Rattle.demands.specs.BudgetsAdd.{BudgetsAddInCode}
use Rattle.demands.specs.ArgumentInCode.{ArgumentInCode}

-- Each of the demands' sentences, of the calls that the five contracts allow.
pub record DemandsInCode (block : InCode a_block) (ranks : InCode checking_ranks) (answer : InCode ranks_of_an_answer) (running : InCode a_run)
    (part : InCode an_argument) : Type 1 where
  pub file : FileInCode block
  pub accepted : AcceptedInCode ranks
  pub answers : AnswersInCode answer
  pub yields : RunYieldsInCode running
  pub rest : RestInCode ranks answer running
  pub never_spent : NeverSpentInCode running
  pub not_refused : NotRefusedInCode running
  pub budgets_add : BudgetsAddInCode running
  pub argument : ArgumentInCode part argument_hands_out
