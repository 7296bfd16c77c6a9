-- Demand 1 of the running code: a function that answers and writes as its entry point is defined replies with a result or one of its
-- refusals, and a refusal leaves the lent buffer, since that holds of the definitions. Assumes nothing.
use mathlib.Core.Path.{◌≡◌, refl, sym, subst, ◌∙◌}
use Rattle.reply.specs.Reply.{Refusal, Reply, given, refused, ◌>>=◌}
use Rattle.reply.proofs.Given.{given_not_refused}
use Rattle.book.proofs.Settled.{read_book_settled}
use Rattle.blocks.proofs.Settled.{write_block_settled}
use Rattle.clearing.proofs.Settled.{check_ranks_settled}
use Rattle.answer.proofs.Settled.{ranks_from_answer_settled}
use Rattle.running.proofs.Settled.{run_settled}
use Rattle.asking.proofs.Settled.{argument_reply_settled}
use Rattle.rulebook.proofs.Settled as ForC
use Rattle.demands.specs.EntryPoints.{EntryPoint, answer, entry_points, entry_points_of_c}
use Rattle.demands.specs.Demand1.{ResultOrRefusal, Demanded}
use Rattle.demands.specs.GeneratedContract.{Settled}
use Rattle.demands.specs.InCode.{InCode, AsDefined, DemandedInCode, Function, entries_of, Demand1InCode}
use Rattle.demands.specs.Functions.{read_book_in_code, write_block_in_code, check_ranks_in_code, ranks_from_answer_in_code, run_in_code, argument_in_code, functions}
use Rattle.demands.specs.ForC.{read_book_of_c, write_block_of_c, check_ranks_of_c, ranks_from_answer_of_c, run_of_c, argument_of_c, functions_of_c}
use Rattle.demands.proofs.Each.{no_more, also, each→}
use Rattle.demands.proofs.Demand1.{answer_replies, book_demanded, counts_demanded, block_demanded, ranks_demanded, answer_demanded, run_demanded, argument_demanded}
use Rattle.demands.proofs.AsDefined.{read_book_as_defined, write_block_as_defined, check_ranks_as_defined, ranks_from_answer_as_defined, run_as_defined, argument_as_defined}
use Rattle.demands.proofs.ForC.{
  read_book_of_c_lem,
  write_block_of_c_lem,
  check_ranks_of_c_lem,
  ranks_from_answer_of_c_lem,
  run_of_c_lem,
  argument_of_c_lem,
  read_book_of_c_ends,
  read_book_of_c_asks,
  write_block_of_c_ends,
  write_block_of_c_asks,
  check_ranks_of_c_ends,
  check_ranks_of_c_asks,
  ranks_from_answer_of_c_ends,
  ranks_from_answer_of_c_asks,
  run_of_c_ends,
  run_of_c_asks,
  argument_of_c_ends,
  argument_of_c_asks,
}
use Rattle.demands.proofs.Ends.{
  Ends,
  Asks,
  read_book_ends,
  write_block_ends,
  check_ranks_ends,
  ranks_from_answer_ends,
  run_ends,
  argument_reply_ends,
  read_book_asks,
  write_block_asks,
  check_ranks_asks,
  ranks_from_answer_asks,
  run_asks,
  argument_reply_asks,
}

pub refused_too :
    {A B : Type 0} (told : A → B) (reply : Reply A) (r : Refusal) → ◌≡◌ {A = Reply B} (◌>>=◌ reply (λ a. given (told a))) (refused r) →
    reply ≡ refused r
unfolding ◌>>=◌
refused_too told (given a) r e = absurd (given_not_refused (told a) r e)
refused_too told (refused q) r e = cc

pub demanded_in_code :
    {e : EntryPoint} (code : InCode e) → ((handed : code.Handed) → code.Required handed) → Ends code → Asks code → AsDefined code → Demanded e →
    DemandedInCode code
unfolding answer
demanded_in_code {e} code takes ends asks as-defined demanded = record {
  takes = takes;
  ends = ends;
  asks = asks;
  replies = λ call.
      subst (λ (x : Reply e.Answer). ResultOrRefusal e.numbers x) (sym (as-defined.answers call)) (answer_replies e demanded (code.asked call));
  untouched = λ call r refuses.
      as-defined.writes call
      ∙ demanded.untouched (code.asked call) (code.before call) r
      (refused_too e.told (e.reply (code.asked call)) r (sym (as-defined.answers call) ∙ refuses));
}

pub demand1_in_code : Demand1InCode entry_points functions
unfolding entries_of entry_points functions read_book_in_code write_block_in_code check_ranks_in_code ranks_from_answer_in_code run_in_code argument_in_code
demand1_in_code = record {
  complete = refl;
  as_defined = λ f m.
      each→ (λ (g : Function). AsDefined g.code)
      (also read_book_as_defined
      (also write_block_as_defined
      (also check_ranks_as_defined (also ranks_from_answer_as_defined (also run_as_defined (also argument_as_defined no_more))))))
      m;
  demanded = λ f m.
      each→ (λ (g : Function). DemandedInCode g.code)
      (also (demanded_in_code read_book_in_code (λ handed. tt) read_book_ends read_book_asks read_book_as_defined book_demanded)
      (also (demanded_in_code write_block_in_code (λ handed. tt) write_block_ends write_block_asks write_block_as_defined block_demanded)
      (also (demanded_in_code check_ranks_in_code (λ handed. tt) check_ranks_ends check_ranks_asks check_ranks_as_defined ranks_demanded)
      (also (demanded_in_code ranks_from_answer_in_code (λ handed. tt) ranks_from_answer_ends ranks_from_answer_asks ranks_from_answer_as_defined answer_demanded)
      (also (demanded_in_code run_in_code (λ handed. tt) run_ends run_asks run_as_defined run_demanded)
      (also (demanded_in_code argument_in_code (λ handed. tt) argument_reply_ends argument_reply_asks argument_as_defined argument_demanded) no_more))))))
      m;
  settled = λ f m.
      each→ (λ (g : Function). Settled g.contract)
      (also (λ κs handed r r' e e' p p'. (read_book_settled κs handed r r' e e' p p', refl))
      (also write_block_settled
      (also (λ κs handed r r' e e' p p'. (check_ranks_settled κs handed r r' e e' p p', refl))
      (also ranks_from_answer_settled
      (also run_settled
      (also (λ κs handed r r' e e' p p'. (argument_reply_settled κs handed r r' e e' p p', refl)) no_more))))))
      m;
}

-- And of the calls for C.
pub demand1_of_c : Demand1InCode entry_points_of_c functions_of_c
unfolding entries_of entry_points_of_c functions_of_c read_book_of_c write_block_of_c check_ranks_of_c ranks_from_answer_of_c run_of_c argument_of_c
demand1_of_c = record {
  complete = refl;
  as_defined = λ f m.
      each→ (λ (g : Function). AsDefined g.code)
      (also read_book_of_c_lem
      (also write_block_of_c_lem (also check_ranks_of_c_lem (also ranks_from_answer_of_c_lem (also run_of_c_lem (also argument_of_c_lem no_more))))))
      m;
  demanded = λ f m.
      each→ (λ (g : Function). DemandedInCode g.code)
      (also (demanded_in_code read_book_of_c (λ handed. tt) read_book_of_c_ends read_book_of_c_asks read_book_of_c_lem counts_demanded)
      (also (demanded_in_code write_block_of_c (λ handed. tt) write_block_of_c_ends write_block_of_c_asks write_block_of_c_lem block_demanded)
      (also (demanded_in_code check_ranks_of_c (λ handed. tt) check_ranks_of_c_ends check_ranks_of_c_asks check_ranks_of_c_lem ranks_demanded)
      (also (demanded_in_code ranks_from_answer_of_c (λ handed. tt) ranks_from_answer_of_c_ends ranks_from_answer_of_c_asks ranks_from_answer_of_c_lem answer_demanded)
      (also (demanded_in_code run_of_c (λ handed. tt) run_of_c_ends run_of_c_asks run_of_c_lem run_demanded)
      (also (demanded_in_code argument_of_c (λ handed. tt) argument_of_c_ends argument_of_c_asks argument_of_c_lem argument_demanded) no_more))))))
      m;
  settled = λ f m.
      each→ (λ (g : Function). Settled g.contract)
      (also (λ κs handed r r' e e' p p'. (ForC.read_book_settled κs handed r r' e e' p p', refl))
      (also ForC.write_block_settled
      (also (λ κs handed r r' e e' p p'. (ForC.check_ranks_settled κs handed r r' e e' p p', refl))
      (also ForC.ranks_from_answer_settled
      (also ForC.run_settled
      (also (λ κs handed r r' e e' p p'. (ForC.argument_settled κs handed r r' e e' p p', refl)) no_more))))))
      m;
}
