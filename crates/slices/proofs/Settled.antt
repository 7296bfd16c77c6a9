-- Two replies that the contract of one function allows mean the same, and the buffer then begins with the same record, said of the contract
-- itself, whatever screen tells how far the run is. What stands behind that record is the run's working space and is left open. Assumes
-- nothing.
use mathlib.Core.Path.{◌≡◌, sym, ◌∙◌}
use contract.Lifetimes.{Lfts}
use borrow.Fn.Kinds.{Dens, ended_of}
use denote.Param.Laws.{Laws}
use denote.RattleType.{RattleType}
use denote.Triple.Clauses.{AtExit}
use mir.Syntax.{Dict}
use Rattle.std.specs.declared.io.Print as printing
use Rattle.std.specs.declared.io.stdio.IsTerminal as terminals
use lib.ListN.{length, take}
use Rattle.std.specs.Prelude.{Result}
use Rattle.reply.specs.Reply.{given}
use Rattle.reply.specs.declared.Refusal.{Refusal as Named}
use Rattle.record.specs.Record.{record_bytes}
use Rattle.steps.specs.Run.{Ran, run}
use Rattle.running.specs.RunMeaning.{run_meaning}
use Rattle.running.specs.declared.RanTo.{RanTo}
use Rattle.slices.proofs.run.Kinds as run_kinds
use Rattle.slices.proofs.run.Reads as run_reads

pub run_settled :
    (screen : RattleType) (laws : Laws screen) (prints : printing.Ghosts screen.Denot) (print : Dict) (tells : terminals.Ghosts screen.Denot) (tell : Dict) →
    (κs : Lfts 6) (a : Dens κs (run_kinds.ps screen laws)) (r r' : Result RanTo Named) (e e' : AtExit (ended_of 6 (run_kinds.ps screen laws) (run_kinds.r screen laws)) κs) →
    run_reads.Post screen laws prints print tells tell κs a r e → run_reads.Post screen laws prints print tells tell κs a r' e' →
    (run_meaning r ≡ run_meaning r')
    × ((ran : Ran) → run a.1.0.now a.1.1.0.now a.1.1.1.0.now a.1.1.1.1.0 513 ≡ given ran →
    take (length (record_bytes ran.reached)) e.1.1.1.1.1.0.now ≡ take (length (record_bytes ran.reached)) e'.1.1.1.1.1.0.now)
run_settled screen laws prints print tells tell κs a r r' e e' p p' = (
  p.replied ∙ sym p'.replied,
  λ ran given_so. p.holds ran given_so ∙ sym (p'.holds ran given_so),
)
