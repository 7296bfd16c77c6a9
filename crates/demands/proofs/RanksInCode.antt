-- Demand 2 of the running code's `check_ranks`: it answers as the definition does, which accepts exactly the ranks that clear. Assumes
-- nothing.
use mathlib.Core.Logic.Iff
use mathlib.Core.Path.{◌≡◌, sym, ap, ◌∙◌}
use Rattle.order.specs.Clearing.{check_ranks}
use Rattle.order.proofs.Checked.{accepted_exactly}
use Rattle.demands.specs.EntryPoints.{answer, checking_ranks}
use Rattle.demands.specs.InCode.{InCode, AsDefined}
use Rattle.demands.specs.RanksInCode.{AcceptedInCode}
use Rattle.demands.proofs.AsDefined.{itself}

pub accepted_so : (code : InCode checking_ranks) → AsDefined code → AcceptedInCode code
unfolding AcceptedInCode answer
accepted_so code as-defined call bytes ranks book asked read =
    let so : code.answered call ≡ check_ranks bytes ranks =
    as-defined.answers call ∙ ap (answer checking_ranks) asked ∙ sym (itself (check_ranks bytes ranks))
    in
    Iff.trans (λ e. sym so ∙ e, λ e. so ∙ e) (accepted_exactly bytes book ranks read)
