-- The lines of each reply: of no more ranks than there are bytes. Assumes nothing.
use Prim.Native.Nat.{ℕ}
use mathlib.Core.Path.{ap, ◌∙◌}
use lib.ListN.{take}
use Rattle.std.proofs.lemmas.List.{take_min}
use Rattle.reply.specs.Replied.{replied}
use Rattle.text.proofs.Laying.{lays_as}
use Rattle.reply_lines.specs.Lines.{accepted_lines, rank_lines}
use Rattle.reply_lines.proofs.write_ranks.Goals as goal

pub returns-in-Ok : goal.returns-in-Ok
unfolding rank_lines replied
returns-in-Ok c =
    let ranks = c.args.ranks.now in
    rw c.in-Ok.is
    (lays_as (ap accepted_lines (ap (λ (n : ℕ). take n ranks) c.min.ensures ∙ take_min c.in-Ok.many ranks)) c.write_accepted.ensures)
