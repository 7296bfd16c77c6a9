-- The reading of the nodes goes on from the locals at `at`; the measure is what is left of the bytes.
use Prim.Native.Nat.{◌-◌}
use lib.ListN.{length, take}
use Rattle.record.proofs.Going.{NodesGoing}
use Rattle.record.proofs.read_term.Given as goal

abbrev pub invariant-loop-missing : goal.invariant-loop-missing
invariant-loop-missing l = NodesGoing l.bytes (take l.symbols l.arities) l.missing l.nodes l.at

abbrev pub decreases-loop-missing : goal.decreases-loop-missing
decreases-loop-missing l = length l.bytes - l.at
