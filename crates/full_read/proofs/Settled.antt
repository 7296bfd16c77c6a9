-- Two replies that the contract allows lay the same bytes and leave the same in the reader, where they tell as many of them and what the reader has is known, said of the contract
-- itself. How many a reader gives at once, and whether it fails, no contract says. Assumes nothing.
use Rattle.std.proofs.Common.{◌≡◌, ℕ, List, take, sym, ◌∙◌}
use Rattle.std.specs.Prelude.{Some, Ok}
use Rattle.std.specs.declared.io.traits.Read as reading
use borrow.Fn.Kinds.{Dens, ended_of}
use contract.Lifetimes.{Lfts}
use denote.Param.Laws.{Laws}
use denote.RattleType.{RattleType}
use denote.Triple.Clauses.{AtExit}
use mir.Syntax.{Dict}
use Rattle.full_read.proofs.Given.{consumed}
use Rattle.full_read.proofs.read_full.Kinds as read_full_kinds
use Rattle.full_read.proofs.read_full.Reads as read_full

pub read_full_settled :
    (reader : RattleType) (laws : Laws reader) (reads : reading.Ghosts reader.Denot) (read : Dict) →
    (κs : Lfts 3) (a : Dens κs (read_full_kinds.ps reader laws)) (n : ℕ) (e e' : AtExit (ended_of 3 (read_full_kinds.ps reader laws) (read_full_kinds.r reader laws)) κs) →
    read_full.Post reader laws reads read κs a (Ok n) e → read_full.Post reader laws reads read κs a (Ok n) e' →
    (known : List ℕ) → reads.remaining a.0.now ≡ Some known →
    (take n e.1.0.now ≡ take n e'.1.0.now) × (reads.remaining e.0.now ≡ reads.remaining e'.0.now)
read_full_settled reader laws reads read κs a n e e' p p' known is =
    let one = consumed _ (reads.remaining e.0.now) known n (take n e.1.0.now) is p.0.1 p.1 in
    let other = consumed _ (reads.remaining e'.0.now) known n (take n e'.1.0.now) is p'.0.1 p'.1 in
    (one.0 ∙ sym other.0, one.1 ∙ sym other.1)
