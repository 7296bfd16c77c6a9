-- What is laid is the part of the bytes that there is, laid as a text.
use Rattle.term.proofs.Copied.{nothing_copied, part_copied}
use Rattle.term.proofs.copy.Goals as goal

pub returns-then-stop-start : goal.returns-then-stop-start
returns-then-stop-start c =
    let a = c.args in
    let none = nothing_copied a.bytes.now a.start a.end c.min-stop.result c.min-stop.ensures a.out.now c.if-stop-start.true in
    record { laid = none.0; kept = none.1 }

pub returns : goal.returns
returns c =
    let a = c.args in
    let part = part_copied a.bytes.now a.start a.end c.min-stop.result c.min-stop.ensures c.write_text.ensures in
    record { laid = part.0; kept = part.1 }
