-- The loop has noted a part for each subterm that it passed.
use Rattle.std.proofs.Common.{◌+◌, ◌*◌, ◌-◌, ◌≡◌}
use Rattle.clause_bytes.specs.Meaning.{parts_in}
use Rattle.rule_blocks.proofs.Walk.{Walked}
use Rattle.rule_blocks.proofs.nodes.parts_along.Given as goal

abbrev pub invariant-loop : goal.invariant-loop
invariant-loop l =
    Walked l.terms.bytes.now l.terms.arities l.start (λ n. l.first + l.step * n) l.initial.at l.many (parts_in l.initial.so_far) l.at (l.many - l.counter) (parts_in l.so_far)
    × (l.so_far.many ≡ l.initial.so_far.many + l.counter)
