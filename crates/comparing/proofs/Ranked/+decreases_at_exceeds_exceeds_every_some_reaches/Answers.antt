-- One number falls over the cycle, and each answer is the order's test, one case and one argument at a time.
use Rattle.std.proofs.Common.{◌≡◌, ◌+◌, ◌-◌, ◌<◌, true, false, arith, le_refl}
use borrow.Author.Tests.{ne_eqb}
use native.Mathlib.Numerals.{unary_clauses}
use Rattle.comparing.proofs.Compared.{under, under_fewer, first_standing, first_fewer, others, first_and_others, later_lists, lists_within, as_many, lists, at_a_variable, reaching, past_a_variable, above_it, beside_it, below_it, none_reaches, first_identical, first_exceeds, later_reaches, every_of_none, first_fails, later_every, none_decreases, first_alike, first_decreases, first_does_not}
use Rattle.comparing.proofs.Ranked.+decreases_at_exceeds_exceeds_every_some_reaches.Goals as goal
use Rattle.comparing.proofs.Ranked.+decreases_at_exceeds_exceeds_every_some_reaches.Goals.{some_reaches-then-same_at-via-then-same_at, some_reaches-then-same_at-via-else-same_at+then-exceeds}

pub exceeds-returns-in_default : goal.exceeds-returns-in_default
exceeds-returns-in_default t c = at_a_variable c.args.self.now.ranks c.in_default.ensures

pub exceeds-some_reaches-requires : goal.exceeds-some_reaches-requires
exceeds-some_reaches-requires t c =
    let left = c.in-Some.ensures in
    let s = c.requires.s_stands in
    let u = c.requires.t_stands in
    (omega (arith, under_fewer left s, c.decreases), (under left s, u))

pub exceeds-returns-then-some_reaches : goal.exceeds-returns-then-some_reaches
exceeds-returns-then-some_reaches t c = reaching c.args.self.now.ranks c.in-Some.ensures c.if-some_reaches.ensures

pub exceeds-returns-in_default-root_at : goal.exceeds-returns-in_default-root_at
exceeds-returns-in_default-root_at t c =
    past_a_variable c.args.self.now.ranks c.in-Some.ensures c.if-some_reaches.ensures c.in_default-root_at.ensures

pub exceeds-exceeds_every-requires : goal.exceeds-exceeds_every-requires
exceeds-exceeds_every-requires t c =
    let right = c.in-Some-root_at.ensures in
    let s = c.requires.s_stands in
    let u = c.requires.t_stands in
    (omega (arith, under_fewer right u, c.decreases), (s, under right u))

pub exceeds-returns-then-higher : goal.exceeds-returns-then-higher
exceeds-returns-then-higher t c =
    above_it c.args.self.now.ranks c.in-Some.ensures c.if-some_reaches.ensures c.in-Some-root_at.ensures c.if-higher.ensures c.exceeds_every.ensures

pub exceeds-decreases_at-requires : goal.exceeds-decreases_at-requires
exceeds-decreases_at-requires t c =
    let left = c.in-Some.ensures in
    let right = c.in-Some-root_at.ensures in
    let s = c.requires.s_stands in
    let u = c.requires.t_stands in
    let alike = c.if-left-right.true in
    (rw (← as_many left right alike) (omega (arith, under_fewer right u, c.decreases)), lists left right alike s u)

pub exceeds-returns-then-left-right : goal.exceeds-returns-then-left-right
exceeds-returns-then-left-right t c =
    beside_it c.args.self.now.ranks c.in-Some.ensures c.if-some_reaches.ensures c.in-Some-root_at.ensures c.if-higher.ensures c.if-left-right.true c.decreases_at.ensures

pub exceeds-returns-else-left-right : goal.exceeds-returns-else-left-right
exceeds-returns-else-left-right t c =
    rw (ne_eqb c.in-Some.left.symbol c.in-Some-root_at.right.symbol c.if-left-right.false)
    (below_it c.args.self.now.ranks c.in-Some.ensures c.if-some_reaches.ensures c.in-Some-root_at.ensures c.if-higher.ensures c.if-left-right.false)

pub some_reaches-loop-init : goal.some_reaches-loop-init
some_reaches-loop-init t c = simp unary_clauses record { left = c.requires.ss_stand; fewer = le_refl _; all = λ r h. h }

pub some_reaches-same_at-requires-clause-standing : goal.some_reaches-same_at-requires-clause-standing
some_reaches-same_at-requires-clause-standing t c = first_standing c.loop.invariant.left (omega arith)

pub some_reaches-exceeds-requires : goal.some_reaches-exceeds-requires
some_reaches-exceeds-requires t c =
    let left = c.loop.invariant.left in
    (omega (arith, first_fewer left (omega arith), c.decreases), (first_standing left (omega arith), c.requires.t_stands))

pub some_reaches-returns-then-same_at : goal.some_reaches-returns-then-same_at
some_reaches-returns-then-same_at t c =
    let ranks = c.args.self.now.ranks in
    let some : 0 < c.args.many - c.loop.counter = omega arith in
    c.loop.invariant.all true
    (elim c.then-same_at.branch [
      | some_reaches-then-same_at-via-then-same_at w ↦ first_identical ranks some w.if-same_at.ensures
      | some_reaches-then-same_at-via-else-same_at+then-exceeds w ↦ first_exceeds ranks some w.if-exceeds.ensures
    ])

pub some_reaches-end_of-at-requires : goal.some_reaches-end_of-at-requires
some_reaches-end_of-at-requires t c = first_standing c.loop.invariant.left (omega arith)

pub some_reaches-loop-preserved : goal.some_reaches-loop-preserved
some_reaches-loop-preserved t c =
    let here = c.loop.invariant in
    let ends = c.end_of-at.ensures in
    let one : c.args.many - (c.loop.counter + 1) + 1 ≡ c.args.many - c.loop.counter = omega arith in
    record {
      left = others here.left one ends;
      fewer = omega (arith, (first_and_others _ here.left one ends).1);
      all = λ r h. here.all r (later_reaches c.args.self.now.ranks one ends c.if-same_at.ensures c.if-exceeds.ensures h);
    }

pub some_reaches-returns : goal.some_reaches-returns
some_reaches-returns t c = c.loop.invariant.all false (none_reaches c.args.self.now.ranks (omega arith))

pub exceeds_every-loop-init : goal.exceeds_every-loop-init
exceeds_every-loop-init t c = simp unary_clauses record { left = c.requires.ts_stand; fewer = le_refl _; all = λ r h. h }

pub exceeds_every-exceeds-requires : goal.exceeds_every-exceeds-requires
exceeds_every-exceeds-requires t c =
    let left = c.loop.invariant.left in
    (omega (arith, first_fewer left (omega arith), c.decreases), (c.requires.s_stands, first_standing left (omega arith)))

pub exceeds_every-returns-then-not-exceeds : goal.exceeds_every-returns-then-not-exceeds
exceeds_every-returns-then-not-exceeds t c =
    c.loop.invariant.all false (first_fails c.args.self.now.ranks (omega arith) c.if-not-exceeds.ensures)

pub exceeds_every-end_of-at-requires : goal.exceeds_every-end_of-at-requires
exceeds_every-end_of-at-requires t c = first_standing c.loop.invariant.left (omega arith)

pub exceeds_every-loop-preserved : goal.exceeds_every-loop-preserved
exceeds_every-loop-preserved t c =
    let here = c.loop.invariant in
    let ends = c.end_of-at.ensures in
    let one : c.args.many - (c.loop.counter + 1) + 1 ≡ c.args.many - c.loop.counter = omega arith in
    record {
      left = others here.left one ends;
      fewer = omega (arith, (first_and_others _ here.left one ends).1);
      all = λ r h. here.all r (later_every c.args.self.now.ranks one ends c.if-not-exceeds.ensures h);
    }

pub exceeds_every-returns : goal.exceeds_every-returns
exceeds_every-returns t c = c.loop.invariant.all true (every_of_none c.args.self.now.ranks (omega arith))

pub decreases_at-loop-before-init : goal.decreases_at-loop-before-init
decreases_at-loop-before-init t c = simp unary_clauses record { left = c.requires; fewer = le_refl _; all = λ r h. h }

pub decreases_at-end_of-t_later-requires : goal.decreases_at-end_of-t_later-requires
decreases_at-end_of-t_later-requires t c = first_standing c.loop-before.invariant.left.rights (omega arith)

pub decreases_at-same_at-requires-clause-standing : goal.decreases_at-same_at-requires-clause-standing
decreases_at-same_at-requires-clause-standing t c = first_standing c.loop-before.invariant.left.lefts (omega arith)

pub decreases_at-same_at-requires-clause-standing_2 : goal.decreases_at-same_at-requires-clause-standing_2
decreases_at-same_at-requires-clause-standing_2 t c = first_standing c.loop-before.invariant.left.rights (omega arith)

pub decreases_at-exceeds-requires : goal.decreases_at-exceeds-requires
decreases_at-exceeds-requires t c =
    let left = c.loop-before.invariant.left in
    let some : 0 < c.args.many - c.loop-before.before = omega arith in (
      omega (arith, first_fewer left.lefts some, first_fewer left.rights some, lists_within left, c.decreases),
      (first_standing left.lefts some, first_standing left.rights some),
    )

pub decreases_at-exceeds_every-requires : goal.decreases_at-exceeds_every-requires
decreases_at-exceeds_every-requires t c =
    let left = c.loop-before.invariant.left in
    let one : c.args.many - c.loop-before.before - 1 + 1 ≡ c.args.many - c.loop-before.before = omega arith in
    let right = c.end_of-t_later.ensures in
    let parts = first_and_others _ left.rights one right in
    (omega (arith, parts.0, parts.1, c.decreases), (left.term, others left.rights one right))

pub decreases_at-returns-then-exceeds : goal.decreases_at-returns-then-exceeds
decreases_at-returns-then-exceeds t c =
    let ranks = c.args.self.now.ranks in
    let one : c.args.many - c.loop-before.before - 1 + 1 ≡ c.args.many - c.loop-before.before = omega arith in
    c.loop-before.invariant.all c.exceeds_every.result
    (first_decreases ranks one c.if-not-same_at.ensures c.end_of-t_later.ensures c.if-exceeds.ensures c.exceeds_every.ensures)

pub decreases_at-returns-else-exceeds : goal.decreases_at-returns-else-exceeds
decreases_at-returns-else-exceeds t c =
    rw c.if-exceeds.false
    (c.loop-before.invariant.all false (first_does_not c.args.self.now.ranks (omega arith) c.if-not-same_at.ensures c.if-exceeds.ensures))

pub decreases_at-end_of-s_at-requires : goal.decreases_at-end_of-s_at-requires
decreases_at-end_of-s_at-requires t c = first_standing c.loop-before.invariant.left.lefts (omega arith)

pub decreases_at-loop-before-preserved : goal.decreases_at-loop-before-preserved
decreases_at-loop-before-preserved t c =
    let here = c.loop-before.invariant in
    let left = c.end_of-s_at.ensures in
    let right = c.end_of-t_later.ensures in
    let one : c.args.many - (c.loop-before.before + 1) + 1 ≡ c.args.many - c.loop-before.before = omega arith in
    record {
      left = later_lists here.left one left right;
      fewer = omega (arith, (first_and_others _ here.left.rights one right).1);
      all = λ r h. here.all r (first_alike c.args.self.now.ranks one left right c.if-not-same_at.ensures h);
    }

pub decreases_at-returns : goal.decreases_at-returns
decreases_at-returns t c = c.loop-before.invariant.all false (none_decreases c.args.self.now.ranks (omega arith))
