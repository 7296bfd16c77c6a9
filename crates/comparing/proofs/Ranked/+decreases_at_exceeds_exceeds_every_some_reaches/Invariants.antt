-- The number that falls over the cycle: twice the node counts of both sides together, and one more for the argument lists, an argument of
-- which may be as large as the list. In each loop an answer for the arguments that are left is one for all.
use Rattle.std.proofs.Common.{◌+◌, ◌-◌, ◌*◌, ◌≤◌, Bool}
use Rattle.comparing.specs.Compared.{ArgumentsAt, ListsAt, SomeReachesAt, ExceedsEveryAt, DecreasesAt}
use Rattle.comparing.proofs.Nodes.{nodes}
use Rattle.comparing.proofs.Ranked.+decreases_at_exceeds_exceeds_every_some_reaches.Given as goal

abbrev pub decreases-decreases_at : goal.decreases-decreases_at
decreases-decreases_at l =
    let terms = l.self.now.terms in
    2 * (nodes terms.bytes.now terms.arities 1 l.s + nodes terms.bytes.now terms.arities l.many l.ts) + 1

abbrev pub decreases-exceeds : goal.decreases-exceeds
decreases-exceeds l =
    let terms = l.self.now.terms in
    2 * (nodes terms.bytes.now terms.arities 1 l.s + nodes terms.bytes.now terms.arities 1 l.t)

abbrev pub decreases-exceeds_every : goal.decreases-exceeds_every
decreases-exceeds_every l =
    let terms = l.self.now.terms in
    2 * (nodes terms.bytes.now terms.arities 1 l.s + nodes terms.bytes.now terms.arities l.many l.ts) + 1

abbrev pub decreases-some_reaches : goal.decreases-some_reaches
decreases-some_reaches l =
    let terms = l.self.now.terms in
    2 * (nodes terms.bytes.now terms.arities l.many l.ss + nodes terms.bytes.now terms.arities 1 l.t) + 1

-- Those before were exceeded.
abbrev pub invariant-exceeds_every-loop : goal.invariant-exceeds_every-loop
invariant-exceeds_every-loop l =
    let terms = l.self.terms in
    let bytes = terms.bytes.now in
    record {
      left : ArgumentsAt bytes terms.arities (l.many - l.counter) l.at;
      fewer : nodes bytes terms.arities (l.many - l.counter) l.at ≤ nodes bytes terms.arities l.many l.ts;
      all : (r : Bool) → ExceedsEveryAt bytes terms.arities l.self.ranks l.s (l.many - l.counter) l.at r →
          ExceedsEveryAt bytes terms.arities l.self.ranks l.s l.many l.ts r;
    }

-- None before reached t.
abbrev pub invariant-some_reaches-loop : goal.invariant-some_reaches-loop
invariant-some_reaches-loop l =
    let terms = l.self.terms in
    let bytes = terms.bytes.now in
    record {
      left : ArgumentsAt bytes terms.arities (l.many - l.counter) l.at;
      fewer : nodes bytes terms.arities (l.many - l.counter) l.at ≤ nodes bytes terms.arities l.many l.ss;
      all : (r : Bool) → SomeReachesAt bytes terms.arities l.self.ranks (l.many - l.counter) l.at l.t r →
          SomeReachesAt bytes terms.arities l.self.ranks l.many l.ss l.t r;
    }

-- Those before were identical, each to its other.
abbrev pub invariant-decreases_at-loop-before : goal.invariant-decreases_at-loop-before
invariant-decreases_at-loop-before l =
    let terms = l.self.terms in
    let bytes = terms.bytes.now in
    record {
      left : ListsAt bytes terms.arities l.s (l.many - l.before) l.s_at l.t_at;
      fewer : nodes bytes terms.arities (l.many - l.before) l.t_at ≤ nodes bytes terms.arities l.many l.ts;
      all : (r : Bool) → DecreasesAt bytes terms.arities l.self.ranks l.s (l.many - l.before) l.s_at l.t_at r →
          DecreasesAt bytes terms.arities l.self.ranks l.s l.many l.ss l.ts r;
    }
