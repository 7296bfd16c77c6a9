-- The cases marked P hold: one statement over their list, by computing. Assumes nothing.
use mathlib.Core.Path.{refl}
use Rattle.clauses.specs.Computing as Clauses
use Rattle.steps.specs.Computing as Rewriting
use Rattle.demands.specs.Claims.{tables, every, same_reply, are_tables, same_outcome, ran_as, is_text, replies, holds}
use Rattle.demands.specs.Cases.{cases, CasesHold}

pub cases_hold : CasesHold
unfolding CasesHold Clauses.computing Rewriting.computing tables every same_reply are_tables same_outcome ran_as is_text replies holds cases
cases_hold = refl
