-- A function of the code by its generated contract, in the toolchain's words: what a caller can hand over, the calls that the contract allows, and
-- that two replies are equal.
use Rattle.std.specs.Prelude.{ℕ, List, ◌≡◌}
use mir.Syntax.{Callee}
use prog.Wired.{Code}
use contract.Lifetimes.{Lfts}
use denote.Signature.{Signature}
use denote.Triple.Clauses.{AtExit}
use denote.Triple.Spec.{Spec}
use borrow.Fn.Kinds.{ParamKind, ResultKind, Dens, res_t, In, Out, ended_of}
use borrow.Fn.World.{World}
use Rattle.demands.specs.EntryPoints.{Bytes}

-- `requires` and `ensures` are the contract's clauses, `lent` is what the lent buffer holds at exit (nothing where none is lent), `code` is the
-- function's code for the toolchain's machine, with that of all that it calls, `name` the name by which it is called there, and `contract` the same
-- clauses as an assertion about such a call.
pub record Contract : Type 3 where
  pub lifetimes : ℕ
  pub parameters : List (ParamKind lifetimes)
  pub result : ResultKind lifetimes
  pub requires : In lifetimes parameters
  pub ensures : Out lifetimes parameters result
  pub lent : (κs : Lfts lifetimes) → AtExit (ended_of lifetimes parameters result) κs → Bytes
  pub signature : Signature
  pub code : Code
  pub name : Callee
  pub contract : (w : World) → Spec w.𝓤 signature

-- All that a caller can hand over.
abbrev pub Handed : Contract → Type 0
Handed c = (κs : Lfts c.lifetimes) × Dens κs c.parameters

-- A call that the contract allows: what was handed over, the result, and the parameters at exit.
pub record Allowed (c : Contract) : Type 0 where
  pub lifetimes : Lfts c.lifetimes
  pub arguments : Dens lifetimes c.parameters
  pub result : (res_t c.result lifetimes).Denot
  pub at_exit : AtExit (ended_of c.lifetimes c.parameters c.result) lifetimes
  pub ensured : c.ensures lifetimes arguments result at_exit

-- "That two replies allowed by one contract are equal is proved": whatever is handed over, the results are equal, and so is what is left in the lent
-- buffer.
abbrev pub Settled : Contract → Type 0
Settled c =
    (κs : Lfts c.lifetimes) (handed : Dens κs c.parameters) (r r' : (res_t c.result κs).Denot)
    (e e' : AtExit (ended_of c.lifetimes c.parameters c.result) κs) → c.ensures κs handed r e → c.ensures κs handed r' e' →
    (r ≡ r') × (c.lent κs e ≡ c.lent κs e')
