-- "ends", of the running code: called on whatever is handed over, the routine of each entry point returns. Said of the toolchain's machine, in its
-- words; a routine is what a function's name does there, where each name of its code and of its callees' code stands for that code (`Wired`).
use Rattle.std.specs.Prelude.{ℕ, ◌≡◌}
use mathlib.Core.List.{Memᴰ}
use base.Logic.{sep}
use mir.Val.{Val}
use prog.Memory.{Memory}
use prog.Routine.{step}
use prog.Wired.{Wired}
use prog.Machine.{done}
use contract.Adequate.{Satisfies}
use denote.Triple.Statement as Statement
use denote.Triple.Spec.{triple_of}
use borrow.Fn.World.{World, Pr}
use Rattle.demands.specs.GeneratedContract.{Contract}
use Rattle.demands.specs.InCode.{Function}
use Rattle.demands.specs.Functions.{functions, argument_contract}
use Rattle.demands.specs.ForC.{functions_of_c}

module _ (c : Contract) (w : World) where
  -- The contract as a triple: what is owned before the call, and after it of the value returned.
  abbrev triple : Statement.Contract w.𝓤
  triple = triple_of w.𝓛 c.signature (c.contract w)

  -- The memory is this one, and these two parts of it are owned apart.
  abbrev holds : Memory → Pr w → Pr w → Type 1
  holds memory owned frame = Satisfies w.𝓤 w.𝓛.H w.𝓜 memory (sep w.𝓤 owned frame)

  abbrev ReturnsIn : Type 2
  ReturnsIn =
      (handed : triple.Ghost) (memory : Memory) (frame : Pr w) → holds memory (triple.pre handed) frame →
      ∥ ((fuel : ℕ) × (value : Val) × (left : Memory)
      × (step (w.𝓡.env c.name) fuel (triple.args handed) memory ≡ done (value, left))
      × holds left (triple.post handed value) frame) ∥₁

-- In every model of the machine that has the function's code: from every memory in which the arguments stand as the parameters' types say, beside
-- whatever else is owned (`frame`), the routine is done with enough fuel, its value keeps the contract's promise in the memory that it leaves, and
-- the rest is as it was.
abbrev pub Returns : Contract → Type 2
Returns c = (w : World) → Wired w.𝓡.env c.code → ReturnsIn c w

-- "Every entry point .. ends": of Rattle, the second function of the argument question, and of C.
pub record EndsInCode : Type 3 where
  pub each : (f : Function) → Memᴰ f functions → Returns f.contract
  pub argument : Returns argument_contract
  pub of_c : (f : Function) → Memᴰ f functions_of_c → Returns f.contract
