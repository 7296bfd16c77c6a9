-- An entry point as the code has it, by the contract of its function: what is promised of every call, whoever makes it.
use mathlib.Core.List.{List, [], ◌∷◌, Memᴰ}
use Rattle.std.specs.Prelude.{◌≡◌}
use Rattle.reply.specs.Reply.{Refusal, Reply, refused}
use Rattle.demands.specs.EntryPoints.{Bytes, EntryPoint, answer, buffer_after}
use Rattle.demands.specs.Demand1.{ResultOrRefusal}
use Rattle.demands.specs.GeneratedContract.{Contract, Handed, Allowed, Settled}

-- What the contract of a function says. `Handed` is all that a caller can hand over, and `Required` what the contract asks of it. A call is
-- one that the contract allows: what was handed over (`hands`), what was asked by it, what the answer means, and the lent buffer before and
-- after it (empty where none is lent).
pub record InCode (e : EntryPoint) : Type 1 where
  pub Handed : Type 0
  pub Required : Handed → Type 0
  pub Call : Type 0
  pub hands : Call → Handed
  pub asked : Call → e.Asked
  pub answered : Call → Reply e.Answer
  pub before : Call → Bytes
  pub after : Call → Bytes

-- By a generated contract.
abbrev pub by_contract :
    (c : Contract) (e : EntryPoint) → (asked : Allowed c → e.Asked) → (answered : Allowed c → Reply e.Answer) → (before : Allowed c → Bytes) → InCode e
by_contract c e asked answered before = record {
  Handed = Handed c;
  Required = λ handed. c.requires handed.0 handed.1;
  Call = Allowed c;
  hands = λ call. (call.lifetimes, call.arguments);
  asked = asked;
  answered = answered;
  before = before;
  after = λ call. c.lent call.lifetimes call.at_exit;
}

-- Every call answers what the definition replies, and leaves in the lent buffer what it says.
pub record AsDefined {e : EntryPoint} (code : InCode e) : Type 0 where
  pub answers : (call : code.Call) → code.answered call ≡ answer e (code.asked call)
  pub writes : (call : code.Call) → code.after call ≡ buffer_after e (code.asked call) (code.before call)

-- Demand 1 of a function: "takes arbitrary bytes as book, ranks, record or solver answer, ends, and replies with a result or a numbered refusal. A
-- refusal changes no byte of any buffer we lend." Whatever is handed over has a call that answers, and whatever can be asked has one.
pub record DemandedInCode {e : EntryPoint} (code : InCode e) : Type 0 where
  pub takes : (handed : code.Handed) → code.Required handed
  pub ends : (handed : code.Handed) → (call : code.Call) × (code.hands call ≡ handed)
  pub asks : (question : e.Asked) → (call : code.Call) × (code.asked call ≡ question)
  pub replies : (call : code.Call) → ResultOrRefusal e.numbers (code.answered call)
  pub untouched : (call : code.Call) (r : Refusal) → code.answered call ≡ refused r → code.after call ≡ code.before call

-- The functions of the code, each with its entry point; the calls are those that the contract allows.
pub record Function : Type 3 where
  pub entry : EntryPoint
  pub contract : Contract
  pub code : InCode entry
  pub calls : code.Call ≡ Allowed contract

unfoldable pub entries_of : List Function → List EntryPoint
entries_of [] = []
entries_of (f ∷ functions) = f.entry ∷ entries_of functions

-- Demand 1 of the code: each of the entry points has its function, which is as it is defined and meets the demand; and "Settled by each contract".
pub record Demand1InCode (entries : List EntryPoint) (functions : List Function) : Type 3 where
  pub complete : entries_of functions ≡ entries
  pub as_defined : (f : Function) → Memᴰ f functions → AsDefined f.code
  pub demanded : (f : Function) → Memᴰ f functions → DemandedInCode f.code
  pub settled : (f : Function) → Memᴰ f functions → Settled f.contract
