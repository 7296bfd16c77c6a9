-- The argument question of the running code has two functions: `argument_reply` tells where the argument stands or why there is none, and
-- `argument` hands out the part.
use Rattle.std.specs.Prelude.{ℕ, [], ◌≡◌}
use Rattle.reply.specs.Reply.{Refusal, given, refused}
use Rattle.steps.specs.Argument.{Part}
use Rattle.asking.specs.Asked.{part_bytes}
use Rattle.demands.specs.EntryPoints.{Bytes, an_argument}
use Rattle.demands.specs.GeneratedContract.{Contract, Handed, Allowed}
use Rattle.demands.specs.InCode.{InCode}

-- What the contract of `argument` says: the bytes of the part, and so many bytes behind the record's first one, in the record itself, it
-- starts.
pub record HandsOut : Type 1 where
  pub Handed : Type 0
  pub Required : Handed → Type 0
  pub Call : Type 0
  pub hands : Call → Handed
  pub asked : Call → an_argument.Asked
  pub part : Call → Bytes
  pub StartsAt : Call → (behind : ℕ) → Type 0

-- By a generated contract.
abbrev pub handing_out :
    (c : Contract) → (asked : Allowed c → an_argument.Asked) → (part : Allowed c → Bytes) → (starts_at : Allowed c → ℕ → Type 0) → HandsOut
handing_out c asked part starts_at = record {
  Handed = Handed c;
  Required = λ handed. c.requires handed.0 handed.1;
  Call = Allowed c;
  hands = λ call. (call.lifetimes, call.arguments);
  asked = asked;
  part = part;
  StartsAt = starts_at;
}

-- "The argument question returns argument i (from 0) of a record's root as a part of the caller's own record bytes, without the end record. It
-- returns an empty part for every refusal; a second question on the same input gives the number."
pub record ArgumentInCode (reply : InCode an_argument) (out : HandsOut) : Type 0 where
  pub takes : (handed : out.Handed) → out.Required handed
  pub ends : (handed : out.Handed) → (got : out.Call) × (out.hands got ≡ handed)
  pub hands_out :
      (told : reply.Call) (got : out.Call) (bytes record' : Bytes) (i : ℕ) (part : Part) → reply.asked told ≡ (bytes, record', i) →
      out.asked got ≡ (bytes, record', i) → reply.answered told ≡ given part →
      (out.part got ≡ part_bytes part record') × out.StartsAt got part.start
  pub refuses :
      (told : reply.Call) (got : out.Call) (bytes record' : Bytes) (i : ℕ) (r : Refusal) → reply.asked told ≡ (bytes, record', i) →
      out.asked got ≡ (bytes, record', i) → reply.answered told ≡ refused r → out.part got ≡ []
  -- Of "two replies allowed by one contract": the same bytes at the same place.
  pub settled :
      (got got' : out.Call) → out.hands got ≡ out.hands got' →
      (out.part got ≡ out.part got') × ((behind : ℕ) → out.StartsAt got behind → out.StartsAt got' behind)
