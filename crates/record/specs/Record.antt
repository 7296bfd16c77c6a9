-- A record to be run: its bytes, and reading it, its nodes from the left, with the cause and the byte of the first fault.
use Rattle.std.specs.Prelude.{ℕ, zero, suc, ◌+◌, pred, true, false, List, [], ◌∷◌, ◌++◌, leb, ltb, eqb, length, get_or, drop}
use Rattle.reply.specs.Reply.{Refusal, Attempt, Reply, given, refused, unless, told_as, ◌>>◌, ◌>>=◌}
use Rattle.reply.specs.Refusals.{numbered}
use Rattle.reply.specs.declared.Refusal.{Refusal as Named}
use Rattle.reply.specs.declared.Refusal.TheVariants.{BadRecord}
use Rattle.term.specs.Tables.{body_length}
use Rattle.term.specs.Term.{Term}
use Rattle.term.specs.Prefix.{Node, symbolic, tree, prefix}
use Rattle.record.specs.declared.RecordFault.{RecordFault}
use Rattle.record.specs.declared.RecordFault.TheVariants.{EndedEarly, WrongKind, NotDeclared, TooManyNodes, AfterTheTerm}

-- "A record to be run is one term in prefix order .., then kind 5."
unfoldable pub record_bytes : Term → List ℕ
record_bytes t = prefix t ++ (5 ∷ [])

-- Refusal 11, "record malformed or above 256 nodes", whatever the fault.
unfoldable pub fault_refusal : RecordFault → Named
fault_refusal (EndedEarly p) = BadRecord
fault_refusal (WrongKind p) = BadRecord
fault_refusal (NotDeclared p) = BadRecord
fault_refusal (TooManyNodes p) = BadRecord
fault_refusal (AfterTheTerm p) = BadRecord

-- The number and the place of that refusal.
unfoldable pub refusal_of : RecordFault → Refusal
refusal_of fault = numbered (fault_refusal fault)

-- "kind 3 nodes only .., at most 256 nodes": the symbol of the node that stands at p, behind `nodes` others; n symbols are declared.
unfoldable pub record_node : (n len nodes p : ℕ) → List ℕ → Attempt RecordFault ℕ
record_node n len nodes p [] = refused (EndedEarly len)
record_node n len nodes p (k ∷ bytes) = do
  unless (eqb k 3) (WrongKind p)
  unless (leb (p + 1 + body_length k) len) (EndedEarly len)
  unless (ltb (get_or bytes 0 0) n) (NotDeclared (p + 1))
  unless (ltb nodes 256) (TooManyNodes p)
  given (get_or bytes 0 0)

-- "then kind 5" and nothing more: the bytes that stand at p, behind a whole term.
unfoldable pub record_end : (len p : ℕ) → List ℕ → Attempt RecordFault (Unit {0})
record_end len p [] = refused (EndedEarly len)
record_end len p (k ∷ []) = unless (eqb k 5) (AfterTheTerm p)
record_end len p (k ∷ b ∷ bytes) = do
  unless (eqb k 5) (AfterTheTerm p)
  refused (AfterTheTerm (p + 1))

-- A term that stands at the front of some bytes: its nodes, the place behind them, and the bytes that stand there.
pub record OneTerm : Type 0 where
  pub nodes : List Node
  pub behind : ℕ
  pub rest : List ℕ

-- Its nodes, from the bytes that stand at p on, while `missing` subterms are to come. Each node has two bytes, so one more than the
-- record's length is fuel enough.
unfoldable pub nodes_from : (fuel : ℕ) (arities : List ℕ) (len missing : ℕ) → List Node → (p : ℕ) → List ℕ → Attempt RecordFault OneTerm
nodes_from zero arities len missing ns p bytes = refused (EndedEarly len)
nodes_from (suc fuel) arities len missing ns p bytes =
    elim (eqb missing 0) [
      | true ↦ given (record { nodes = ns; behind = p; rest = bytes })
      | false ↦ do
        f ← record_node (length arities) len (length ns) p bytes
        nodes_from fuel arities len (pred missing + get_or arities f 0) (ns ++ (symbolic f ∷ [])) (p + 2) (drop 2 bytes)
    ]

-- One term, whatever stands behind it.
unfoldable pub one_term : (arities : List ℕ) → List ℕ → Attempt RecordFault OneTerm
one_term arities bytes = nodes_from (suc (length bytes)) arities (length bytes) 1 [] 0 bytes

-- "one term in prefix order .., then kind 5".
unfoldable pub record_term : (arities : List ℕ) → List ℕ → Attempt RecordFault Term
record_term arities bytes = do
  found ← one_term arities bytes
  record_end (length bytes) found.behind found.rest
  given (tree arities found.nodes)

-- A record read over symbols of these arities: the term, or the number and the place of its refusal.
unfoldable pub read_record : (arities : List ℕ) → List ℕ → Reply Term
read_record arities bytes = told_as refusal_of (record_term arities bytes)
