-- What a caller learns of a record that was read: the term that it is stands at its start. And the answer of reading means what was read.
-- Assumes nothing.
use Prim.Native.Nat.{ℕ, ◌*◌, ◌≤◌}
use mathlib.Core.List.{List, [], ◌∷◌, ◌++◌}
use mathlib.Core.Path.{◌≡◌, refl, ap, subst, ◌∙◌}
use native.Mathlib.Nat.{zero-add}
use lib.Dec.{T}
use lib.ListN.{length, take, drop}
use lib.Seq.{take-append_seam}
use Rattle.std.specs.Prelude.{Ok}
use Rattle.reply.specs.Reply.{Attempt, given, refused, told_as}
use Rattle.term.specs.Term.{Term, size, over, variable_free}
use Rattle.term.specs.Prefix.{prefix}
use Rattle.term.specs.At.{At}
use Rattle.term.proofs.PrefixAt.{prefix_at}
use Rattle.term.proofs.MoreSymbols.{at_table}
use Rattle.term.proofs.TreeBack.{tree_back}
use Rattle.record.specs.Record.{record_bytes, refusal_of, record_term, read_record}
use Rattle.record.specs.Meaning.{record_meaning, record_verdict}
use Rattle.record.specs.declared.RecordFault.{RecordFault}
use Rattle.record.proofs.ReadRecord.{record_read}

-- What the term of a record keeps to.
pub record TermRead (arities bytes : List ℕ) (t : Term) : Type 0 where
  pub over_symbols : T (over arities t)
  pub ground : T (variable_free t)
  pub few : size t ≤ 256
  pub its_bytes_lem : bytes ≡ record_bytes t
  pub stands : At bytes arities 0 t (2 * size t)

pub term_read : (arities bytes : List ℕ) (t : Term) → record_term arities bytes ≡ given t → TermRead arities bytes t
unfolding read_record told_as record_bytes
term_read arities bytes t e =
    let r = record_read arities bytes t (ap (told_as refusal_of) e) in
    let its : bytes ≡ prefix t ++ (5 ∷ []) = r.3 in
    let here : take (length (prefix t)) (drop 0 bytes) ≡ prefix t = ap (take (length (prefix t))) its ∙ take-append_seam (prefix t) (5 ∷ []) in
    record {
      over_symbols = r.0;
      ground = r.1;
      few = r.2;
      its_bytes_lem = its;
      stands = subst (λ (e : ℕ). At bytes arities 0 t e) (zero-add (2 * size t)) (prefix_at t 0 r.0 here);
    }

-- The answer means what was read.
pub record_means : (arities bytes : List ℕ) → record_meaning bytes arities (record_verdict (record_term arities bytes)) ≡ record_term arities bytes
unfolding record_verdict record_meaning
record_means arities bytes = go (record_term arities bytes) refl
  where
    go : (x : Attempt RecordFault Term) → record_term arities bytes ≡ x → record_meaning bytes arities (record_verdict x) ≡ x
    go (given t) e = ap given (tree_back (term_read arities bytes t e).stands)
    go (refused f) e = refl

-- A whole record, its symbols the first of a table of arities: the term that it is, and where it stands.
pub record WholeTerm (bytes : List ℕ) (symbols : ℕ) (table : List ℕ) (nodes : ℕ) : Type 0 where
  pub term : Term
  pub is : record_term (take symbols table) bytes ≡ given term
  pub its : TermRead (take symbols table) bytes term
  pub node_count : size term ≡ nodes
  pub stands : At bytes table 0 term (2 * nodes)

pub whole_stands :
    (bytes : List ℕ) (symbols : ℕ) (table : List ℕ) (nodes : ℕ) → Ok nodes ≡ record_verdict (record_term (take symbols table) bytes) →
    WholeTerm bytes symbols table nodes
unfolding record_verdict
whole_stands bytes symbols table nodes settled = go (record_term (take symbols table) bytes) refl settled
  where
    go : (x : Attempt RecordFault Term) → record_term (take symbols table) bytes ≡ x → Ok nodes ≡ record_verdict x → WholeTerm bytes symbols table nodes
    go (given t) e w =
        let read : TermRead (take symbols table) bytes t = term_read (take symbols table) bytes t e in
        let many : size t ≡ nodes = cc in
        record {
          term = t;
          is = e;
          its = read;
          node_count = many;
          stands = at_table symbols table (subst (λ (n : ℕ). At bytes (take symbols table) 0 t (2 * n)) many read.stands);
        }
    go (refused f) e w = cc
