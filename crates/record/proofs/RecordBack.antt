-- The record of a term over the declared symbols, without variables and of at most 256 nodes, is read back to that term: node by node the
-- reading takes it, and what a record was read to has the record's bytes. Assumes nothing.
use Prim.Native.Nat.{ℕ, suc, ◌+◌, ◌*◌, ◌≤◌, ◌<◌}
use mathlib.Core.Bool.{◌&&◌}
use mathlib.Core.List.{List, [], ◌∷◌, ◌++◌, append_assoc}
use mathlib.Core.Path.{◌≡◌, refl, ap, ◌∙◌}
use native.Mathlib.Omega.{arith}
use borrow.Author.Tests.{ne_eqb}
use lib.Dec.{T, eqb, ltb, eqb→eq, ltb→lt, le→leb, lt→ltb}
use lib.ListN.{length, get_or, length-append}
use lib.Seq.{take-append_seam}
use Rattle.reply.specs.Reply.{given, told_as, ◌>>◌}
use Rattle.reply.proofs.Given.{given_bind, given_unless}
use Rattle.reply.proofs.Tests.{and_left, and_right}
use Rattle.term.specs.Tables.{body_length, body_lengths}
use Rattle.term.specs.Term.{Term, Args, var, app, nil, cons, size, sizes, count, over, overs, variable_free, variables_free}
use Rattle.term.specs.Prefix.{Node, symbolic, prefix, prefixes, tree}
use Rattle.term.specs.At.{At}
use Rattle.term.proofs.At.{at_unique}
use Rattle.term.proofs.PrefixAt.{prefix_length, prefix_at}
use Rattle.record.specs.Record.{record_bytes, refusal_of, record_node, record_end, nodes_from, one_term, record_term, read_record}
use Rattle.record.proofs.Stands.{term_read}

module _ (arities : List ℕ) (len : ℕ) where
  -- A node with a declared symbol is taken.
  node_taken_lem :
      (f nodes p : ℕ) (rest : List ℕ) → f < length arities → nodes < 256 → p + 2 ≤ len → record_node (length arities) len nodes p (3 ∷ f ∷ rest) ≡ given f
  unfolding record_node body_length body_lengths
  node_taken_lem f nodes p rest declared room whole =
      given_unless _ _ _ tt
      ∙ given_unless _ _ _ (le→leb (p + 1 + 1) len (omega arith))
      ∙ given_unless _ _ _ (lt→ltb f (length arities) declared)
      ∙ given_unless _ _ _ (lt→ltb nodes 256 room)

  node_passed :
      (fuel missing f p : ℕ) (ns : List Node) (rest : List ℕ) → f < length arities → length ns < 256 → p + 2 ≤ len →
      nodes_from (suc fuel) arities len (suc missing) ns p (3 ∷ f ∷ rest)
      ≡ nodes_from fuel arities len (missing + get_or arities f 0) (ns ++ (symbolic f ∷ [])) (p + 2) rest
  unfolding nodes_from
  node_passed fuel missing f p ns rest declared room whole =
      rw (nodes_from, ne_eqb (suc missing) 0 (λ z. omega arith))
      (given_bind (record_node (length arities) len (length ns) p (3 ∷ f ∷ rest)) _ f (node_taken_lem f (length ns) p rest declared room whole))

  -- The same reading, told otherwise.
  told_otherwise :
      {fuel fuel' missing missing' p p' : ℕ} {bytes bytes' : List ℕ} (ns : List Node) → fuel ≡ fuel' → missing ≡ missing' → p ≡ p' → bytes ≡ bytes' →
      nodes_from fuel arities len missing ns p bytes ≡ nodes_from fuel' arities len missing' ns p' bytes'
  told_otherwise ns f m p b = cc

  -- Reading goes past a whole term, and past whole arguments: their nodes are counted, and the bytes behind them are next.
  Past : (nodes fuel missing : ℕ) → List Node → (p : ℕ) (bytes behind : List ℕ) → (missing' : ℕ) → Type 0
  Past nodes fuel missing ns p bytes behind missing' =
      (ns' : List Node) × (length ns' ≡ length ns + nodes)
      × (nodes_from (nodes + fuel) arities len missing ns p bytes ≡ nodes_from fuel arities len missing' ns' (p + 2 * nodes) behind)

  mutual
    unfolding Past size over variable_free prefix count

    past_term :
        (t : Term) → T (over arities t) → T (variable_free t) → (fuel missing : ℕ) (ns : List Node) (p : ℕ) (behind : List ℕ) →
        length ns + size t ≤ 256 → p + 2 * size t ≤ len → Past (size t) fuel (suc missing) ns p (prefix t ++ behind) behind missing
    past_term (var x) o free fuel missing ns p behind few whole = absurd free
    past_term (app f ts) o free fuel missing ns p behind few whole =
        let root : T (ltb f (length arities) && eqb (get_or arities f 0) (count ts)) = and_left (ltb f (length arities) && eqb (get_or arities f 0) (count ts)) (overs arities ts) o in
        let declared : f < length arities = ltb→lt f (length arities) (and_left (ltb f (length arities)) (eqb (get_or arities f 0) (count ts)) root) in
        let many : get_or arities f 0 ≡ count ts = eqb→eq (get_or arities f 0) (count ts) (and_right (ltb f (length arities)) (eqb (get_or arities f 0) (count ts)) root) in
        let one : length (ns ++ (symbolic f ∷ [])) ≡ length ns + 1 = length-append ns (symbolic f ∷ []) in
        let (ns', counted, past) =
        past_terms ts (and_right (ltb f (length arities) && eqb (get_or arities f 0) (count ts)) (overs arities ts) o) free fuel missing
        (ns ++ (symbolic f ∷ [])) (p + 2) behind (omega arith) (omega arith)
        in (
          ns',
          omega arith,
          told_otherwise ns (omega arith) refl refl refl
              ∙ node_passed (sizes ts + fuel) missing f p ns (prefixes ts ++ behind) declared (omega arith) (omega arith)
              ∙ told_otherwise (ns ++ (symbolic f ∷ [])) refl (omega arith) refl refl
              ∙ past
              ∙ told_otherwise ns' refl refl (omega arith) refl,
        )

    past_terms :
        (ts : Args) → T (overs arities ts) → T (variables_free ts) → (fuel missing : ℕ) (ns : List Node) (p : ℕ) (behind : List ℕ) →
        length ns + sizes ts ≤ 256 → p + 2 * sizes ts ≤ len → Past (sizes ts) fuel (missing + count ts) ns p (prefixes ts ++ behind) behind missing
    past_terms nil o free fuel missing ns p behind few whole = (ns, omega arith, told_otherwise ns (omega arith) (omega arith) (omega arith) refl)
    past_terms (cons t ts) o free fuel missing ns p behind few whole =
        let (ns₁, counted₁, past₁) =
        past_term t (and_left (over arities t) (overs arities ts) o) (and_left (variable_free t) (variables_free ts) free) (sizes ts + fuel) (missing + count ts) ns p
        (prefixes ts ++ behind) (omega arith) (omega arith)
        in
        let (ns₂, counted₂, past₂) =
        past_terms ts (and_right (over arities t) (overs arities ts) o) (and_right (variable_free t) (variables_free ts) free) fuel missing ns₁ (p + 2 * size t) behind
        (omega arith) (omega arith)
        in (
          ns₂,
          omega arith,
          told_otherwise ns (omega arith) (omega arith) refl (append_assoc (prefix t) (prefixes ts) behind)
              ∙ past₁ ∙ past₂
              ∙ told_otherwise ns₂ refl refl (omega arith) refl,
        )

  -- No subterm is missing behind a whole term.
  all_passed : (fuel p : ℕ) (ns : List Node) (rest : List ℕ) → nodes_from (suc fuel) arities len 0 ns p rest ≡ given (record { nodes = ns; behind = p; rest = rest })
  unfolding nodes_from
  all_passed fuel p ns rest = refl

-- So some term is read.
some_term :
    (arities : List ℕ) (t : Term) → T (over arities t) → T (variable_free t) → size t ≤ 256 → (u : Term) × (record_term arities (record_bytes t) ≡ given u)
unfolding record_term one_term record_bytes record_end Past ◌>>◌
some_term arities t o free few =
    let len : ℕ = length (prefix t ++ (5 ∷ [])) in
    let long : len ≡ 2 * size t + 1 = length-append (prefix t) (5 ∷ []) ∙ ap (λ (n : ℕ). n + 1) (prefix_length t) in
    let (ns, counted, past) = past_term arities len t o free (suc (size t + 1)) 0 [] 0 (5 ∷ []) (omega arith) (omega arith) in
    let all : nodes_from (suc len) arities len 1 [] 0 (prefix t ++ (5 ∷ [])) ≡ given (record { nodes = ns; behind = 0 + 2 * size t; rest = 5 ∷ [] }) =
    told_otherwise arities len [] (omega arith) refl refl refl ∙ past ∙ all_passed arities len (size t + 1) (0 + 2 * size t) ns (5 ∷ [])
    in
    (tree arities ns, given_bind _ _ _ all ∙ given_unless _ _ _ tt)

-- And the term that is read has the same bytes.
pub record_back :
    (arities : List ℕ) (t : Term) → T (over arities t) → T (variable_free t) → size t ≤ 256 → read_record arities (record_bytes t) ≡ given t
unfolding read_record told_as
record_back arities t o free few =
    let (u, e) = some_term arities t o free few in
    ap (told_as refusal_of) e ∙ ap (λ (v : Term). given v) (at_unique (term_read arities (record_bytes t) u e).stands here).0
  where
    here : At (record_bytes t) arities 0 t (0 + 2 * size t)
    here = prefix_at t 0 o (unfold record_bytes in take-append_seam (prefix t) (5 ∷ []))
