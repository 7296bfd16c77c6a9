-- A record that was read is a term over the declared symbols without variables, of at most 256 nodes, and its bytes are that term's. By
-- what the nodes read so far keep to, node by node. Assumes nothing.
use Prim.Native.Nat.{ℕ, zero, suc, ◌+◌, pred, ◌≤◌, ◌<◌}
use mathlib.Core.Bool.{not}
use mathlib.Core.List.{List, [], ◌∷◌, ◌++◌, append_assoc}
use mathlib.Core.Path.{◌≡◌, refl, sym, ap, ap₂, subst, ◌∙◌}
use native.Mathlib.Omega.{arith}
use lib.Dec.{T, eqb, eqb→eq, leb→le, ltb→lt}
use lib.ListN.{length, get_or, drop, length-append}
use lib.Seq.{drop-drop}
use Rattle.reply.specs.Reply.{given}
use Rattle.term.specs.Tables.{body_length, body_lengths}
use Rattle.term.specs.Term.{Term, size, over, variable_free}
use Rattle.term.specs.Prefix.{Node, symbolic, arity_of, tree}
use Rattle.reply.proofs.Given.{refused_not_given, bind_given, then_given, unless_given, unless_given_alone, either_given, told_given}
use Rattle.term.proofs.Prefix.{declared, Leaves, no_node, leaves_next, leaves_variable, node_bytes, nodes_bytes, nodes_bytes_append, TreeOf, tree_fills, no-variable→free}
use Rattle.record.specs.Record.{record_bytes, record_node, record_end, OneTerm, nodes_from, one_term, record_term, read_record}
use Rattle.record.specs.declared.RecordFault.TheVariants.{EndedEarly, AfterTheTerm}

-- A node that was taken: its two bytes, a declared symbol, and room for it.
record Taken (n nodes f : ℕ) (bytes : List ℕ) : Type 0 where
  is_declared : f < n
  room : nodes < 256
  its_bytes : bytes ≡ 3 ∷ f ∷ drop 2 bytes

-- A symbol node that ends within the record has its body's byte.
body_there :
    (k p len : ℕ) (bytes : List ℕ) → k ≡ 3 → p + suc (length bytes) ≡ len → p + 1 + body_length k ≤ len →
    k ∷ bytes ≡ 3 ∷ get_or bytes 0 0 ∷ drop 1 bytes
unfolding body_length body_lengths
body_there k p len [] is-symbol stands whole =
    let one : get_or body_lengths k 0 ≡ 1 = rw is-symbol refl in
    absurd (omega arith)
body_there k p len (b ∷ bytes) is-symbol stands whole = ap (λ (j : ℕ). j ∷ b ∷ bytes) is-symbol

node_taken_lem :
    (n len nodes p : ℕ) (bytes : List ℕ) (f : ℕ) → p + length bytes ≡ len → record_node n len nodes p bytes ≡ given f → Taken n nodes f bytes
unfolding record_node
node_taken_lem n len nodes p [] f stands e = absurd (refused_not_given (EndedEarly len) f e)
node_taken_lem n len nodes p (k ∷ bytes) f stands e₀ =
    let (is-symbol, e₁) = unless_given _ _ _ _ e₀ in
    let (whole, e₂) = unless_given _ _ _ _ e₁ in
    let (is_declared, e₃) = unless_given _ _ _ _ e₂ in
    let (room, e₄) = unless_given _ _ _ _ e₃ in
    let its : get_or bytes 0 0 ≡ f = cc e₄ in
    record {
      is_declared = subst (λ (g : ℕ). g < n) its (ltb→lt (get_or bytes 0 0) n is_declared);
      room = ltb→lt nodes 256 room;
      its_bytes = cc (body_there k p len bytes (eqb→eq k 3 is-symbol) stands (leb→le (p + 1 + body_length k) len whole));
    }

end_taken : (len p : ℕ) (bytes : List ℕ) → record_end len p bytes ≡ given tt → bytes ≡ 5 ∷ []
unfolding record_end
end_taken len p [] e = absurd (refused_not_given (EndedEarly len) tt e)
end_taken len p (k ∷ []) e = ap (λ (j : ℕ). j ∷ []) (eqb→eq k 5 (unless_given_alone _ _ e))
end_taken len p (k ∷ b ∷ bytes) e = absurd (refused_not_given (AfterTheTerm (p + 1)) tt (unless_given _ _ _ _ e).1)

some_missing_lem : (missing : ℕ) → T (not (eqb missing 0)) → 0 < missing
some_missing_lem zero h = absurd h
some_missing_lem (suc missing) h = omega arith

-- All nodes of a term: behind `nodes` of them stand `bytes`.
record AllTaken (arities : List ℕ) (nodes : List Node) (bytes : List ℕ) (found : OneTerm) : Type 0 where
  filled : Leaves arities (λ x. ⊥) 1 found.nodes 0
  few : length found.nodes ≤ 256
  its_bytes : nodes_bytes nodes ++ bytes ≡ nodes_bytes found.nodes ++ found.rest

all_taken :
    (arities : List ℕ) (missing : ℕ) (found : OneTerm) → Leaves arities (λ x. ⊥) 1 found.nodes missing → length found.nodes ≤ 256 → missing ≡ 0 →
    AllTaken arities found.nodes found.rest found
all_taken arities missing found filled few none-missing =
    record { filled = subst (λ (m : ℕ). Leaves arities (λ x. ⊥) 1 found.nodes m) none-missing filled; few = few; its_bytes = refl }

-- One node earlier: its bytes are the first two of those behind.
one_earlier :
    (arities : List ℕ) (nodes : List Node) (f : ℕ) (bytes : List ℕ) (found : OneTerm) → bytes ≡ 3 ∷ f ∷ drop 2 bytes →
    AllTaken arities (nodes ++ (symbolic f ∷ [])) (drop 2 bytes) found → AllTaken arities nodes bytes found
unfolding nodes_bytes node_bytes
one_earlier arities nodes f bytes found its taken =
    record {
      filled = taken.filled;
      few = taken.few;
      its_bytes =
          ap (λ (l : List ℕ). nodes_bytes nodes ++ l) its ∙ sym (append_assoc (nodes_bytes nodes) (3 ∷ f ∷ []) (drop 2 bytes))
          ∙ ap (λ (l : List ℕ). l ++ drop 2 bytes) (sym (nodes_bytes_append nodes (symbolic f ∷ []))) ∙ taken.its_bytes;
    }

nodes_taken :
    (fuel : ℕ) (arities : List ℕ) (len missing : ℕ) (nodes : List Node) (p : ℕ) (bytes : List ℕ) (found : OneTerm) →
    Leaves arities (λ x. ⊥) 1 nodes missing → length nodes ≤ 256 → p + length bytes ≡ len →
    nodes_from fuel arities len missing nodes p bytes ≡ given found → AllTaken arities nodes bytes found
unfolding nodes_from arity_of
nodes_taken zero arities len missing nodes p bytes found filled few stands e = absurd (refused_not_given (EndedEarly len) found e)
nodes_taken (suc fuel) arities len missing nodes p bytes found filled few stands e =
    either_given (eqb missing 0) _ _ found
    (λ none-missing whole.
    let this : OneTerm = record { nodes = nodes; behind = p; rest = bytes } in
    let same : this ≡ found = cc whole in
    subst (λ (one : OneTerm). AllTaken arities nodes bytes one) same (all_taken arities missing this filled few (eqb→eq missing 0 none-missing)))
    (λ not_None more.
    let (f, taken, rest) = bind_given (record_node (length arities) len (length nodes) p bytes) _ _ more in
    let this : Taken (length arities) (length nodes) f bytes = node_taken_lem (length arities) len (length nodes) p bytes f stands taken in
    one_earlier arities nodes f bytes found this.its_bytes
    (nodes_taken fuel arities len (pred missing + get_or arities f 0) (nodes ++ (symbolic f ∷ [])) (p + 2) (drop 2 bytes) found
    (leaves_next missing (some_missing_lem missing not_None) filled (declared this.is_declared))
    (simp length-append (omega arith)) (omega (arith, ap length this.its_bytes)) rest))
    e

term_taken : (arities bytes : List ℕ) (found : OneTerm) → one_term arities bytes ≡ given found → AllTaken arities [] bytes found
unfolding one_term
term_taken arities bytes found e = nodes_taken (suc (length bytes)) arities (length bytes) 1 [] 0 bytes found no_node (omega arith) (omega arith) e

-- A term that was read has the nodes that were.
pub term_nodes : (arities bytes : List ℕ) (found : OneTerm) → one_term arities bytes ≡ given found → size (tree arities found.nodes) ≡ length found.nodes
term_nodes arities bytes found e = (tree_fills arities (λ x. ⊥) found.nodes (term_taken arities bytes found e).filled).node_count

-- What stands behind it are the bytes from the place behind it on.
nodes_rest :
    (fuel : ℕ) (arities : List ℕ) (len missing : ℕ) (nodes : List Node) (p : ℕ) (whole : List ℕ) (found : OneTerm) →
    nodes_from fuel arities len missing nodes p (drop p whole) ≡ given found → found.rest ≡ drop found.behind whole
unfolding nodes_from
nodes_rest zero arities len missing nodes p whole found e = absurd (refused_not_given (EndedEarly len) found e)
nodes_rest (suc fuel) arities len missing nodes p whole found e =
    either_given (eqb missing 0) _ _ found
    (λ none-missing is. let same : record { nodes = nodes; behind = p; rest = drop p whole } ≡ found = cc is in subst (λ (one : OneTerm). one.rest ≡ drop one.behind whole) same refl)
    (λ not_None more.
    let (f, taken, rest) = bind_given (record_node (length arities) len (length nodes) p (drop p whole)) _ _ more in
    nodes_rest fuel arities len (pred missing + get_or arities f 0) (nodes ++ (symbolic f ∷ [])) (p + 2) whole found
    (ap (nodes_from fuel arities len (pred missing + get_or arities f 0) (nodes ++ (symbolic f ∷ [])) (p + 2)) (sym (drop-drop 2 p whole)) ∙ rest))
    e

pub term_rest : (arities bytes : List ℕ) (found : OneTerm) → one_term arities bytes ≡ given found → found.rest ≡ drop found.behind bytes
unfolding one_term
term_rest arities bytes found e = nodes_rest (suc (length bytes)) arities (length bytes) 1 [] 0 bytes found e

-- What a record that was read is.
tree_read :
    (arities : List ℕ) (bytes : List ℕ) (found : OneTerm) → AllTaken arities [] bytes found → found.rest ≡ 5 ∷ [] → let t = tree arities found.nodes in
    T (over arities t) × T (variable_free t) × (size t ≤ 256) × (bytes ≡ record_bytes t)
unfolding record_bytes nodes_bytes
tree_read arities bytes found its end =
    let all = found.nodes in
    let t : TreeOf arities all (tree arities all) = tree_fills arities (λ x. ⊥) all its.filled in (
      t.over_symbols,
      no-variable→free (tree arities all) (λ x o. leaves_variable its.filled (t.variables x o)),
      omega (arith, t.node_count, its.few),
      its.its_bytes ∙ ap₂ (λ (l r : List ℕ). l ++ r) (sym t.bytes) end,
    )

pub record_read :
    (arities bytes : List ℕ) (t : Term) → read_record arities bytes ≡ given t →
    T (over arities t) × T (variable_free t) × (size t ≤ 256) × (bytes ≡ record_bytes t)
unfolding read_record record_term
record_read arities bytes t e =
    let (found, taken, behind) = bind_given _ _ _ (told_given _ _ _ e) in
    let ((end, ended), same) = then_given _ _ _ behind in
    subst (λ (u : Term). T (over arities u) × T (variable_free u) × (size u ≤ 256) × (bytes ≡ record_bytes u)) (cc same)
    (tree_read arities bytes found (term_taken arities bytes found taken) (end_taken (length bytes) found.behind found.rest ended))
