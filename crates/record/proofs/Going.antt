-- What holds before each node while a record is read: the reading goes on from its place, and the counts keep to their bounds. Assumes
-- nothing.
use Prim.Native.Nat.{ℕ, zero, suc, ◌+◌, ◌*◌, pred, ◌≤◌, ◌<◌}
use mathlib.Core.List.{List, [], ◌∷◌, ◌++◌}
use mathlib.Core.Path.{◌≡◌, refl, sym, ap, ap₂, subst, ◌∙◌}
use native.Mathlib.Decide.{dec_lt}
use native.Mathlib.Omega.{arith}
use borrow.Author.Tests.{eq-eqb, ne_eqb}
use lib.Dec.{eqb→eq, leb→le, ltb→lt}
use lib.ListN.{length, get_or, drop, length-append}
use lib.Seq.{drop-drop}
use Rattle.std.specs.Prelude.{Ok, Err}
use Rattle.reply.specs.Reply.{Attempt, given, refused, ◌>>◌, ◌>>=◌}
use Rattle.reply.specs.Replied.{result_of}
use Rattle.term.specs.Tables.{body_length, body_lengths}
use Rattle.term.specs.Term.{Term, size}
use Rattle.term.specs.Prefix.{Node, symbolic, tree}
use Rattle.reply.proofs.Given.{refused_not_given, unless_given, given_bind}
use Rattle.record.specs.Record.{record_node, record_end, OneTerm, nodes_from, one_term, record_term}
use Rattle.record.specs.Meaning.{record_verdict, term_found}
use Rattle.record.specs.declared.RecordFault.{RecordFault}
use Rattle.record.specs.declared.RecordFault.TheVariants.{EndedEarly}
use Rattle.record.specs.declared.TermEnds.{TermEnds}
use Rattle.record.proofs.ReadRecord.{term_nodes, term_rest}
use Rattle.record.proofs.Steps.{node_tests, no_node, tests}

-- The reading of the record goes on at p, behind so many nodes, while so many subterms are missing.
pub record NodesGoing (bytes arities : List ℕ) (missing nodes p : ℕ) : Type 0 where
  pub fuel : ℕ
  pub came : List Node
  pub enough : length bytes < p + fuel
  pub same : nodes_from fuel arities (length bytes) missing came p (drop p bytes) ≡ nodes_from (suc (length bytes)) arities (length bytes) 1 [] 0 bytes
  pub count : nodes ≡ length came
  pub within : p ≤ length bytes
  pub few : nodes ≤ 256
  pub bound : missing ≤ 1 + 255 * nodes

pub nodes_start : (bytes arities : List ℕ) → NodesGoing bytes arities 1 0 0
nodes_start bytes arities =
    record {
      fuel = suc (length bytes);
      came = [];
      enough = omega arith;
      same = refl;
      count = refl;
      within = omega arith;
      few = omega arith;
      bound = omega arith;
    }

-- A node that passed its tests.
pub record NodePassed (bytes : List ℕ) (n nodes p f : ℕ) : Type 0 where
  pub declared : f < n
  pub room : nodes < 256
  pub whole : p + 2 ≤ length bytes

tests_passed :
    (bytes : List ℕ) (n nodes p k b f : ℕ) → node_tests n (length bytes) nodes p k b ≡ given f → NodePassed bytes n nodes p f
unfolding node_tests body_length body_lengths
tests_passed bytes n nodes p k b f e₀ =
    let (is-symbol, e₁) = unless_given _ _ _ _ e₀ in
    let (whole, e₂) = unless_given _ _ _ _ e₁ in
    let (is_declared, e₃) = unless_given _ _ _ _ e₂ in
    let (room, e₄) = unless_given _ _ _ _ e₃ in
    let its : b ≡ f = cc e₄ in
    record {
      declared = subst (λ (g : ℕ). g < n) its (ltb→lt b n is_declared);
      room = ltb→lt nodes 256 room;
      whole = omega (arith, ap body_length (eqb→eq k 3 is-symbol), leb→le (p + 1 + body_length k) (length bytes) whole);
    }

pub node_passed : (bytes : List ℕ) (n nodes p f : ℕ) → record_node n (length bytes) nodes p (drop p bytes) ≡ given f → NodePassed bytes n nodes p f
node_passed bytes n nodes p f e =
    elim (dec_lt p (length bytes)) [
      | yes here ↦ tests_passed bytes n nodes p (get_or bytes p 0) (get_or bytes (p + 1) 0) f (sym (tests bytes n nodes p here) ∙ e)
      | no none ↦ absurd (refused_not_given (EndedEarly (length bytes)) f (sym (no_node bytes n nodes p (omega arith)) ∙ e))
    ]

-- What an answer of the code tells of the attempt that it answers.
module _ {A : Type 0} where
  pub was_given : (x : Attempt RecordFault A) (a : A) → result_of x ≡ Ok a → x ≡ given a
  unfolding result_of
  was_given (given b) a e = cc
  was_given (refused g) a e = cc

  pub was_refused : (x : Attempt RecordFault A) (f : RecordFault) → result_of x ≡ Err f → x ≡ refused f
  unfolding result_of
  was_refused (given b) f e = cc
  was_refused (refused g) f e = cc

module _ (bytes arities : List ℕ) (missing nodes p : ℕ) (g : NodesGoing bytes arities missing nodes p) where
  -- There is fuel for one node more.
  with_fuel :
      {P : Type 0} →
      ((fuel : ℕ) → length bytes < p + suc fuel →
      nodes_from (suc fuel) arities (length bytes) missing g.came p (drop p bytes) ≡ nodes_from (suc (length bytes)) arities (length bytes) 1 [] 0 bytes → P) →
      P
  with_fuel {P} f = go g.fuel g.enough g.same
    where
      go :
          (fuel : ℕ) → length bytes < p + fuel →
          nodes_from fuel arities (length bytes) missing g.came p (drop p bytes) ≡ nodes_from (suc (length bytes)) arities (length bytes) 1 [] 0 bytes → P
      go zero enough same = absurd (omega (arith, g.within))
      go (suc fuel) enough same = f fuel enough same

  -- What the reader asks of the node at p.
  abbrev node_here : Attempt RecordFault ℕ
  node_here = record_node (length arities) (length bytes) nodes p (drop p bytes)

  node_there : record_node (length arities) (length bytes) (length g.came) p (drop p bytes) ≡ node_here
  node_there = ap (λ (n : ℕ). record_node (length arities) (length bytes) n p (drop p bytes)) (sym g.count)

  module _ (some : 0 < missing) where
    node_turn :
        (fuel : ℕ) (x : Attempt RecordFault ℕ) → node_here ≡ x →
        nodes_from (suc fuel) arities (length bytes) missing g.came p (drop p bytes)
        ≡ ◌>>=◌ x
        (λ f. nodes_from fuel arities (length bytes) (pred missing + get_or arities f 0) (g.came ++ (symbolic f ∷ [])) (p + 2) (drop 2 (drop p bytes)))
    unfolding nodes_from
    node_turn fuel x e =
        rw (nodes_from, ne_eqb missing 0 (λ z. omega arith)) (ap
        (λ (y : Attempt RecordFault ℕ).
        ◌>>=◌ y
        (λ f. nodes_from fuel arities (length bytes) (pred missing + get_or arities f 0) (g.came ++ (symbolic f ∷ [])) (p + 2) (drop 2 (drop p bytes))))
        (node_there ∙ e))

    -- The node at p is refused.
    pub node_faulty : (f : RecordFault) → node_here ≡ refused f → one_term arities bytes ≡ refused f
    unfolding one_term ◌>>=◌
    node_faulty f e =
        with_fuel (λ fuel enough same. (sym same ∙ node_turn fuel (refused f) e))

    -- The node at p is taken.
    pub node_on :
        (f arity : ℕ) → node_here ≡ given f → arity ≡ get_or arities f 0 → arity < 256 → NodesGoing bytes arities (pred missing + arity) (nodes + 1) (p + 2)
    unfolding ◌>>=◌
    node_on f arity e its small =
        let passed : NodePassed bytes (length arities) nodes p f = node_passed bytes (length arities) nodes p f e in
        with_fuel (λ fuel enough same. record {
          fuel = fuel;
          came = g.came ++ (symbolic f ∷ []);
          enough = omega arith;
          same =
              ap₂ (λ (a : ℕ) (l : List ℕ). nodes_from fuel arities (length bytes) (pred missing + a) (g.came ++ (symbolic f ∷ [])) (p + 2) l) its
              (sym (drop-drop 2 p bytes))
              ∙ sym (node_turn fuel (given f) e)
              ∙ same;
          count = simp length-append (omega (arith, g.count));
          within = passed.whole;
          few = omega (arith, passed.room);
          bound = omega (arith, g.bound);
        })

  -- No subterm is missing: the term is whole.
  pub term_ends : missing ≡ 0 → one_term arities bytes ≡ given (record { nodes = g.came; behind = p; rest = drop p bytes })
  unfolding one_term nodes_from
  term_ends none = with_fuel (λ fuel enough same. sym same ∙ rw (nodes_from, eq-eqb missing 0 none))

-- What the answer for a term tells of it.
pub found_ends : (x : Attempt RecordFault OneTerm) (ends : TermEnds) → term_found x ≡ Ok ends →
    (found : OneTerm) × (x ≡ given found) × (length found.nodes ≡ ends.nodes) × (found.behind ≡ ends.behind)
unfolding term_found
found_ends (given found) ends e = (found, refl, cc, cc)
found_ends (refused g) ends e = cc

pub found_fault : (x : Attempt RecordFault OneTerm) (f : RecordFault) → term_found x ≡ Err f → x ≡ refused f
unfolding term_found
found_fault (given found) f e = cc
found_fault (refused g) f e = cc

-- A term that is faulty is a faulty record.
pub fault_answers : (bytes arities : List ℕ) (f : RecordFault) → term_found (one_term arities bytes) ≡ Err f → Err f ≡ record_verdict (record_term arities bytes)
unfolding record_term record_verdict ◌>>=◌
fault_answers bytes arities f e = let is : one_term arities bytes ≡ refused f = found_fault (one_term arities bytes) f e in rw is

-- Behind a whole one its end decides.
module _ (bytes arities : List ℕ) (ends : TermEnds) (its : term_found (one_term arities bytes) ≡ Ok ends) where
  -- What is found at the end.
  abbrev end_here : Attempt RecordFault (Unit {0})
  end_here = record_end (length bytes) ends.behind (drop ends.behind bytes)

  decides :
      (x : Attempt RecordFault (Unit {0})) → end_here ≡ x →
      (t : Term) × (size t ≡ ends.nodes) × (record_term arities bytes ≡ ◌>>◌ x (given t))
  unfolding record_term
  decides x e =
      let (found, is, many, place) = found_ends (one_term arities bytes) ends its in
      let same : record_end (length bytes) found.behind found.rest ≡ x =
      ap (record_end (length bytes) found.behind) (term_rest arities bytes found is)
      ∙ ap (λ (p : ℕ). record_end (length bytes) p (drop p bytes)) place
      ∙ e
      in (
        tree arities found.nodes,
        term_nodes arities bytes found is ∙ many,
        given_bind (one_term arities bytes) _ found is ∙ ap (λ (y : Attempt RecordFault (Unit {0})). ◌>>◌ y (given (tree arities found.nodes))) same,
      )

  pub end_faulty : (f : RecordFault) → result_of end_here ≡ Err f → Err f ≡ record_verdict (record_term arities bytes)
  unfolding record_verdict ◌>>◌
  end_faulty f e = let (t, many, is) = decides (refused f) (was_refused end_here f e) in sym (ap record_verdict is)

  pub end_whole : (u : Unit {0}) → result_of end_here ≡ Ok u → Ok ends.nodes ≡ record_verdict (record_term arities bytes)
  unfolding record_verdict ◌>>◌
  end_whole u e = let (t, many, is) = decides (given u) (was_given end_here u e) in ap Ok (sym many) ∙ sym (ap record_verdict is)
