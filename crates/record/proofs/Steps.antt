-- Reading a record node by node, at its places: what each test finds there. Assumes nothing.
use Prim.Native.Nat.{ℕ, ◌+◌, ◌≤◌, ◌<◌}
use native.Mathlib.Omega.{arith}
use mathlib.Core.Bool.{true}
use mathlib.Core.List.{List, [], ◌∷◌}
use mathlib.Core.Path.{◌≡◌, sym, ap, ◌∙◌}
use native.Mathlib.Nat.{add-zero}
use native.Mathlib.Numerals.{add-one}
use borrow.Author.Tests.{eq-eqb, ne_eqb, le-leb, lt-leb, lt-ltb, le-ltb}
use lib.Dec.{leb, ltb, eqb}
use lib.ListN.{length, get_or, drop, drop_of_length-le}
use lib.Seq.{drop-cons, get_or-drop}
use Rattle.reply.specs.Reply.{Attempt, given, refused, unless, ◌>>◌}
use Rattle.term.specs.Tables.{body_length, body_lengths}
use Rattle.record.specs.Record.{record_node, record_end}
use Rattle.record.specs.declared.RecordFault.{RecordFault}
use Rattle.record.specs.declared.RecordFault.TheVariants.{EndedEarly, WrongKind, NotDeclared, TooManyNodes, AfterTheTerm}

-- The byte at p and those behind it.
from_place : (bytes : List ℕ) (p : ℕ) → p < length bytes → drop p bytes ≡ get_or bytes p 0 ∷ drop (p + 1) bytes
from_place bytes p here = drop-cons bytes p 0 here ∙ ap (λ (i : ℕ). get_or bytes p 0 ∷ drop i bytes) (sym (add-one p))

next_byte : (bytes : List ℕ) (p : ℕ) → get_or (drop (p + 1) bytes) 0 0 ≡ get_or bytes (p + 1) 0
next_byte bytes p = get_or-drop (p + 1) bytes 0 0 ∙ ap (λ (i : ℕ). get_or bytes i 0) (add-zero (p + 1))

-- The tests of a node whose kind byte k and body byte b stand at p.
unfoldable pub node_tests : (n len nodes p k b : ℕ) → Attempt RecordFault ℕ
node_tests n len nodes p k b = do
  unless (eqb k 3) (WrongKind p)
  unless (leb (p + 1 + body_length k) len) (EndedEarly len)
  unless (ltb b n) (NotDeclared (p + 1))
  unless (ltb nodes 256) (TooManyNodes p)
  given b

module _ (bytes : List ℕ) (n nodes p : ℕ) where
  pub no_node : length bytes ≤ p → record_node n (length bytes) nodes p (drop p bytes) ≡ refused (EndedEarly (length bytes))
  unfolding record_node
  no_node none = ap (record_node n (length bytes) nodes p) (drop_of_length-le bytes none)

  module _ (here : p < length bytes) where
    pub tests : record_node n (length bytes) nodes p (drop p bytes) ≡ node_tests n (length bytes) nodes p (get_or bytes p 0) (get_or bytes (p + 1) 0)
    unfolding record_node node_tests
    tests =
        ap (record_node n (length bytes) nodes p) (from_place bytes p here)
        ∙ ap (node_tests n (length bytes) nodes p (get_or bytes p 0)) (next_byte bytes p)

    pub wrong_kind : (get_or bytes p 0 ≡ 3 → ⊥) → record_node n (length bytes) nodes p (drop p bytes) ≡ refused (WrongKind p)
    unfolding node_tests unless ◌>>◌
    wrong_kind other = tests ∙ rw (node_tests, ne_eqb (get_or bytes p 0) 3 other)

    module _ (is : get_or bytes p 0 ≡ 3) where
      -- A symbol node's body has one byte.
      body_end : p + 1 + body_length (get_or bytes p 0) ≡ p + 1 + 1
      unfolding body_length body_lengths
      body_end = ap (λ (k : ℕ). p + 1 + body_length k) is

      pub node_cut : length bytes ≤ p + 1 → record_node n (length bytes) nodes p (drop p bytes) ≡ refused (EndedEarly (length bytes))
      unfolding node_tests unless ◌>>◌
      node_cut cut = tests ∙ rw (node_tests, eq-eqb (get_or bytes p 0) 3 is, lt-leb (p + 1 + body_length (get_or bytes p 0)) (length bytes) (omega (arith, body_end)))

      module _ (there : p + 1 < length bytes) where
        whole : leb (p + 1 + body_length (get_or bytes p 0)) (length bytes) ≡ true
        whole = le-leb (p + 1 + body_length (get_or bytes p 0)) (length bytes) (omega (arith, body_end))

        pub not_declared : n ≤ get_or bytes (p + 1) 0 → record_node n (length bytes) nodes p (drop p bytes) ≡ refused (NotDeclared (p + 1))
        unfolding node_tests unless ◌>>◌
        not_declared other = tests ∙ rw (node_tests, eq-eqb (get_or bytes p 0) 3 is, whole, le-ltb (get_or bytes (p + 1) 0) n other)

        module _ (is_declared : get_or bytes (p + 1) 0 < n) where
          pub too_many : 256 ≤ nodes → record_node n (length bytes) nodes p (drop p bytes) ≡ refused (TooManyNodes p)
          unfolding node_tests unless ◌>>◌
          too_many many =
              tests ∙ rw (node_tests, eq-eqb (get_or bytes p 0) 3 is, whole, lt-ltb (get_or bytes (p + 1) 0) n is_declared, le-ltb nodes 256 many)

          pub node_given : nodes < 256 → record_node n (length bytes) nodes p (drop p bytes) ≡ given (get_or bytes (p + 1) 0)
          unfolding node_tests unless ◌>>◌
          node_given room =
              tests ∙ rw (node_tests, eq-eqb (get_or bytes p 0) 3 is, whole, lt-ltb (get_or bytes (p + 1) 0) n is_declared, lt-ltb nodes 256 room)

-- The end record by its bytes.
other_kind : (len p k : ℕ) (rest : List ℕ) → (k ≡ 5 → ⊥) → record_end len p (k ∷ rest) ≡ refused (AfterTheTerm p)
unfolding record_end unless ◌>>◌
other_kind len p k [] other = rw (ne_eqb k 5 other)
other_kind len p k (b ∷ rest) other = rw (ne_eqb k 5 other)

one_behind : (len p k b : ℕ) (rest : List ℕ) → k ≡ 5 → record_end len p (k ∷ b ∷ rest) ≡ refused (AfterTheTerm (p + 1))
unfolding record_end unless ◌>>◌
one_behind len p k b rest is = rw (eq-eqb k 5 is)

none_behind : (len p k : ℕ) → k ≡ 5 → record_end len p (k ∷ []) ≡ given tt
unfolding record_end unless
none_behind len p k is = rw (eq-eqb k 5 is)

module _ (bytes : List ℕ) (p : ℕ) where
  pub no_end : length bytes ≤ p → record_end (length bytes) p (drop p bytes) ≡ refused (EndedEarly (length bytes))
  unfolding record_end
  no_end none = ap (record_end (length bytes) p) (drop_of_length-le bytes none)

  module _ (here : p < length bytes) where
    pub other_end : (get_or bytes p 0 ≡ 5 → ⊥) → record_end (length bytes) p (drop p bytes) ≡ refused (AfterTheTerm p)
    other_end other = ap (record_end (length bytes) p) (from_place bytes p here) ∙ other_kind (length bytes) p (get_or bytes p 0) (drop (p + 1) bytes) other

    pub behind_end : get_or bytes p 0 ≡ 5 → p + 1 < length bytes → record_end (length bytes) p (drop p bytes) ≡ refused (AfterTheTerm (p + 1))
    behind_end is more =
        ap (record_end (length bytes) p) (from_place bytes p here ∙ ap (λ (l : List ℕ). get_or bytes p 0 ∷ l) (from_place bytes (p + 1) more))
        ∙ one_behind (length bytes) p (get_or bytes p 0) (get_or bytes (p + 1) 0) (drop (p + 1 + 1) bytes) is

    pub end_given : get_or bytes p 0 ≡ 5 → length bytes ≤ p + 1 → record_end (length bytes) p (drop p bytes) ≡ given tt
    end_given is none =
        ap (record_end (length bytes) p) (from_place bytes p here ∙ ap (λ (l : List ℕ). get_or bytes p 0 ∷ l) (drop_of_length-le bytes none))
        ∙ none_behind (length bytes) p (get_or bytes p 0) is
