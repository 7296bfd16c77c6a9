-- The bodies of records: how many bytes they have, and the tests of them. Assumes nothing.
use Prim.Native.Nat.{ℕ, ◌+◌, ◌≤◌, ◌<◌}
use mathlib.Core.Bool.{Bool, true, false}
use mathlib.Core.List.{List, [], ◌∷◌}
use mathlib.Core.Path.{◌≡◌, refl, ap, ◌∙◌}
use native.Mathlib.Nat.{add-zero}
use native.Mathlib.Omega.{arith}
use lib.Dec.{T}
use lib.ListN.{length, get_or, drop, length-take, length-drop}
use lib.Seq.{get_or-drop, get_or-take}
use Rattle.std.proofs.lemmas.List.{nil_from_length}
use Rattle.reply.specs.Reply.{given, unless, ◌>>◌}
use Rattle.reply.proofs.Given.{unless_given}
use Rattle.reply.specs.declared.Refusal.TheVariants.{BadBody}
use Rattle.term.specs.Tables.{Kind, symbol, rule, symbol_node, variable_node, end, kind_of, body_length, body_lengths}
use Rattle.book.specs.Checks.{known, body_fits, body_checked}
use Rattle.book.specs.Checks.{body_at}
use Rattle.book.proofs.KindNumbers.{by_kind}

-- The body lies within the bytes exactly if it has as many bytes as its kind fixes.
module _ (bytes : List ℕ) (p : ℕ) (here : p < length bytes) where
  pub body_whole : body_length (get_or bytes p 0) ≤ length (body_at bytes p) → p + 1 + body_length (get_or bytes p 0) ≤ length bytes
  unfolding body_at
  body_whole h = omega (arith, length-take (body_length (get_or bytes p 0)) (drop (p + 1) bytes), length-drop (p + 1) bytes)

  pub cut_body : length bytes < p + 1 + body_length (get_or bytes p 0) → length (body_at bytes p) < body_length (get_or bytes p 0)
  unfolding body_at
  cut_body h = omega (arith, length-take (body_length (get_or bytes p 0)) (drop (p + 1) bytes), length-drop (p + 1) bytes)

  pub whole_body : p + 1 + body_length (get_or bytes p 0) ≤ length bytes → body_length (get_or bytes p 0) ≤ length (body_at bytes p)
  unfolding body_at
  whole_body h = omega (arith, length-take (body_length (get_or bytes p 0)) (drop (p + 1) bytes), length-drop (p + 1) bytes)

-- The one byte of a body.
pub body_byte : (bytes : List ℕ) (p : ℕ) → body_length (get_or bytes p 0) ≡ 1 → get_or (body_at bytes p) 0 0 ≡ get_or bytes (p + 1) 0
unfolding body_at
body_byte bytes p one =
    get_or-take (body_length (get_or bytes p 0)) (drop (p + 1) bytes) 0 0 (omega arith)
    ∙ get_or-drop (p + 1) bytes 0 0
    ∙ ap (λ (i : ℕ). get_or bytes i 0) (add-zero (p + 1))

-- A list of one byte.
pub alone : (l : List ℕ) → length l ≡ 1 → l ≡ get_or l 0 0 ∷ []
alone [] e = absurd (omega arith)
alone (x ∷ []) e = refl
alone (x ∷ y ∷ l) e = absurd (omega arith)

-- A body of so many bytes, as its first byte tells.
no_byte : (bytes : List ℕ) (p : ℕ) → body_length (get_or bytes p 0) ≡ 0 → body_at bytes p ≡ []
unfolding body_at
no_byte bytes p none = nil_from_length (body_at bytes p) (omega (arith, length-take (body_length (get_or bytes p 0)) (drop (p + 1) bytes)))

one_byte : (bytes : List ℕ) (p : ℕ) → body_length (get_or bytes p 0) ≡ 1 → 1 ≤ length (body_at bytes p) → body_at bytes p ≡ get_or bytes (p + 1) 0 ∷ []
unfolding body_at
one_byte bytes p one some =
    alone (body_at bytes p) (omega (arith, length-take (body_length (get_or bytes p 0)) (drop (p + 1) bytes))) ∙ ap (λ (b : ℕ). b ∷ []) (body_byte bytes p one)

last_test : {R : Type 0} (t : Bool) (r : R) → ◌>>◌ (unless t r) (given tt) ≡ unless t r
unfolding unless ◌>>◌
last_test true r = refl
last_test false r = refl

-- The tests of a whole body are the test of the byte behind the kind, while no body is longer.
pub body_tests :
    (bytes : List ℕ) (p symbols : ℕ) → T (known (kind_of (get_or bytes p 0))) → body_length (get_or bytes p 0) ≤ length (body_at bytes p) →
    body_checked (kind_of (get_or bytes p 0)) symbols (p + 1) (body_at bytes p) ≡ unless (body_fits (kind_of (get_or bytes p 0)) symbols (get_or bytes (p + 1) 0)) (BadBody (p + 1))
unfolding known body_checked body_fits body_length body_lengths unless
body_tests bytes p symbols is_known enough =
    by_kind
    (λ (kind : Kind). T (known kind) → body_checked kind symbols (p + 1) (body_at bytes p) ≡ unless (body_fits kind symbols (get_or bytes (p + 1) 0)) (BadBody (p + 1)))
    (get_or bytes p 0)
    (λ u kn. absurd kn)
    (λ is kn. tested symbol (ap body_length is))
    (λ is kn. ap (body_checked rule symbols (p + 1)) (no_byte bytes p (ap body_length is)))
    (λ is kn. tested symbol_node (ap body_length is))
    (λ is kn. tested variable_node (ap body_length is))
    (λ is kn. ap (body_checked end symbols (p + 1)) (no_byte bytes p (ap body_length is)))
    is_known
  where
    tested :
        (kind : Kind) → body_length (get_or bytes p 0) ≡ 1 →
        body_checked kind symbols (p + 1) (body_at bytes p) ≡ unless (body_fits kind symbols (get_or bytes (p + 1) 0)) (BadBody (p + 1))
    tested kind one = ap (body_checked kind symbols (p + 1)) (one_byte bytes p one (omega arith)) ∙ last_test (body_fits kind symbols (get_or bytes (p + 1) 0)) (BadBody (p + 1))

-- Of a body that fits, its first byte.
pub first_fits :
    (kind : Kind) (symbols p : ℕ) (body : List ℕ) → body_checked kind symbols p body ≡ given tt → 0 < length body → T (body_fits kind symbols (get_or body 0 0))
unfolding body_checked
first_fits kind symbols p [] e some = absurd (omega arith)
first_fits kind symbols p (b ∷ body) e some = (unless_given _ _ _ _ e).0
