-- The five tests of one record, in their order: what each refusal and the taking of a record say of them. Assumes nothing.
use Prim.Native.Nat.{ℕ, ◌+◌, ◌≤◌, ◌<◌}
use mathlib.Core.Bool.{Bool, true, false}
use mathlib.Core.List.{List}
use mathlib.Core.Path.{◌≡◌, sym, ap, subst, ◌∙◌}
use borrow.Author.Tests.{le-leb, lt-leb}
use lib.Dec.{T, leb, leb→le}
use lib.ListN.{length, get_or}
use Rattle.reply.specs.Reply.{Attempt, given, refused, unless, ◌>>◌}
use Rattle.reply.specs.declared.Refusal.{Refusal as Named}
use Rattle.reply.specs.declared.Refusal.TheVariants.{BookEnded, UnknownKind, NotAllowed, BadBody, TooMany}
use Rattle.reply.proofs.Given.{then_given, unless_given, unless_given_alone}
use Rattle.term.specs.Kinds.{on_paper}
use Rattle.term.specs.Tables.{Kind, unknown, kind_of, body_length}
use Rattle.term.specs.declared.kinds.Kind.{Kind as Named_kind}
use Rattle.book.specs.Checks.{known, allowed, body_fits, body_checked, room_left, checked}
use Rattle.book.specs.declared.sides.Side.{Side}
use Rattle.book.specs.Checks.{body_at}
use Rattle.book.proofs.KindNumbers.{known_named}
use Rattle.book.proofs.Bodies.{cut_body, whole_body, body_tests, first_fits}

-- The record at p of a book: its tests, one behind the other.
module _ (bytes : List ℕ) (p : ℕ) (side : Side) (symbols rules : ℕ) where
  abbrev k : ℕ
  k = get_or bytes p 0

  abbrev pub checked_here : Attempt Named (Unit {0})
  checked_here = checked (length bytes) p (get_or bytes p 0) (body_at bytes p) side symbols rules

  pub unknown_kind : unknown ≡ kind_of k → refused (UnknownKind p) ≡ checked_here
  unfolding known checked unless ◌>>◌
  unknown_kind is = let e₂ : known (kind_of k) ≡ false = ap known (sym is) in rw (checked, e₂)

  -- Of a kind that is known.
  module _ (kind : Named_kind) (is : on_paper kind ≡ kind_of k) (here : p < length bytes) where
    e₂ : known (kind_of k) ≡ true
    e₂ = ap known (sym is) ∙ known_named kind

    pub body_cut : length bytes < p + 1 + body_length k → refused (BookEnded (length bytes)) ≡ checked_here
    unfolding checked unless ◌>>◌
    body_cut h = let e₁ : leb (body_length k) (length (body_at bytes p)) ≡ false = lt-leb _ _ (cut_body bytes p here h) in rw (checked, e₂, e₁)

    module _ (within : p + 1 + body_length k ≤ length bytes) where
      enough : body_length k ≤ length (body_at bytes p)
      enough = whole_body bytes p here within

      e₁ : leb (body_length k) (length (body_at bytes p)) ≡ true
      e₁ = le-leb (body_length k) (length (body_at bytes p)) enough

      -- The one test of the body.
      body_told :
          (fits : Bool) → body_fits (on_paper kind) symbols (get_or bytes (p + 1) 0) ≡ fits →
          body_checked (kind_of k) symbols (p + 1) (body_at bytes p) ≡ unless fits (BadBody (p + 1))
      body_told fits e =
          body_tests bytes p symbols (subst T (sym e₂) tt) enough
          ∙ ap (λ (t : Bool). unless t (BadBody (p + 1))) (ap (λ (of : Kind). body_fits of symbols (get_or bytes (p + 1) 0)) (sym is) ∙ e)

      pub not_allowed : allowed (on_paper kind) side.stage ≡ false → refused (NotAllowed p) ≡ checked_here
      unfolding checked unless ◌>>◌
      not_allowed e₃ = rw (checked, e₂, e₁, ← is, e₃)

      module _ (e₃ : allowed (on_paper kind) side.stage ≡ true) where
        pub bad_body : body_fits (on_paper kind) symbols (get_or bytes (p + 1) 0) ≡ false → refused (BadBody (p + 1)) ≡ checked_here
        unfolding checked unless ◌>>◌
        bad_body e₄ = rw (checked, e₂, e₁, body_told false e₄, ← is, e₃)

        module _ (e₄ : body_fits (on_paper kind) symbols (get_or bytes (p + 1) 0) ≡ true) where
          pub too_many : room_left (on_paper kind) symbols rules side.nodes ≡ false → refused (TooMany p) ≡ checked_here
          unfolding checked unless ◌>>◌
          too_many e₅ = rw (checked, e₂, e₁, body_told true e₄, ← is, e₃, e₅)

          pub taken : room_left (on_paper kind) symbols rules side.nodes ≡ true → given tt ≡ checked_here
          unfolding checked unless ◌>>◌
          taken e₅ = rw (checked, e₂, e₁, body_told true e₄, ← is, e₃, e₅)

-- A record that passed its five tests.
pub record Passed (k : ℕ) (body : List ℕ) (side : Side) (symbols rules : ℕ) : Type 0 where
  pub is_known : T (known (kind_of k))
  pub whole : body_length k ≤ length body
  pub here : T (allowed (kind_of k) side.stage)
  pub fits : 0 < length body → T (body_fits (kind_of k) symbols (get_or body 0 0))
  pub room : T (room_left (kind_of k) symbols rules side.nodes)

pub passed :
    (len p k : ℕ) (body : List ℕ) (side : Side) (symbols rules : ℕ) → checked len p k body side symbols rules ≡ given tt → Passed k body side symbols rules
unfolding checked
passed len p k body side symbols rules e₀ =
    let (is_known, e₁) = unless_given _ _ _ _ e₀ in
    let (whole, e₂) = unless_given _ _ _ _ e₁ in
    let (here, e₃) = unless_given _ _ _ _ e₂ in
    let ((t, fits), e₄) = then_given _ _ _ e₃ in
    record {
      is_known = is_known;
      whole = leb→le (body_length k) (length body) whole;
      here = here;
      fits = first_fits (kind_of k) symbols (p + 1) body fits;
      room = unless_given_alone _ _ e₄;
    }
