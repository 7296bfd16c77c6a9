-- The right side is laid down behind the bytes that the buffer already has: what lies there and what is ahead are the whole. Assumes
-- nothing.
use Prim.Native.Nat.{ℕ, ◌+◌, ◌-◌, ◌<◌, ◌≤◌}
use mathlib.Core.List.{List, [], ◌∷◌, ◌++◌, append_assoc, append-nil}
use mathlib.Core.Path.{◌≡◌, refl, sym, ap, ap₂, subst₂, ◌∙◌}
use native.Mathlib.Numerals.{add-one}
use native.Mathlib.Omega.{arith}
use lib.ListN.{length, get_or, take, drop, length-append, length-drop}
use lib.Seq.{take_all, take_at, length-take-le, drop_at, drop-cons, drop-drop, drop-append-le}
use borrow.Rule.Slice.PartMut.{mid_of, post_of, put_mid, same_len_mid, mid_len, put_same}
use Rattle.reply.specs.Lent.{overlaid}
use Rattle.term.specs.Term.{Term}
use Rattle.term.specs.Replacement.{Replacement, replace}
use Rattle.term.specs.Prefix.{prefix}
use Rattle.term.specs.At.{At}
use Rattle.term.specs.Copied.{copied}
use Rattle.term.proofs.At.{at_end_lem}
use Rattle.term.proofs.PrefixAt.{prefix_length, copied_prefix}
use Rattle.term.proofs.Copied.{copied_whole}
use Rattle.building.specs.Right.{LaidBehind, Within, Built, BuiltFits}
use Rattle.building.specs.declared.Place.{Place}
use Rattle.building.proofs.RightSide.{Ahead, all_ahead, none_ahead}

abbrev Bytes : Type 0
Bytes = List ℕ

-- A text that follows the first a bytes.
take_behind : (a : ℕ) (front text rest : Bytes) → length front ≡ a → take (a + length text) (front ++ (text ++ rest)) ≡ front ++ text
take_behind a front text rest p =
    ap (take (a + length text)) (sym (append_assoc front text rest))
    ∙ take_at (front ++ text) rest (a + length text) (length-append front text ∙ ap (λ (n : ℕ). n + length text) p)

-- Buffers that are the same from a place on are the same from a later one on.
drop_further : (n m : ℕ) (l k : Bytes) → n ≤ m → drop n l ≡ drop n k → drop m l ≡ drop m k
drop_further n m l k p q =
    let on : n + (m - n) ≡ m = omega arith in
    ap (λ (i : ℕ). drop i l) (sym on) ∙ sym (drop-drop (m - n) n l) ∙ ap (drop (m - n)) q ∙ drop-drop (m - n) n k ∙ ap (λ (i : ℕ). drop i k) on

-- What the copier lays into the remainder behind the first a bytes, where it fits.
module _ (a : ℕ) (out text : Bytes) where
  abbrev pub remainder : Bytes
  remainder = mid_of a (length out - a) out

  abbrev pub laid_in : Bytes
  laid_in = put_mid a (length out - a) out (overlaid text remainder)

  module _ (p : a + length text ≤ length out) where
    pub remainder_length : length remainder ≡ length out - a
    remainder_length = mid_len a (length out) out (omega arith)

    pub laid_in_length : length laid_in ≡ length out
    laid_in_length =
        same_len_mid a (length out - a) out (overlaid text remainder)
        (length-append text (drop (length text) remainder) ∙ rw (length-drop (length text) remainder) (omega (arith, remainder_length)))

    pub laid_in_front : take (a + length text) laid_in ≡ take a out ++ text
    laid_in_front =
        ap (λ (w : Bytes). take (a + length text) (take a out ++ w)) (append_assoc text (drop (length text) remainder) (post_of a (length out - a) out))
        ∙ take_behind a (take a out) text (drop (length text) remainder ++ post_of a (length out - a) out) (length-take-le a out (omega arith))

    pub laid_in_behind : drop (a + length text) laid_in ≡ drop (a + length text) out
    laid_in_behind =
        let post = post_of a (length out - a) out in
        let long : length (take a out) ≡ a = length-take-le a out (omega arith) in
        let whole : take a out ++ (remainder ++ post) ≡ out = put_same a (length out - a) out in
        let from : drop a out ≡ remainder ++ post = ap (drop a) (sym whole) ∙ drop_at (take a out) (remainder ++ post) a long in
        ap (λ (w : Bytes). drop (a + length text) (take a out ++ w)) (append_assoc text (drop (length text) remainder) post)
        ∙ ap (drop (a + length text)) (sym (append_assoc (take a out) text (drop (length text) remainder ++ post)))
        ∙ drop_at (take a out ++ text) (drop (length text) remainder ++ post) (a + length text)
        (length-append (take a out) text ∙ ap (λ (n : ℕ). n + length text) long)
        ∙ sym (drop-append-le (length text) remainder post (omega (arith, remainder_length)))
        ∙ ap (drop (length text)) (sym from)
        ∙ drop-drop (length text) a out

-- A term that fits is copied whole ..
pub copied_into :
    (a : ℕ) (out : Bytes) {bytes arities : Bytes} {u : ℕ} {t : Term} {e : ℕ} → At bytes arities u t e → a + length (prefix t) ≤ length out →
    copied bytes u e (length (mid_of a (length out - a) out)) ≡ prefix t
copied_into a out {t = t} h room =
    copied_prefix (length (mid_of a (length out - a) out)) h
    (omega (arith, at_end_lem h, prefix_length t, mid_len a (length out) out (omega arith)))

-- .. and so are the two bytes of a node.
pub node_copied :
    (a : ℕ) (out book : Bytes) (right : ℕ) → right + 1 < length book → a + 2 ≤ length out →
    copied book right (right + 2) (length (mid_of a (length out - a) out)) ≡ get_or book right 0 ∷ get_or book (right + 1) 0 ∷ []
node_copied a out book right there room =
    let two : right + 2 - right ≡ 2 = omega arith in
    copied_whole book right (right + 2) (length (mid_of a (length out - a) out)) (omega (arith, mid_len a (length out) out (omega arith)))
    ∙ ap (λ (n : ℕ). take n (drop right book)) two
    ∙ ap (take 2) (
    drop-cons book right 0 (omega arith)
    ∙ ap (λ (n : ℕ). get_or book right 0 ∷ drop n book) (sym (add-one right))
    ∙ ap (λ (w : Bytes). get_or book right 0 ∷ w) (drop-cons book (right + 1) 0 there)
    )

-- The right side is laid down up to a node of it, behind the first `at` bytes.
pub record Laying (book arities : Bytes) (r : Term) (σ : Replacement) (d right at : ℕ) (before after : Bytes) (end : ℕ) : Type 0 where
  pub rest : Bytes
  pub ahead : Ahead book arities r σ d right rest
  pub whole : take end after ++ rest ≡ take at before ++ prefix (replace σ r)
  pub counted : end + length rest ≡ at + length (prefix (replace σ r))
  pub kept : length after ≡ length before
  pub behind : drop end after ≡ drop end before

pub nothing_laid :
    {book arities : Bytes} {r : Term} {u d : ℕ} (σ : Replacement) (at : ℕ) (before : Bytes) → At book arities u r d →
    Laying book arities r σ d u at before before at
nothing_laid {r = r} σ at before h =
    record { rest = prefix (replace σ r); ahead = all_ahead σ h; whole = refl; counted = refl; kept = refl; behind = refl }

module _
    {book arities : Bytes} {r : Term} {σ : Replacement} {d right at : ℕ} {before after : Bytes} {end : ℕ}
    (laying : Laying book arities r σ d right at before after end) where
  -- The bytes of a node, or those of the term that replaces it, are laid.
  module _ (text : Bytes) {later : Bytes} (parts : laying.rest ≡ text ++ later) (on : Ahead book arities r σ d (right + 2) later) where
    pub text_room : at + length (prefix (replace σ r)) ≤ length before → end + length text ≤ length after
    text_room room = omega (arith, laying.counted, laying.kept, ap length parts ∙ length-append text later)

    pub text_laid :
        (laid : Bytes) → laid ≡ text → end + length text ≤ length after → Laying book arities r σ d (right + 2) at before (laid_in end after laid) (end + length laid)
    text_laid laid is room =
        let fits : end + length laid ≤ length after = omega (arith, ap length is) in
        record {
          rest = later;
          ahead = on;
          whole =
              ap (λ (w : Bytes). w ++ later) (laid_in_front end after laid fits)
              ∙ append_assoc (take end after) laid later
              ∙ ap (λ (w : Bytes). take end after ++ (w ++ later)) is
              ∙ ap (λ (w : Bytes). take end after ++ w) (sym parts)
              ∙ laying.whole;
          counted = omega (arith, laying.counted, ap length parts ∙ length-append text later, ap length is);
          kept = laid_in_length end after laid fits ∙ laying.kept;
          behind = laid_in_behind end after laid fits ∙ drop_further end (end + length laid) after before (omega arith) laying.behind;
        }

  pub all_laid : d ≤ right → LaidBehind at end before after (replace σ r)
  all_laid p =
      let none = none_ahead laying.ahead p in
      record {
        ends = omega (arith, laying.counted, ap length none);
        laid = sym (append-nil (take end after)) ∙ ap (λ (w : Bytes). take end after ++ w) (sym none) ∙ laying.whole;
        kept = laying.behind;
      }

-- The same buffer and the same end under other names.
pub laying_as :
    {book arities : Bytes} {r : Term} {σ : Replacement} {d right at : ℕ} {before after after' : Bytes} {end end' : ℕ} → after' ≡ after → end' ≡ end →
    Laying book arities r σ d right at before after end → Laying book arities r σ d right at before after' end'
laying_as {book} {arities} {r} {σ} {d} {right} {at} {before} p q laying =
    subst₂ (λ (l : Bytes) (n : ℕ). Laying book arities r σ d right at before l n) (sym p) (sym q) laying

-- The first bytes, copied.
pub front_copied :
    (bytes out : Bytes) (at : ℕ) → at ≤ length bytes → at ≤ length out → take at (overlaid (copied bytes 0 at (length out)) out) ≡ take at bytes
front_copied bytes out at p q =
    let text = copied_whole bytes 0 at (length out) (omega arith) in
    let as_many : at - 0 ≡ at = omega arith in
    let front : copied bytes 0 at (length out) ≡ take at bytes = text ∙ ap (λ (n : ℕ). take n bytes) as_many in
    take_at (copied bytes 0 at (length out)) (drop (length (copied bytes 0 at (length out))) out) at (ap length front ∙ length-take-le at bytes p) ∙ front

-- .. and what is behind them.
pub front_behind :
    (bytes out : Bytes) (at : ℕ) → at ≤ length bytes → at ≤ length out → drop at (overlaid (copied bytes 0 at (length out)) out) ≡ drop at out
front_behind bytes out at p q =
    let text = copied_whole bytes 0 at (length out) (omega arith) in
    let as_many : at - 0 ≡ at = omega arith in
    let front : copied bytes 0 at (length out) ≡ take at bytes = text ∙ ap (λ (n : ℕ). take n bytes) as_many in
    let long : length (copied bytes 0 at (length out)) ≡ at = ap length front ∙ length-take-le at bytes p in
    drop_at (copied bytes 0 at (length out)) (drop (length (copied bytes 0 at (length out))) out) at long ∙ ap (λ (n : ℕ). drop n out) long

-- Front, right side and back make the next term.
module _ (bytes : Bytes) (place : Place) (within : Within bytes place) where
  pub back_copied : (room : ℕ) → length bytes - place.end ≤ room → copied bytes place.end (length bytes) room ≡ drop place.end bytes
  back_copied room p =
      copied_whole bytes place.end (length bytes) room p
      ∙ take_all (length bytes - place.end) (drop place.end bytes) (rw (length-drop place.end bytes) (omega arith))

  module _
      {before after : Bytes} {end : ℕ} {t : Term} (fits : BuiltFits bytes place (length after) t) (front : take place.at before ≡ take place.at bytes)
      (laid : LaidBehind place.at end before after t) where
    abbrev back : Bytes
    back = copied bytes place.end (length bytes) (length (remainder end after (drop place.end bytes)))

    back_room : length bytes - place.end ≤ length (remainder end after (drop place.end bytes))
    back_room = omega (arith, laid.ends, mid_len end (length after) after (omega (arith, laid.ends)))

    is_back : back ≡ drop place.end bytes
    is_back = back_copied (length (remainder end after (drop place.end bytes))) back_room

    back_long : length back ≡ length bytes - place.end
    back_long = ap length is_back ∙ length-drop place.end bytes

    pub all_built : (out : Bytes) → drop place.at before ≡ drop place.at out → Built bytes place (end + length back) out (laid_in end after back) t
    all_built out behind =
        let room : end + length back ≤ length after = omega (arith, laid.ends, back_long) in
        record {
          ends = omega (arith, laid.ends, back_long);
          built =
              laid_in_front end after back room
              ∙ ap₂ (λ (v w : Bytes). v ++ w) laid.laid is_back
              ∙ append_assoc (take place.at before) (prefix t) (drop place.end bytes)
              ∙ ap (λ (w : Bytes). w ++ (prefix t ++ drop place.end bytes)) front;
          kept =
              laid_in_behind end after back room
              ∙ drop_further end (end + length back) after before (omega arith) laid.kept
              ∙ drop_further place.at (end + length back) before out (omega (arith, laid.ends)) behind;
        }
