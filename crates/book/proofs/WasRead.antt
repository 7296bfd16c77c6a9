-- What is known of a book that was read: it is the book of trees, which stands at its places and keeps to the limits. Assumes nothing.
use Prim.Native.Nat.{ℕ, zero, suc, ◌<◌}
use mathlib.Core.List.{List, [], ◌∷◌, Memᴰ}
use mathlib.Core.Path.{◌≡◌, refl, sym, ap, subst₂, ◌∙◌}
use native.Mathlib.Nat.{not-suc-le-zero, le_of_suc-le-suc}
use lib.ListN.{length, get_or}
use Rattle.std.proofs.Common.{Ok, Err}
use Rattle.reply.specs.Reply.{Attempt, given, refused}
use Rattle.reply.specs.Refusals.{numbered}
use Rattle.reply.specs.Replied.{result_of, replied_as}
use Rattle.reply.specs.declared.Refusal.{Refusal as Named}
use Rattle.reply.proofs.Given.{refused_not_given, told_given}
use Rattle.book.specs.Book.{Book, Rule}
use Rattle.book.specs.Limits.{SideWithinLimits, WithinLimits}
use Rattle.book.specs.Meaning.{book_at, meaning}
use Rattle.book.specs.Placed.{placed}
use Rattle.book.specs.Reading.{read_book}
use Rattle.book.specs.Standing.{BookStands}
use Rattle.book.specs.WasRead.{ReadFrom, WasRead}
use Rattle.book.specs.declared.Book.{Book as PlacedBook}
use Rattle.book.proofs.Limits.{read_within_limits}
use Rattle.book.proofs.Matched.{Matched}
use Rattle.book.proofs.Placed.{Alike, alike, placed_means}
use Rattle.book.proofs.Stands.{matched_stands}

-- What reading answers.
given_ok : (bytes : List ℕ) (b : PlacedBook) → meaning bytes (Ok b) ≡ given (book_at bytes b)
unfolding meaning replied_as
given_ok bytes b = refl

refused_err : (bytes : List ℕ) (why : Named) → meaning bytes (Err why) ≡ refused (numbered why)
unfolding meaning replied_as
refused_err bytes why = refl

pub read_from_lem : {bytes : List ℕ} {b : PlacedBook} → Ok b ≡ placed bytes → ReadFrom bytes b
read_from_lem settled = record { settled = sym settled }

pub was_read : {bytes : List ℕ} {b : PlacedBook} → ReadFrom bytes b → WasRead b
was_read {bytes} read = record { bytes = bytes; read = read }

pub read_refused : (bytes : List ℕ) {why : Named} → Err why ≡ placed bytes → read_book bytes ≡ refused (numbered why)
read_refused bytes {why} settled = sym (placed_means bytes) ∙ ap (meaning bytes) (sym settled) ∙ refused_err bytes why

-- Rule i is one of the rules, so it keeps to the limits.
rule_member : (rules : List Rule) (i : ℕ) (other : Rule) → i < length rules → Memᴰ (get_or rules i other) rules
rule_member [] i other h = absurd (not-suc-le-zero h)
rule_member (rule ∷ rules) zero other h = Memᴰ.head refl
rule_member (rule ∷ rules) (suc i) other h = Memᴰ.tail (rule_member rules i other (le_of_suc-le-suc h))

module _ {book : Book} (limits : WithinLimits book) (i : ℕ) (other : Rule) (h : i < length book.rules) where
  pub left_limits : SideWithinLimits book.arities (get_or book.rules i other).left
  left_limits = limits.left (get_or book.rules i other) (rule_member book.rules i other h)

  pub right_limits : SideWithinLimits book.arities (get_or book.rules i other).right
  right_limits = limits.right (get_or book.rules i other) (rule_member book.rules i other h)

-- Where reading to trees gives a book and reading to places gives places, they match.
both_read :
    (bytes : List ℕ) (book : Book) (b : PlacedBook) (x : Attempt Named Book) (y : Attempt Named PlacedBook) → Alike bytes x y → x ≡ given book →
    result_of y ≡ Ok b → Matched bytes book.arities book.rules b
unfolding result_of
both_read bytes book b (given book') (given b') m e f =
    let same : book' ≡ book = cc in
    let same_places : b' ≡ b = cc in
    subst₂ (λ (one : Book) (places : PlacedBook). Matched bytes one.arities one.rules places) same same_places m
both_read bytes book b (given book') (refused v) no_way e f = absurd no_way
both_read bytes book b (refused r) (given b') no_way e f = absurd no_way
both_read bytes book b (refused r) (refused v) same e f = absurd (refused_not_given r book e)

-- A book that was read: it is the book of trees, which keeps to the limits and stands at its places.
module _ {bytes : List ℕ} {b : PlacedBook} (read : ReadFrom bytes b) where
  pub read_given : read_book bytes ≡ given (book_at bytes b)
  read_given = sym (placed_means bytes) ∙ ap (meaning bytes) read.settled ∙ given_ok bytes b

  pub read_limits : WithinLimits (book_at bytes b)
  read_limits = read_within_limits bytes (book_at bytes b) read_given

  pub read_stands : BookStands bytes b (book_at bytes b)
  unfolding placed read_book
  read_stands =
      matched_stands bytes b (book_at bytes b)
      (both_read bytes (book_at bytes b) b _ _ (alike bytes) (told_given numbered _ (book_at bytes b) read_given) read.settled)
      read_limits.symbol_count read_limits.rule_count
