-- A book is refused by one of the numbers 1 to 6 and by no other. By the tests of each record. Assumes nothing.
use Prim.Native.Nat.{ℕ, zero, suc, ◌+◌}
use mathlib.Core.Bool.{Bool, true, false}
use mathlib.Core.List.{List, [], ◌∷◌, Memᴰ}
use mathlib.Core.Path.{◌≡◌, refl, subst}
use lib.Dec.{eqb}
use lib.ListN.{length, take, drop}
use Rattle.reply.specs.Reply.{Refusal, Attempt, given, refused, told_as, unless, ◌>>◌, ◌>>=◌}
use Rattle.reply.specs.Refusals.{numbered}
use Rattle.reply.specs.declared.Refusal.{Refusal as Named}
use Rattle.reply.specs.declared.Refusal.TheVariants.{BookEnded, UnknownKind, NotAllowed, BadBody, TooMany, AfterEnd}
use Rattle.reply.proofs.Given.{given_not_refused}
use Rattle.term.specs.Tables.{Kind, body_length}
use Rattle.book.specs.Book.{Book}
use Rattle.book.specs.Checks.{body_checked, checked, nothing_more}
use Rattle.book.specs.Reading.{State, record_at, ended, read_from, start, read_book}
use Rattle.book.specs.declared.sides.Side.{Side}

-- One of the refusals of a book.
data OfBook : Named → Type 0 where
  of_ended : {p : ℕ} → OfBook (BookEnded p)
  of_kind : {p : ℕ} → OfBook (UnknownKind p)
  of_place : {p : ℕ} → OfBook (NotAllowed p)
  of_body : {p : ℕ} → OfBook (BadBody p)
  of_count : {p : ℕ} → OfBook (TooMany p)
  of_more : {p : ℕ} → OfBook (AfterEnd p)

-- An attempt that refuses by those only.
data Only {A : Type 0} : Attempt Named A → Type 0 where
  result : {a : A} → Only (given a)
  refusal : {r : Named} → OfBook r → Only (refused r)

module _ {A B : Type 0} where
  then : {x : Attempt Named A} {y : Attempt Named B} → Only x → Only y → Only (◌>>◌ x y)
  unfolding ◌>>◌
  then result rest = rest
  then (refusal of) rest = refusal of

  after : {x : Attempt Named A} {f : A → Attempt Named B} → Only x → ((a : A) → Only (f a)) → Only (◌>>=◌ x f)
  unfolding ◌>>=◌
  after result rest = rest _
  after (refusal of) rest = refusal of

test : (t : Bool) (r : Named) → OfBook r → Only (unless t r)
unfolding unless
test true r of = result
test false r of = refusal of

body_only : (kind : Kind) (symbols p : ℕ) (body : List ℕ) → Only (body_checked kind symbols p body)
unfolding body_checked
body_only kind symbols p [] = result
body_only kind symbols p (b ∷ body) = then (test _ (BadBody p) of_body) (body_only kind symbols (p + 1) body)

checked_only : (len p k : ℕ) (body : List ℕ) (side : Side) (symbols rules : ℕ) → Only (checked len p k body side symbols rules)
unfolding checked
checked_only len p k body side symbols rules =
    then (test _ (UnknownKind p) of_kind)
    (then (test _ (BookEnded len) of_ended)
    (then (test _ (NotAllowed p) of_place)
    (then (body_only _ symbols (p + 1) body)
    (test _ (TooMany p) of_count))))

record_only : (len : ℕ) (s : State) (p k : ℕ) (body : List ℕ) → Only (record_at len s p k body)
unfolding record_at
record_only len s p k body = then (checked_only len p k body _ _ _) result

ended_only : (len : ℕ) (s : State) (p : ℕ) → Only (ended len s p)
unfolding ended nothing_more
ended_only len s p = then (test _ (AfterEnd p) of_more) result

either : {A : Type 0} {x y : Attempt Named A} (b : Bool) → Only x → Only y → Only {A = A} (elim b [ true ↦ x | false ↦ y ])
either true when_true when_false = when_true
either false when_true when_false = when_false

from_only : (fuel len : ℕ) (s : State) (p : ℕ) (bytes : List ℕ) → Only (read_from fuel len s p bytes)
unfolding read_from
from_only zero len s p bytes = refusal of_ended
from_only (suc fuel) len s p [] = refusal of_ended
from_only (suc fuel) len s p (k ∷ bytes) =
    after (record_only len s p k (take (body_length k) bytes)) (λ s'. either (eqb k 5) (ended_only len s' _) (from_only fuel len s' _ (drop (body_length k) bytes)))

-- The numbers of those refusals.
numbers : {r : Named} → OfBook r → Memᴰ (numbered r).number (1 ∷ 2 ∷ 3 ∷ 4 ∷ 5 ∷ 6 ∷ [])
unfolding numbered
numbers of_ended = Memᴰ.head refl
numbers of_kind = Memᴰ.tail (Memᴰ.head refl)
numbers of_place = Memᴰ.tail (Memᴰ.tail (Memᴰ.head refl))
numbers of_body = Memᴰ.tail (Memᴰ.tail (Memᴰ.tail (Memᴰ.head refl)))
numbers of_count = Memᴰ.tail (Memᴰ.tail (Memᴰ.tail (Memᴰ.tail (Memᴰ.head refl))))
numbers of_more = Memᴰ.tail (Memᴰ.tail (Memᴰ.tail (Memᴰ.tail (Memᴰ.tail (Memᴰ.head refl)))))

told : {x : Attempt Named Book} → Only x → (r : Refusal) → told_as numbered x ≡ refused r → Memᴰ r.number (1 ∷ 2 ∷ 3 ∷ 4 ∷ 5 ∷ 6 ∷ [])
unfolding told_as
told (result {a = a}) r e = absurd (given_not_refused a r e)
told (refusal {r = why} of) r e =
    let same : numbered why ≡ r = cc in
    subst (λ (q : Refusal). Memᴰ q.number (1 ∷ 2 ∷ 3 ∷ 4 ∷ 5 ∷ 6 ∷ [])) same (numbers of)

pub read_refuses : (bytes : List ℕ) (r : Refusal) → read_book bytes ≡ refused r → Memᴰ r.number (1 ∷ 2 ∷ 3 ∷ 4 ∷ 5 ∷ 6 ∷ [])
unfolding read_book
read_refuses bytes r e = told (from_only (length bytes) (length bytes) start 0 bytes) r e
