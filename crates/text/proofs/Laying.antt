-- Text laid after text is their concatenation laid: what a writer lays onto the remainder of a buffer, behind what another has laid
-- onto its start, stands there as if both texts had been one. Assumes nothing.
use Prim.Native.Nat.{ℕ, zero, suc, ◌+◌, ◌-◌, ◌≤◌, ◌<◌, min}
use mathlib.Core.List.{List, [], ◌∷◌, ◌++◌, append_assoc, append-nil}
use mathlib.Core.Path.{◌≡◌, refl, sym, ap, subst, ◌∙◌}
use native.Mathlib.Nat.{not-suc-le-zero, le_of_suc-le-suc}
use native.Mathlib.Numerals.{add-one}
use native.Mathlib.Omega.{arith, min_cases}
use lib.ListN.{length, get_or, take, drop, set, length-append, length-take, length-drop, drop_of_length-le}
use lib.Seq.{take_all, take_at, drop_at, take-append-add, take-append-le, drop-drop, length-take-le}
use borrow.Rule.Slice.PartMut.{mid_of, put_mid}
use Rattle.text.specs.Laying.{Lays}

-- As many bytes of two texts as fit: all of the first before any of the second.
fit_both :
    (s t : List ℕ) (room k m : ℕ) → k ≡ min (length s) room → m ≡ min (length t) (room - k) → take k s ++ take m t ≡ take (k + m) (s ++ t)
fit_both s t room k m p q =
    min_cases (length s) room (take k s ++ take m t ≡ take (k + m) (s ++ t))
    (λ (h : length s ≤ room) (e : min (length s) room ≡ length s).
    let all : k ≡ length s = omega arith in
    rw (all, take-append-add, take_all (length s) s (omega arith)))
    (λ (h : room ≤ length s) (e : min (length s) room ≡ room).
    let none : m ≡ 0 = omega arith in
    let still : k + 0 ≡ k = omega arith in
    rw (none, still, take-append-le k s t (omega arith)) (append-nil (take k s)))

-- Nothing laid.
pub lays_nothing : (buffer : List ℕ) → Lays [] buffer 0 buffer
lays_nothing buffer = record { count = omega arith; bytes = refl }

-- One byte laid.
pub lays_byte : (b : ℕ) (buffer : List ℕ) → 0 < length buffer → Lays (b ∷ []) buffer 1 (set buffer 0 b)
lays_byte b [] h = absurd (omega arith)
lays_byte b (old ∷ buffer) h = record { count = omega arith; bytes = refl }

-- The same text, told otherwise.
pub lays_as : {s t before after : List ℕ} {many : ℕ} → s ≡ t → Lays s before many after → Lays t before many after
lays_as {before = before} {after = after} {many = many} e laid = subst (λ (text : List ℕ). Lays text before many after) e laid

-- The buffer keeps its length.
pub lays_length : {text before after : List ℕ} {many : ℕ} → Lays text before many after → length after ≡ length before
lays_length {text} {before} {after} {many} laid =
    ap length laid.bytes ∙ simp (length-append, length-take, length-drop) (let c = laid.count in omega arith)

-- What is laid settles the count and the buffer.
pub lays_settled :
    {text before after after' : List ℕ} {many many' : ℕ} → Lays text before many after → Lays text before many' after' →
    (many ≡ many') × (after ≡ after')
lays_settled {text} {before} laid laid' =
    let same = laid.count ∙ sym laid'.count in
    (same, laid.bytes ∙ ap (λ (n : ℕ). take n text ++ drop n before) same ∙ sym laid'.bytes)

-- Behind a text that was laid stands what stood there before.
module _ {text before after : List ℕ} {many : ℕ} (laid : Lays text before many after) where
  fits : length (take many text) ≡ many
  fits = length-take-le many text (let c = laid.count in omega arith)

  pub laid_part : take many after ≡ take many text
  laid_part = ap (take many) laid.bytes ∙ take_at (take many text) (drop many before) many fits

  pub laid_rest : drop many after ≡ drop many before
  laid_rest = ap (drop many) laid.bytes ∙ drop_at (take many text) (drop many before) many fits

  pub laid_remainder : mid_of many (length after - many) after ≡ drop many before
  laid_remainder = take_all (length after - many) (drop many after) (rw length-drop (omega arith)) ∙ laid_rest

-- One text laid behind another.
pub lays_then :
    {s t before between after : List ℕ} {k m : ℕ} → Lays s before k between → Lays t (mid_of k (length between - k) between) m after →
    Lays (s ++ t) before (k + m) (put_mid k (length between - k) between after)
lays_then {s} {t} {before} {between} {after} {k} {m} first second =
    record { count = rw length-append (omega (arith, first.count, second.count, room)); bytes = bytes }
  where
    room : length (mid_of k (length between - k) between) ≡ length before - k
    room = ap length (laid_remainder first) ∙ length-drop k before

    bytes : put_mid k (length between - k) between after ≡ take (k + m) (s ++ t) ++ drop (k + m) before
    bytes =
        rw (
          laid_part first,
          drop_of_length-le (drop k between) {i = length between - k} (rw length-drop (omega arith)),
          append-nil,
          second.bytes,
          laid_remainder first,
          drop-drop,
          ← fit_both s t (length before) k m first.count (second.count ∙ ap (min (length t)) room),
          append_assoc,
        )

-- One more byte of a text is stored behind those that lie at a buffer's start.
pub one_more_laid :
    (text buffer : List ℕ) (j : ℕ) → j < length text → j < length buffer →
    set (take j text ++ drop j buffer) j (get_or text j 0) ≡ take (suc j) text ++ drop (suc j) buffer
one_more_laid [] buffer j p q = absurd (not-suc-le-zero p)
one_more_laid (x ∷ text) [] j p q = absurd (not-suc-le-zero q)
one_more_laid (x ∷ text) (y ∷ buffer) zero p q = refl
one_more_laid (x ∷ text) (y ∷ buffer) (suc j) p q = ap (λ r. x ∷ r) (one_more_laid text buffer j (le_of_suc-le-suc p) (le_of_suc-le-suc q))

pub lays_one_more :
    (text before : List ℕ) {between : List ℕ} (j : ℕ) → j < length text → j < length before → between ≡ take j text ++ drop j before →
    set between j (get_or text j 0) ≡ take (j + 1) text ++ drop (j + 1) before
lays_one_more text before j p q e =
    ap (λ (l : List ℕ). set l j (get_or text j 0)) e
    ∙ one_more_laid text before j p q
    ∙ ap (λ (n : ℕ). take n text ++ drop n before) (sym (add-one j))

-- All that fits was laid.
pub lays_all :
    {text before after : List ℕ} {many : ℕ} → many ≡ min (length text) (length before) → after ≡ take many text ++ drop many before →
    Lays text before many after
lays_all e f = record { count = e; bytes = f }
