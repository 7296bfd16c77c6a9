-- What the copier lays down: how many bytes and which they are, and that it is the part of the bytes that there is, laid as a text.
-- Assumes nothing.
use Prim.Native.Nat.{ℕ, ◌-◌, ◌≤◌, min}
use mathlib.Core.List.{List, [], ◌∷◌, ◌++◌}
use mathlib.Core.Path.{◌≡◌, refl, sym, ap, ap₂, ◌∙◌}
use native.Mathlib.Omega.{arith, min_cases}
use lib.ListN.{length, take, drop, length-take, length-drop}
use lib.Seq.{take_all}
use Rattle.reply.specs.Lent.{overlaid}
use Rattle.text.specs.Laying.{Lays}
use Rattle.term.specs.Copied.{copied}

pub copied_length :
    (bytes : List ℕ) (start end room : ℕ) → length (copied bytes start end room) ≡ min room (min (end - start) (length bytes - start))
unfolding copied
copied_length bytes start end room = simp (length-take, length-drop)

-- Where they fit, all of them.
pub copied_whole :
    (bytes : List ℕ) (start end room : ℕ) → end - start ≤ room → copied bytes start end room ≡ take (end - start) (drop start bytes)
unfolding copied
copied_whole bytes start end room p = take_all room (take (end - start) (drop start bytes)) (simp (length-take) (omega arith))

-- Nothing laid leaves the buffer as it was.
none_laid : (text buffer : List ℕ) → length text ≡ 0 → buffer ≡ overlaid text buffer
none_laid [] buffer none = refl
none_laid (b ∷ text) buffer none = absurd (omega arith)

-- As many bytes of a text as it has, or as fit.
take_fitting : (text : List ℕ) (room : ℕ) → take (min (length text) room) text ≡ take room text
take_fitting text room =
    min_cases (length text) room (take (min (length text) room) text ≡ take room text)
    (λ (h : length text ≤ room) (e : min (length text) room ≡ length text).
    take_all (min (length text) room) text (omega arith) ∙ sym (take_all room text h))
    (λ (h : room ≤ length text) (e : min (length text) room ≡ room). ap (λ (n : ℕ). take n text) e)

-- The bytes from start on, up to `end` or to their own end.
module _ (bytes : List ℕ) (start end stop : ℕ) (ends : stop ≡ min end (length bytes)) where
  part_there : take (end - start) (drop start bytes) ≡ take (stop - start) (drop start bytes)
  part_there =
      min_cases end (length bytes) (take (end - start) (drop start bytes) ≡ take (stop - start) (drop start bytes))
      (λ (h : end ≤ length bytes) (e : min end (length bytes) ≡ end). ap (λ (n : ℕ). take (n - start) (drop start bytes)) (sym (ends ∙ e)))
      (λ (h : length bytes ≤ end) (e : min end (length bytes) ≡ length bytes).
      take_all (end - start) (drop start bytes) (rw length-drop (omega arith))
      ∙ sym (take_all (stop - start) (drop start bytes) (rw length-drop (omega arith))))

  pub nothing_copied :
      (out : List ℕ) → stop ≤ start → (0 ≡ length (copied bytes start end (length out))) × (out ≡ overlaid (copied bytes start end (length out)) out)
  nothing_copied out none =
      let many : length (copied bytes start end (length out)) ≡ 0 = omega (arith, copied_length bytes start end (length out)) in
      (sym many, none_laid (copied bytes start end (length out)) out many)

  pub part_copied :
      {out after : List ℕ} {many : ℕ} → Lays (take (stop - start) (drop start bytes)) out many after →
      (many ≡ length (copied bytes start end (length out))) × (after ≡ overlaid (copied bytes start end (length out)) out)
  unfolding copied
  part_copied {out} {after} {many} laid =
      let part : List ℕ = take (stop - start) (drop start bytes) in
      let text : take many part ≡ copied bytes start end (length out) =
      ap (λ (n : ℕ). take n part) laid.count ∙ take_fitting part (length out) ∙ ap (take (length out)) (sym part_there)
      in
      let fits : length (take many part) ≡ many = length-take many part ∙ omega (arith, laid.count) in
      let all : many ≡ length (copied bytes start end (length out)) = sym fits ∙ ap length text in
      (all, laid.bytes ∙ ap₂ (λ (l : List ℕ) (n : ℕ). l ++ drop n out) text all)
