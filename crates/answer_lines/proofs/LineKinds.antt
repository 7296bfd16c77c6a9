-- What a line is, by its first bytes. Assumes nothing.
use Prim.Native.Nat.{ℕ, suc, ◌-◌, ◌<◌}
use mathlib.Core.Bool.{true, false}
use mathlib.Core.List.{List, [], ◌∷◌}
use mathlib.Core.Path.{◌≡◌, refl, sym, ap, ◌∙◌}
use native.Mathlib.Omega.{arith}
use lib.ListN.{length, get_or, take, drop}
use lib.Seq.{take_all}
use borrow.Author.Tests.{ne_eqb}
use Rattle.text.specs.Text.{ascii, same_text, space, words}
use Rattle.answer_lines.specs.Lines.{comment, verdict, no_line, item_line, value_line, verdict_line, line_of}

-- "`s SATISFIABLE`, `s UNSATISFIABLE` or `s UNKNOWN`"
module _ (line : List ℕ) where
  pub says_satisfiable : same_text line (ascii "s SATISFIABLE") ≡ true → verdict_line line ≡ verdict true
  unfolding verdict_line
  says_satisfiable e = rw (verdict_line, e)

  module _ (a : same_text line (ascii "s SATISFIABLE") ≡ false) where
    pub says_unsatisfiable : same_text line (ascii "s UNSATISFIABLE") ≡ true → verdict_line line ≡ verdict false
    unfolding verdict_line
    says_unsatisfiable e = rw (verdict_line, a, e)

    module _ (b : same_text line (ascii "s UNSATISFIABLE") ≡ false) where
      pub says_unknown : same_text line (ascii "s UNKNOWN") ≡ true → verdict_line line ≡ verdict false
      unfolding verdict_line
      says_unknown e = rw (verdict_line, a, b, e)

      pub says_nothing : same_text line (ascii "s UNKNOWN") ≡ false → verdict_line line ≡ no_line
      unfolding verdict_line
      says_nothing e = rw (verdict_line, a, b, e)

-- The bytes behind a v.
pub values_no_space : (bytes : List ℕ) → (0 < length bytes → get_or bytes 0 0 ≡ 32 → ⊥) → value_line bytes ≡ no_line
unfolding value_line space
values_no_space [] d = refl
values_no_space (b ∷ bs) d = rw (value_line, ne_eqb b 32 (d (omega arith)))

pub values_items : (bytes : List ℕ) → 0 < length bytes → get_or bytes 0 0 ≡ 32 → value_line bytes ≡ item_line (words space (take (length bytes - 1) (drop 1 bytes)))
unfolding value_line space
values_items [] some e = absurd (omega arith)
values_items (b ∷ bs) some e =
    ap (λ (c : ℕ). value_line (c ∷ bs)) e ∙ ap (λ (l : List ℕ). item_line (words space l)) (sym (take_all (suc (length bs) - 1) bs (omega arith)))

pub line_comment : (line : List ℕ) → 0 < length line → get_or line 0 0 ≡ 99 → line_of line ≡ comment
unfolding line_of ascii same_text
line_comment [] some e = absurd (omega arith)
line_comment (b ∷ bs) some e = ap (λ (c : ℕ). line_of (c ∷ bs)) e

pub line_values :
    (line : List ℕ) → 0 < length line → get_or line 0 0 ≡ 118 → line_of line ≡ value_line (take (length line - 1) (drop 1 line))
unfolding line_of ascii same_text
line_values [] some e = absurd (omega arith)
line_values (b ∷ bs) some e = ap (λ (c : ℕ). line_of (c ∷ bs)) e ∙ ap value_line (sym (take_all (suc (length bs) - 1) bs (omega arith)))

pub line_verdict :
    (line : List ℕ) → (0 < length line → get_or line 0 0 ≡ 99 → ⊥) → (0 < length line → get_or line 0 0 ≡ 118 → ⊥) → line_of line ≡ verdict_line line
unfolding line_of ascii same_text verdict_line
line_verdict [] c v = refl
line_verdict (b ∷ bs) c v = rw (line_of, ne_eqb b 99 (c (omega arith)), ne_eqb b 118 (v (omega arith)))
