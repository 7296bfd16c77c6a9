-- The two numbers behind their words, one laid behind the other. Assumes nothing.
use Prim.Native.Nat.{ℕ}
use mathlib.Core.List.{◌++◌, append_assoc}
use mathlib.Core.Path.{◌≡◌, refl, ap, ◌∙◌}
use Rattle.reply.specs.declared.NumberAt.{NumberAt}
use Rattle.text.specs.Text.{ascii, refused_line}
use Rattle.text.proofs.Laying.{lays_as, lays_then}
use Rattle.number_text.specs.Numbers.{counted, counted_line}
use Rattle.reply_lines.proofs.write_refused.Goals as goal

-- The line by its two numbers.
in_two : (n p : ℕ) → counted (ascii "refused ") n ++ counted_line (ascii " at ") p ≡ refused_line (record { number = n; place = p })
unfolding refused_line counted counted_line
in_two n p = simp append_assoc refl

pub returns : goal.returns
unfolding ascii
returns c =
    let told = c.from-told in
    lays_as
    (in_two told.result.number told.result.place
    ∙ ap (λ (t : NumberAt). refused_line (record { number = t.number; place = t.place })) told.ensures)
    (lays_then c.write_counted-at.ensures c.write_line.ensures)
