-- Answers as they are written, byte by byte. Computed. Assumes nothing.
use mathlib.Core.Path.{◌≡◌, refl}
use mathlib.Core.List.Memᴰ
use mathlib.Core.List.{[], ◌∷◌}
use lib.Dec.{eqb}
use Rattle.text.specs.Text.{ascii}
use Rattle.clauses.specs.Cnf.{is, is_not}
use Rattle.printed_answer.specs.WellFormed.{Remark, remark, literals, answer_lines, ended}
use Rattle.printed_answer.specs.Usual.{usual_answer}
use Rattle.printed_answer.specs.Computing.{computing}

bare : Remark
bare = record { text = []; one_line = λ b m. absurd (Memᴰ.not-nil m) }

-- With c lines, several spaces between items, and spaces at the end of lines.
written_so :
    ended (answer_lines (record {
      before = bare ∷ [];
      lines = literals (record { more = 0; literal = is 2 }) (record { more = 2; literal = is_not 1 } ∷ []) 1 ∷ remark bare ∷ [];
      closing = record { literals = record { more = 0; literal = is 3 } ∷ []; more = 1; at_end = 2 };
      behind = bare ∷ [];
    }))
    ≡ ascii "c\ns SATISFIABLE\nv 2   -1 \nc\nv 3  0  \nc\n"
unfolding computing bare
written_so = refl

usual_so : usual_answer 3 (λ v. eqb v 2) ≡ ascii "s SATISFIABLE\nv -1 2 -3 0\n"
unfolding computing
usual_so = refl
