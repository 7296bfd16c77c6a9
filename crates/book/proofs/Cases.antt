-- Cases of reading, one for each refusal 1 to 6 and for the order of two in one record, computed. Assumes nothing.
use mathlib.Core.Path.{◌≡◌, refl}
use mathlib.Core.List.{[], ◌∷◌, ◌++◌}
use lib.ListN.{replicate}
use Rattle.reply.specs.Reply.{given, refused, told_as, ◌at◌}
use Rattle.term.specs.Term.{var, app, nil, cons}
use Rattle.book.specs.Reading.{read_book}
use Rattle.book.specs.Examples.{fx_to_gx}
use Rattle.book.specs.Computing.{computing}

reads_a_rule : read_book fx_to_gx ≡ given (record { arities = 1 ∷ 1 ∷ []; rules = record { left = app 0 (cons (var 0) nil); right = app 1 (cons (var 0) nil) } ∷ [] })
unfolding computing
reads_a_rule = refl

inside_a_body : read_book (1 ∷ 2 ∷ 1 ∷ []) ≡ refused (1 at 3)
unfolding computing
inside_a_body = refl

unknown_kind_before_the_missing_end : read_book (1 ∷ 2 ∷ 6 ∷ []) ≡ refused (2 at 2)
unfolding computing
unknown_kind_before_the_missing_end = refl

missing_body_before_not_allowed : read_book (3 ∷ []) ≡ refused (1 at 1)
unfolding computing
missing_body_before_not_allowed = refl

symbol_after_a_rule : read_book (2 ∷ 4 ∷ 0 ∷ 4 ∷ 0 ∷ 1 ∷ 0 ∷ 5 ∷ []) ≡ refused (3 at 5)
unfolding computing
symbol_after_a_rule = refl

not_allowed_before_a_wrong_body : read_book (3 ∷ 9 ∷ 5 ∷ []) ≡ refused (3 at 0)
unfolding computing
not_allowed_before_a_wrong_body = refl

end_between_the_sides : read_book (2 ∷ 4 ∷ 0 ∷ 5 ∷ []) ≡ refused (3 at 3)
unfolding computing
end_between_the_sides = refl

arity_above_6 : read_book (1 ∷ 7 ∷ 5 ∷ []) ≡ refused (4 at 1)
unfolding computing
arity_above_6 = refl

variable_above_15 : read_book (2 ∷ 4 ∷ 16 ∷ []) ≡ refused (4 at 2)
unfolding computing
variable_above_15 = refl

sixteen_symbols : told_as (λ r. r.number) (read_book (replicate 32 1 ++ (6 ∷ []))) ≡ refused 2
unfolding computing
sixteen_symbols = refl

seventeenth_symbol : read_book (replicate 34 1 ++ (5 ∷ [])) ≡ refused (5 at 32)
unfolding computing
seventeenth_symbol = refl

wrong_body_before_the_seventeenth_symbol : read_book (replicate 32 1 ++ (1 ∷ 7 ∷ 5 ∷ [])) ≡ refused (4 at 33)
unfolding computing
wrong_body_before_the_seventeenth_symbol = refl

-- s/1 is declared; ten nodes of a left side are s over s .., and none of them ends it.
eleventh_node : read_book (1 ∷ 1 ∷ 2 ∷ 3 ∷ 0 ∷ 3 ∷ 0 ∷ 3 ∷ 0 ∷ 3 ∷ 0 ∷ 3 ∷ 0 ∷ 3 ∷ 0 ∷ 3 ∷ 0 ∷ 3 ∷ 0 ∷ 3 ∷ 0 ∷ 3 ∷ 0 ∷ 4 ∷ 0 ∷ 5 ∷ []) ≡ refused (5 at 23)
unfolding computing
eleventh_node = refl

bytes_after_the_end : read_book (5 ∷ 5 ∷ []) ≡ refused (6 at 1)
unfolding computing
bytes_after_the_end = refl
