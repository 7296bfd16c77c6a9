-- Cases of a solver's answer, for f(x) → g(x) unless said otherwise: V is 12, the rank variables are 1 and 2. Computed. Assumes nothing.
use Prim.Native.Nat.{ℕ}
use Prim.Native.String.{String}
use mathlib.Core.Path.{◌≡◌, refl}
use mathlib.Core.List.{List, [], ◌∷◌}
use Rattle.reply.specs.Reply.{Reply, given, refused, ◌at◌}
use Rattle.text.specs.Text.{ascii}
use Rattle.book.specs.Examples.{fx_to_gx, only_end}
use Rattle.answer.specs.Ranks.{ranks_from_answer}
use Rattle.answer.specs.Computing.{computing}

-- The reply to an answer, with a lent buffer of two bytes.
reply : String → Reply (List ℕ)
reply text = ranks_from_answer fx_to_gx (ascii text) 2

as_solvers_print_it : reply "c chatter\ns SATISFIABLE\nv 1 -2 3 -4 5 6 7 -8 9 -10\nv -11 12 0\n" ≡ given (1 ∷ 0 ∷ [])
unfolding computing reply
as_solvers_print_it = refl

not_named_counts_as_0 : reply "s SATISFIABLE\nv 1 0" ≡ given (1 ∷ 0 ∷ [])
unfolding computing reply
not_named_counts_as_0 = refl

other_variables_may_repeat : reply "s SATISFIABLE\nv 12 -12  12 1 0  \nc end" ≡ given (1 ∷ 0 ∷ [])
unfolding computing reply
other_variables_may_repeat = refl

a_rank_variable_named_twice : reply "s SATISFIABLE\nv 1\nv 1 0\n" ≡ refused (13 at 18)
unfolding computing reply
a_rank_variable_named_twice = refl

the_start_of_the_faulty_line : reply "c x\ns SATISFIABLE\nv 1 13 0\n" ≡ refused (13 at 18)
unfolding computing reply
the_start_of_the_faulty_line = refl

a_value_after_the_closing_0 : reply "s SATISFIABLE\nv 1 0 2\n" ≡ refused (13 at 14)
unfolding computing reply
a_value_after_the_closing_0 = refl

values_not_closed : reply "s SATISFIABLE\nv 1\n" ≡ refused (13 at 18)
unfolding computing reply
values_not_closed = refl

a_value_before_the_verdict : reply "v 1 0\ns SATISFIABLE\n" ≡ refused (13 at 0)
unfolding computing reply
a_value_before_the_verdict = refl

an_empty_line : reply "s SATISFIABLE\n\nv 1 0\n" ≡ refused (13 at 14)
unfolding computing reply
an_empty_line = refl

a_leading_zero : reply "s SATISFIABLE\nv 01 0\n" ≡ refused (13 at 14)
unfolding computing reply
a_leading_zero = refl

minus_nought : reply "s SATISFIABLE\nv -0\n" ≡ refused (13 at 14)
unfolding computing reply
minus_nought = refl

no_items : reply "s SATISFIABLE\nv \n" ≡ refused (13 at 14)
unfolding computing reply
no_items = refl

the_claim_of_a_solver : reply "s UNSATISFIABLE\n" ≡ refused (14 at 0)
unfolding computing reply
the_claim_of_a_solver = refl

malformed_before_the_claim : reply "s UNKNOWN\nv 0\n" ≡ refused (13 at 10)
unfolding computing reply
malformed_before_the_claim = refl

nothing_at_all : reply "" ≡ refused (13 at 0)
unfolding computing reply
nothing_at_all = refl

ranks_that_do_not_clear : reply "s SATISFIABLE\nv 0\n" ≡ refused (8 at 0)
unfolding computing reply
ranks_that_do_not_clear = refl

the_short_buffer_before_8 : ranks_from_answer fx_to_gx (ascii "s SATISFIABLE\nv 0\n") 1 ≡ refused (9 at 0)
unfolding computing
the_short_buffer_before_8 = refl

no_variables_at_all : ranks_from_answer only_end (ascii "s SATISFIABLE\nv 0\n") 0 ≡ given []
unfolding computing
no_variables_at_all = refl
