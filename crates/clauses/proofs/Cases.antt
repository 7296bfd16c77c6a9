-- Cases of the clause file, document 01's printed one among them, computed. Assumes nothing.
use mathlib.Core.Path.{◌≡◌, refl}
use mathlib.Core.List.{[], ◌∷◌}
use mathlib.Core.Option.{none, some}
use Rattle.reply.specs.Reply.{given, refused, ◌at◌}
use Rattle.text.specs.Text.{ascii}
use Rattle.book.specs.Examples.{fx_to_gx, x_to_x}
use Rattle.clauses.specs.Cnf.{is, is_not}
use Rattle.clauses.specs.File.{block, clause_program}
use Rattle.clauses.specs.Dimacs.{read_dimacs}
use Rattle.clauses.specs.Computing.{computing}

the_printed_file : clause_program fx_to_gx ≡ ascii "p cnf 12 21\n-3 1 0\n-3 -2 0\n3 -1 2 0\n-4 2 0\n-4 -1 0\n4 -2 1 0\n5 0\n-6 3 0\n-6 7 0\n6 -3 -7 0\n5 -9 0\n5 -6 0\n-5 9 6 0\n-8 0\n7 0\n-10 0\n9 -10 0\n-9 10 0\n-12 0\n11 -12 0\n-11 12 0\n"
unfolding computing
the_printed_file = refl

-- Three symbols have two rank bits, so the six clauses of a larger j stand in each pair's block.
a_block_of_two_bits : block (1 ∷ 0 ∷ 1 ∷ 0 ∷ 1 ∷ 0 ∷ 5 ∷ []) 1 512 ≡ given (ascii "-7 1 0\n-7 -3 0\n7 -1 3 0\n8 -2 4 0\n8 -2 -7 0\n8 4 -7 0\n-8 2 -4 0\n-8 2 7 0\n-8 -4 7 0\n")
unfolding computing
a_block_of_two_bits = refl

the_last_block : block fx_to_gx 7 512 ≡ given (ascii "-12 0\n11 -12 0\n-11 12 0\n")
unfolding computing
the_last_block = refl

no_block_of_that_number : block fx_to_gx 8 0 ≡ refused (10 at 0)
unfolding computing
no_block_of_that_number = refl

a_buffer_under_512_bytes : block fx_to_gx 7 511 ≡ refused (9 at 0)
unfolding computing
a_buffer_under_512_bytes = refl

a_file_read_back : read_dimacs (clause_program x_to_x) ≡ some (record { variables = 2; clauses = (is 1 ∷ []) ∷ (is_not 2 ∷ []) ∷ (is 1 ∷ is_not 2 ∷ []) ∷ (is_not 1 ∷ is 2 ∷ []) ∷ [] })
unfolding computing
a_file_read_back = refl

an_invented_M : read_dimacs (ascii "p cnf 2 3\n1 0\n-2 0\n") ≡ none
unfolding computing
an_invented_M = refl

an_invented_V : read_dimacs (ascii "p cnf 1 2\n1 0\n-2 0\n") ≡ none
unfolding computing
an_invented_V = refl
