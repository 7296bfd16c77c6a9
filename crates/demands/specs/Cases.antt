-- The cases marked P of "Examples at the edges", and the clause program's printed file, as one list; and that they hold.
use Rattle.std.specs.Prelude.{true, List, [], ◌∷◌, ◌++◌, ◌≡◌}
use Rattle.reply.specs.Reply.{◌at◌}
use Rattle.text.specs.Text.{ascii}
use Rattle.book.specs.Examples.{
  fx_to_gx,
  example1,
  undoing,
  div_ie,
  associative,
  reversed,
  fx_to_x,
  fx_to_fx,
  fx_to_y,
  x_to_x,
  only_end,
  empty_book,
  adding,
}
use Rattle.record.specs.Examples.{one_and_none}
use Rattle.steps.specs.Run.{done, spent}
use Rattle.demands.specs.Claims.{Case, for_ranks, for_all_ranks, unreadable, headed, prints, runs, ◌gives◌, clearance, failure_at, every, holds}

unfoldable pub cases : List Case
cases =
    -- f(x) → g(x): ranks 1,0 clear; 0,0 and 0,1 give 8 at 0
    for_ranks fx_to_gx ((1 ∷ 0 ∷ [] gives clearance) ∷ (0 ∷ 0 ∷ [] gives failure_at 0) ∷ (0 ∷ 1 ∷ [] gives failure_at 0) ∷ [])
    -- f(y,g(x),x) → f(y,x,g(g(x))) (003, Example 1): cleared exactly if f ranks above g
    ∷ for_all_ranks example1 2
    ((0 ∷ 0 ∷ [] gives failure_at 0)
    ∷ (0 ∷ 1 ∷ [] gives failure_at 0)
    ∷ (1 ∷ 0 ∷ [] gives clearance)
    ∷ (1 ∷ 1 ∷ [] gives failure_at 0)
    ∷ [])
    -- f(x) → g(x), g(x) → f(x): no ranks clear
    ∷ for_all_ranks undoing 2
    ((0 ∷ 0 ∷ [] gives failure_at 0)
    ∷ (0 ∷ 1 ∷ [] gives failure_at 0)
    ∷ (1 ∷ 0 ∷ [] gives failure_at 1)
    ∷ (1 ∷ 1 ∷ [] gives failure_at 0)
    ∷ [])
    -- 003's system of div, i, e: div above i gives 8 at rule 1; i above div, or equal, gives 8 at 0
    ∷ for_all_ranks div_ie 3
    ((0 ∷ 0 ∷ 0 ∷ [] gives failure_at 0)
    ∷ (0 ∷ 0 ∷ 1 ∷ [] gives failure_at 0)
    ∷ (0 ∷ 0 ∷ 2 ∷ [] gives failure_at 0)
    ∷ (0 ∷ 1 ∷ 0 ∷ [] gives failure_at 0)
    ∷ (0 ∷ 1 ∷ 1 ∷ [] gives failure_at 0)
    ∷ (0 ∷ 1 ∷ 2 ∷ [] gives failure_at 0)
    ∷ (0 ∷ 2 ∷ 0 ∷ [] gives failure_at 0)
    ∷ (0 ∷ 2 ∷ 1 ∷ [] gives failure_at 0)
    ∷ (0 ∷ 2 ∷ 2 ∷ [] gives failure_at 0)
    ∷ (1 ∷ 0 ∷ 0 ∷ [] gives failure_at 1)
    ∷ (1 ∷ 0 ∷ 1 ∷ [] gives failure_at 1)
    ∷ (1 ∷ 0 ∷ 2 ∷ [] gives failure_at 1)
    ∷ (1 ∷ 1 ∷ 0 ∷ [] gives failure_at 0)
    ∷ (1 ∷ 1 ∷ 1 ∷ [] gives failure_at 0)
    ∷ (1 ∷ 1 ∷ 2 ∷ [] gives failure_at 0)
    ∷ (1 ∷ 2 ∷ 0 ∷ [] gives failure_at 0)
    ∷ (1 ∷ 2 ∷ 1 ∷ [] gives failure_at 0)
    ∷ (1 ∷ 2 ∷ 2 ∷ [] gives failure_at 0)
    ∷ (2 ∷ 0 ∷ 0 ∷ [] gives failure_at 1)
    ∷ (2 ∷ 0 ∷ 1 ∷ [] gives failure_at 1)
    ∷ (2 ∷ 0 ∷ 2 ∷ [] gives failure_at 1)
    ∷ (2 ∷ 1 ∷ 0 ∷ [] gives failure_at 1)
    ∷ (2 ∷ 1 ∷ 1 ∷ [] gives failure_at 1)
    ∷ (2 ∷ 1 ∷ 2 ∷ [] gives failure_at 1)
    ∷ (2 ∷ 2 ∷ 0 ∷ [] gives failure_at 0)
    ∷ (2 ∷ 2 ∷ 1 ∷ [] gives failure_at 0)
    ∷ (2 ∷ 2 ∷ 2 ∷ [] gives failure_at 0)
    ∷ [])
    -- m(m(x,y),z) → m(x,m(y,z)) clears with any rank; the reverse with none
    ∷ for_all_ranks associative 1 ((0 ∷ [] gives clearance) ∷ [])
    ∷ for_all_ranks reversed 1 ((0 ∷ [] gives failure_at 0) ∷ [])
    -- f(x) → x clears with any rank, header `p cnf 4 6`
    ∷ for_all_ranks fx_to_x 1 ((0 ∷ [] gives clearance) ∷ [])
    ∷ headed fx_to_x (ascii "p cnf 4 6\n")
    -- f(x) → f(x), f(x) → y and x → x never clear; the last has header `p cnf 2 4`
    ∷ for_all_ranks fx_to_fx 1 ((0 ∷ [] gives failure_at 0) ∷ [])
    ∷ for_all_ranks fx_to_y 1 ((0 ∷ [] gives failure_at 0) ∷ [])
    ∷ for_all_ranks x_to_x 0 (([] gives failure_at 0) ∷ [])
    ∷ headed x_to_x (ascii "p cnf 2 4\n")
    -- the book 05 gives `p cnf 0 0` and clears with no ranks; the empty book: 1 at 0
    ∷ headed only_end (ascii "p cnf 0 0\n")
    ∷ prints only_end (ascii "p cnf 0 0\n")
    ∷ for_ranks only_end (([] gives clearance) ∷ [])
    ∷ unreadable empty_book (1 at 0)
    ∷ prints empty_book (ascii "refused 1 at 0\n")
    -- ranks 0,0,1 and the record a(s(z),z): budget 2 gives s(z), done, 2 steps; budget 1 gives s(a(z,z)), spent, 1; budget 0 the record,
    -- spent, 0
    ∷ runs adding (0 ∷ 0 ∷ 1 ∷ []) one_and_none 2 done 2 (3 ∷ 1 ∷ 3 ∷ 0 ∷ 5 ∷ [])
    ∷ runs adding (0 ∷ 0 ∷ 1 ∷ []) one_and_none 1 spent 1 (3 ∷ 1 ∷ 3 ∷ 2 ∷ 3 ∷ 0 ∷ 3 ∷ 0 ∷ 5 ∷ [])
    ∷ runs adding (0 ∷ 0 ∷ 1 ∷ []) one_and_none 0 spent 0 one_and_none
    -- the clause program's file for f(x) → g(x)
    ∷ headed fx_to_gx (ascii "p cnf 12 21\n")
    ∷ prints fx_to_gx (
    ascii "p cnf 12 21\n-3 1 0\n-3 -2 0\n3 -1 2 0\n-4 2 0\n-4 -1 0\n4 -2 1 0\n5 0\n-6 3 0\n-6 7 0\n6 -3 -7 0\n"
    ++ ascii "5 -9 0\n5 -6 0\n-5 9 6 0\n-8 0\n7 0\n-10 0\n9 -10 0\n-9 10 0\n-12 0\n11 -12 0\n-11 12 0\n"
    )
    ∷ []

-- "Cases marked P are proved about the definitions, as a single statement over a list".
unfoldable pub CasesHold : Type 0
CasesHold = every holds cases ≡ true
