-- Cases of the run, the next step and the argument question, computed. Assumes nothing.
use Prim.Native.Nat.{ℕ}
use mathlib.Core.Path.{◌≡◌, refl}
use mathlib.Core.List.{List, [], ◌∷◌, ◌++◌, flatten}
use mathlib.Core.Option.{none, some}
use lib.ListN.{replicate}
use Rattle.reply.specs.Reply.{Reply, given, refused, ◌at◌, ◌>>=◌}
use Rattle.reply.specs.Lent.{laid}
use Rattle.term.specs.Term.{app, nil, cons, size}
use Rattle.book.specs.Examples.{adding}
use Rattle.record.specs.Examples.{one_and_none}
use Rattle.steps.specs.NextStep.{next_step}
use Rattle.steps.specs.Run.{Outcome, done, spent, too_large, Ran, run, ran_bytes}
use Rattle.steps.specs.Argument.{argument}
use Rattle.steps.specs.Computing.{computing}

-- A run's outcome, its steps and the nodes of the term reached.
data Ended : Type 0 where
  ended : Outcome → (steps nodes : ℕ) → Ended

shown : Reply Ran → Reply Ended
shown reply = do
  ran ← reply
  given (ended ran.outcome ran.steps (size ran.reached))

spent_at_the_cap : run adding (0 ∷ 0 ∷ 1 ∷ []) one_and_none 1 513 ≡ given (record { outcome = spent; steps = 1; reached = app 1 (cons (app 2 (cons (app 0 nil) (cons (app 0 nil) nil))) nil) })
unfolding computing
spent_at_the_cap = refl

done_where_no_rule_fits : run adding (0 ∷ 0 ∷ 1 ∷ []) one_and_none 2 513 ≡ given (record { outcome = done; steps = 2; reached = app 1 (cons (app 0 nil) nil) })
unfolding computing
done_where_no_rule_fits = refl

-- z/0, d/1, p/2: d(x) → p(x,x); records of d over d .. over z
doubling : List ℕ
doubling = 1 ∷ 0 ∷ 1 ∷ 1 ∷ 1 ∷ 2 ∷ 2 ∷ 3 ∷ 1 ∷ 4 ∷ 0 ∷ 3 ∷ 2 ∷ 4 ∷ 0 ∷ 4 ∷ 0 ∷ 5 ∷ []

tower : (count : ℕ) → List ℕ
tower count = flatten (replicate count (3 ∷ 1 ∷ [])) ++ (3 ∷ 0 ∷ 5 ∷ [])

nine_doublings : shown (run doubling (0 ∷ 1 ∷ 0 ∷ []) (tower 9) 10 513) ≡ given (ended too_large 6 130)
unfolding computing flatten shown doubling tower
nine_doublings = refl

eight_doublings : shown (run doubling (0 ∷ 1 ∷ 0 ∷ []) (tower 8) 10 513) ≡ given (ended too_large 7 256)
unfolding computing flatten shown doubling tower
eight_doublings = refl

the_budget_before_the_size : shown (run doubling (0 ∷ 1 ∷ 0 ∷ []) (tower 8) 7 513) ≡ given (ended spent 7 256)
unfolding computing flatten shown doubling tower
the_budget_before_the_size = refl

-- z/0, w/0, f/1, e/2: f(x) → z, f(x) → w, e(x,x) → z
choosing : List ℕ
choosing =
    1 ∷ 0 ∷ 1 ∷ 0 ∷ 1 ∷ 1 ∷ 1 ∷ 2
    ∷ 2 ∷ 3 ∷ 2 ∷ 4 ∷ 0 ∷ 3 ∷ 0
    ∷ 2 ∷ 3 ∷ 2 ∷ 4 ∷ 0 ∷ 3 ∷ 1
    ∷ 2 ∷ 3 ∷ 3 ∷ 4 ∷ 0 ∷ 4 ∷ 0 ∷ 3 ∷ 0
    ∷ 5 ∷ []

the_lowest_rule : run choosing (0 ∷ 0 ∷ 1 ∷ 1 ∷ []) (3 ∷ 2 ∷ 3 ∷ 1 ∷ 5 ∷ []) 9 513 ≡ given (record { outcome = done; steps = 1; reached = app 0 nil })
unfolding computing choosing
the_lowest_rule = refl

the_first_place_in_postorder : run choosing (0 ∷ 0 ∷ 1 ∷ 1 ∷ []) (3 ∷ 2 ∷ 3 ∷ 2 ∷ 3 ∷ 1 ∷ 5 ∷ []) 1 513 ≡ given (record { outcome = spent; steps = 1; reached = app 2 (cons (app 0 nil) nil) })
unfolding computing choosing
the_first_place_in_postorder = refl

twice_needs_identical_terms : run choosing (0 ∷ 0 ∷ 1 ∷ 1 ∷ []) (3 ∷ 3 ∷ 3 ∷ 0 ∷ 3 ∷ 1 ∷ 5 ∷ []) 9 513 ≡ given (record { outcome = done; steps = 0; reached = app 3 (cons (app 0 nil) (cons (app 1 nil) nil)) })
unfolding computing choosing
twice_needs_identical_terms = refl

malformed_before_the_short_buffer : run choosing (0 ∷ 0 ∷ 1 ∷ 1 ∷ []) (3 ∷ 2 ∷ 5 ∷ []) 9 512 ≡ refused (11 at 0)
unfolding computing choosing
malformed_before_the_short_buffer = refl

the_short_buffer : run choosing (0 ∷ 0 ∷ 1 ∷ 1 ∷ []) (3 ∷ 0 ∷ 5 ∷ []) 9 512 ≡ refused (9 at 0)
unfolding computing choosing
the_short_buffer = refl

the_term_and_its_end : laid (ran_bytes (run choosing (0 ∷ 0 ∷ 1 ∷ 1 ∷ []) (3 ∷ 2 ∷ 3 ∷ 1 ∷ 5 ∷ []) 9 513)) (7 ∷ 7 ∷ 7 ∷ 7 ∷ []) ≡ 3 ∷ 0 ∷ 5 ∷ 7 ∷ []
unfolding computing choosing
the_term_and_its_end = refl

-- The next step is the one that the run makes.
the_second_rule_at_the_root : next_step adding (0 ∷ 0 ∷ 1 ∷ []) one_and_none ≡ given (some (record { rule = 1; place = 0 }))
unfolding computing
the_second_rule_at_the_root = refl

the_lowest_rule_inside_first : next_step choosing (0 ∷ 0 ∷ 1 ∷ 1 ∷ []) (3 ∷ 3 ∷ 3 ∷ 1 ∷ 3 ∷ 2 ∷ 3 ∷ 2 ∷ 3 ∷ 0 ∷ 5 ∷ []) ≡ given (some (record { rule = 0; place = 6 }))
unfolding computing choosing
the_lowest_rule_inside_first = refl

at_rest : next_step choosing (0 ∷ 0 ∷ 1 ∷ 1 ∷ []) (3 ∷ 3 ∷ 3 ∷ 0 ∷ 3 ∷ 1 ∷ 5 ∷ []) ≡ given none
unfolding computing choosing
at_rest = refl

ranks_before_the_record : next_step choosing (0 ∷ 0 ∷ 0 ∷ 0 ∷ []) (3 ∷ 2 ∷ 5 ∷ []) ≡ refused (8 at 0)
unfolding computing choosing
ranks_before_the_record = refl

first_argument : argument adding one_and_none 0 ≡ given (record { start = 2; length = 4 })
unfolding computing
first_argument = refl

second_argument : argument adding one_and_none 1 ≡ given (record { start = 6; length = 2 })
unfolding computing
second_argument = refl

no_third_argument : argument adding one_and_none 2 ≡ refused (15 at 0)
unfolding computing
no_third_argument = refl
