-- Cases of reading a record: a term, each fault with its byte, the one refusal that they all are, and the answers of the code, computed.
-- Assumes nothing.
use Prim.Native.Nat.{ℕ}
use mathlib.Core.Path.{◌≡◌, refl}
use mathlib.Core.List.{List, [], ◌∷◌, ◌++◌, flatten, map}
use lib.ListN.{replicate}
use Rattle.std.specs.Prelude.{Ok, Err}
use Rattle.reply.specs.Reply.{given, refused, ◌at◌}
use Rattle.term.specs.Term.{app, nil, cons}
use Rattle.record.specs.Record.{record_bytes, record_term, read_record}
use Rattle.record.specs.Meaning.{record_verdict}
use Rattle.record.specs.Examples.{one_and_none}
use Rattle.record.specs.Computing.{computing}
use Rattle.record.specs.declared.RecordFault.TheVariants.{EndedEarly, WrongKind, NotDeclared, TooManyNodes, AfterTheTerm}

its_bytes_lem : record_bytes (app 2 (cons (app 1 (cons (app 0 nil) nil)) (cons (app 0 nil) nil))) ≡ one_and_none
unfolding computing
its_bytes_lem = refl

-- Over z/0, s/1, a/2.
a_record : record_term (0 ∷ 1 ∷ 2 ∷ []) one_and_none ≡ given (app 2 (cons (app 1 (cons (app 0 nil) nil)) (cons (app 0 nil) nil)))
unfolding computing
a_record = refl

record_ended_early : record_term (0 ∷ 1 ∷ 2 ∷ []) (3 ∷ 1 ∷ 3 ∷ []) ≡ refused (EndedEarly 3)
unfolding computing
record_ended_early = refl

record_without_its_end : record_term (0 ∷ 1 ∷ 2 ∷ []) (3 ∷ 0 ∷ []) ≡ refused (EndedEarly 2)
unfolding computing
record_without_its_end = refl

a_variable_in_a_record : record_term (0 ∷ 1 ∷ 2 ∷ []) (3 ∷ 1 ∷ 4 ∷ 0 ∷ 5 ∷ []) ≡ refused (WrongKind 2)
unfolding computing
a_variable_in_a_record = refl

symbol_not_declared : record_term (0 ∷ 1 ∷ 2 ∷ []) (3 ∷ 3 ∷ 5 ∷ []) ≡ refused (NotDeclared 1)
unfolding computing
symbol_not_declared = refl

-- s over s .. over z: 256 nodes are taken, the 257th is not.
tower : (count : ℕ) → List ℕ
tower count = flatten (replicate count (3 ∷ 1 ∷ [])) ++ (3 ∷ 0 ∷ 5 ∷ [])

two_hundred_and_fifty_seven_nodes : record_term (0 ∷ 1 ∷ 2 ∷ []) (tower 256) ≡ refused (TooManyNodes 512)
unfolding computing flatten tower
two_hundred_and_fifty_seven_nodes = refl

two_hundred_and_fifty_six_nodes : record_term (0 ∷ 1 ∷ 2 ∷ []) (tower 255 ++ (5 ∷ [])) ≡ refused (AfterTheTerm 513)
unfolding computing flatten tower
two_hundred_and_fifty_six_nodes = refl

behind_the_term : record_term (0 ∷ 1 ∷ 2 ∷ []) (3 ∷ 0 ∷ 3 ∷ 0 ∷ 5 ∷ []) ≡ refused (AfterTheTerm 2)
unfolding computing
behind_the_term = refl

behind_the_end : record_term (0 ∷ 1 ∷ 2 ∷ []) (3 ∷ 0 ∷ 5 ∷ 5 ∷ []) ≡ refused (AfterTheTerm 3)
unfolding computing
behind_the_end = refl

any_fault_is_11_at_0 : read_record (0 ∷ []) (3 ∷ 0 ∷ 5 ∷ 5 ∷ []) ≡ refused (11 at 0)
unfolding computing
any_fault_is_11_at_0 = refl

-- What the code answers: a term by its number of nodes.
answers :
    map (λ bytes. record_verdict (record_term (0 ∷ 1 ∷ 2 ∷ []) bytes))
    (one_and_none ∷ [] ∷ (3 ∷ 0 ∷ []) ∷ (4 ∷ 0 ∷ 5 ∷ []) ∷ (3 ∷ 3 ∷ 5 ∷ []) ∷ (3 ∷ 0 ∷ 5 ∷ 5 ∷ []) ∷ (3 ∷ 0 ∷ 3 ∷ []) ∷ [])
    ≡ Ok 4 ∷ map Err (EndedEarly 0 ∷ EndedEarly 2 ∷ WrongKind 0 ∷ NotDeclared 1 ∷ AfterTheTerm 3 ∷ AfterTheTerm 2 ∷ [])
unfolding computing
answers = refl
