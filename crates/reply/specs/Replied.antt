-- What a Result of the code is on paper.
use Rattle.std.specs.Prelude.{Result, Ok, Err}
use Rattle.reply.specs.Reply.{Attempt, Reply, given, refused}
use Rattle.reply.specs.Refusals.{numbered}
use Rattle.reply.specs.declared.Refusal.{Refusal as Named}

module _ {R A : Type 0} where
  -- Something is given, or it is refused for a reason R: the same attempt.
  unfoldable pub attempted : Result A R → Attempt R A
  attempted (Ok a) = given a
  attempted (Err r) = refused r

  -- And back.
  unfoldable pub result_of : Attempt R A → Result A R
  result_of (given a) = Ok a
  result_of (refused r) = Err r

-- What is given, or the refusal's number and place.
unfoldable pub replied : {A : Type 0} → Result A Named → Reply A
replied (Ok a) = given a
replied (Err r) = refused (numbered r)

-- The same, what is given told in other words.
unfoldable pub replied_as : {A B : Type 0} → (A → B) → Result A Named → Reply B
replied_as f (Ok a) = given (f a)
replied_as f (Err r) = refused (numbered r)
