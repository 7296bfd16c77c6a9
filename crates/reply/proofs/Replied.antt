-- A Result of the code can be told from what it is on paper. By its cases. Assumes nothing.
use mathlib.Core.Path.{◌≡◌, refl, ap}
use Rattle.std.specs.Prelude.{Result, Ok, Err}
use Rattle.reply.specs.Reply.{Attempt, given, refused}
use Rattle.reply.specs.Refusals.{numbered}
use Rattle.reply.specs.Replied.{attempted, result_of, replied, replied_as}
use Rattle.reply.specs.declared.Refusal.{Refusal as Named}
use Rattle.reply.proofs.Given.{refused_not_given, given_not_refused}
use Rattle.reply.proofs.Refusals.{numbered_apart}

-- There and back.
module _ {R A : Type 0} where
  pub result_of_attempted : (r : Result A R) → result_of (attempted r) ≡ r
  unfolding attempted result_of
  result_of_attempted (Ok a) = refl
  result_of_attempted (Err r) = refl

  pub attempted_result_of : (r : Attempt R A) → attempted (result_of r) ≡ r
  unfolding attempted result_of
  attempted_result_of (given a) = refl
  attempted_result_of (refused r) = refl

-- What is told in other words, where the words can be told from one another.
pub replied_as_apart :
    {A B : Type 0} (f : A → B) → ((a b : A) → f a ≡ f b → a ≡ b) → (r s : Result A Named) → replied_as f r ≡ replied_as f s → r ≡ s
unfolding replied_as
replied_as_apart f apart (Ok a) (Ok b) e = let same : f a ≡ f b = cc in ap (λ x. Ok x) (apart a b same)
replied_as_apart f apart (Ok a) (Err s) e = absurd (given_not_refused (f a) (numbered s) e)
replied_as_apart f apart (Err r) (Ok b) e = absurd (refused_not_given (numbered r) (f b) e)
replied_as_apart f apart (Err r) (Err s) e = let same : numbered r ≡ numbered s = cc in ap (λ x. Err x) (numbered_apart r s same)

-- What is told as it is.
pub replied_as_it_is : {A : Type 0} (r : Result A Named) → replied_as (λ a. a) r ≡ replied r
unfolding replied_as replied
replied_as_it_is (Ok a) = refl
replied_as_it_is (Err r) = refl

pub replied_apart : {A : Type 0} (r s : Result A Named) → replied r ≡ replied s → r ≡ s
unfolding replied
replied_apart (Ok a) (Ok b) e = cc
replied_apart (Ok a) (Err s) e = absurd (given_not_refused a (numbered s) e)
replied_apart (Err r) (Ok b) e = absurd (refused_not_given (numbered r) b e)
replied_apart (Err r) (Err s) e = let same : numbered r ≡ numbered s = cc in ap (λ x. Err x) (numbered_apart r s same)
