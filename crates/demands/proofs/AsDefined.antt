-- Each function answers and writes what the definition of its entry point says. From its contract. Assumes nothing.
use mathlib.Core.List.{[]}
use mathlib.Core.Path.{◌≡◌, refl, ap, ◌∙◌}
use lib.ListN.{length}
use Rattle.reply.specs.Reply.{Reply, given, refused, ◌>>=◌}
use Rattle.reply.specs.Lent.{laid, length_of}
use Rattle.steps.specs.Run.{ran_bytes}
use Rattle.running.specs.RunMeaning.{run_told}
use Rattle.demands.specs.EntryPoints.{Bytes, answer, buffer_after}
use Rattle.demands.specs.InCode.{AsDefined}
use Rattle.demands.specs.Functions.{read_book_in_code, write_block_in_code, check_ranks_in_code, ranks_from_answer_in_code, run_in_code, argument_in_code}

module _ {A : Type 0} where
  -- A reply whose result is told as it is, and one of which nothing is written.
  pub itself : (reply : Reply A) → reply ≡ ◌>>=◌ reply (λ a. given a)
  unfolding ◌>>=◌
  itself (given a) = refl
  itself (refused r) = refl

  pub nothing_written : (reply : Reply A) → ◌≡◌ {A = Bytes} [] (laid (◌>>=◌ reply (λ a. given [])) [])
  unfolding ◌>>=◌ laid
  nothing_written (given a) = refl
  nothing_written (refused r) = refl

-- Bytes that are written as they are, and counted.
pub itself_written : (reply : Reply Bytes) (buffer : Bytes) → laid reply buffer ≡ laid (◌>>=◌ reply (λ bytes. given bytes)) buffer
itself_written reply buffer = ap (λ (x : Reply Bytes). laid x buffer) (itself reply)

pub told_by_length : (reply : Reply Bytes) → length_of reply ≡ ◌>>=◌ reply (λ bytes. given (length bytes))
unfolding length_of ◌>>=◌
told_by_length (given bytes) = refl
told_by_length (refused r) = refl

pub read_book_as_defined : AsDefined read_book_in_code
unfolding read_book_in_code answer buffer_after
read_book_as_defined = record {
  answers = λ call. call.ensured.1 ∙ itself _;
  writes = λ call. nothing_written _;
}

pub write_block_as_defined : AsDefined write_block_in_code
unfolding write_block_in_code answer buffer_after
write_block_as_defined = record {
  answers = λ call. call.ensured.0 ∙ told_by_length _;
  writes = λ call. call.ensured.1 ∙ itself_written _ _;
}

pub check_ranks_as_defined : AsDefined check_ranks_in_code
unfolding check_ranks_in_code answer buffer_after
check_ranks_as_defined = record {
  answers = λ call. call.ensured ∙ itself _;
  writes = λ call. nothing_written _;
}

pub ranks_from_answer_as_defined : AsDefined ranks_from_answer_in_code
unfolding ranks_from_answer_in_code answer buffer_after
ranks_from_answer_as_defined = record {
  answers = λ call. call.ensured.0 ∙ told_by_length _;
  writes = λ call. call.ensured.1 ∙ itself_written _ _;
}

pub run_as_defined : AsDefined run_in_code
unfolding run_in_code answer buffer_after run_told ran_bytes
run_as_defined = record { answers = λ call. call.ensured.replied; writes = λ call. call.ensured.written }

pub argument_as_defined : AsDefined argument_in_code
unfolding argument_in_code answer buffer_after
argument_as_defined = record {
  answers = λ call. call.ensured ∙ itself _;
  writes = λ call. nothing_written _;
}
