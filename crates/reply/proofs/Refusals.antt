-- A refusal can be told from its number and its place. By the cases of the table. Assumes nothing.
use mathlib.Core.Option.{Option, some}
use mathlib.Core.Path.{◌≡◌, refl, sym, ap, ◌∙◌}
use Rattle.reply.specs.Refusals.{numbered, rows, named}
use Rattle.reply.specs.declared.Refusal.{Refusal as Named}
use Rattle.reply.specs.declared.Refusal.TheVariants.{
  BookEnded,
  UnknownKind,
  NotAllowed,
  BadBody,
  TooMany,
  AfterEnd,
  WrongRankCount,
  NotDecreasing,
  ShortBuffer,
  NoSuchBlock,
  BadRecord,
  AnswerTooLong,
  BadAnswer,
  NoModel,
  NoSuchArgument,
}

pub named_numbered : (r : Named) → named (numbered r) ≡ some r
unfolding named rows numbered
named_numbered (BookEnded p) = refl
named_numbered (UnknownKind p) = refl
named_numbered (NotAllowed p) = refl
named_numbered (BadBody p) = refl
named_numbered (TooMany p) = refl
named_numbered (AfterEnd p) = refl
named_numbered WrongRankCount = refl
named_numbered (NotDecreasing p) = refl
named_numbered ShortBuffer = refl
named_numbered NoSuchBlock = refl
named_numbered BadRecord = refl
named_numbered AnswerTooLong = refl
named_numbered (BadAnswer p) = refl
named_numbered NoModel = refl
named_numbered NoSuchArgument = refl

-- Two refusals with one number and one place are the same.
pub numbered_apart : (r s : Named) → numbered r ≡ numbered s → r ≡ s
numbered_apart r s e =
    let q : ◌≡◌ {A = Option Named} (some r) (some s) = sym (named_numbered r) ∙ ap named e ∙ named_numbered s in cc
