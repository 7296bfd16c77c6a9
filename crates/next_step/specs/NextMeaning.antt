-- What an answer about the next step means.
use Rattle.std.specs.Prelude.{Option as Maybe, Some, None, Result}
use Rattle.std.proofs.Math.Option.{Option, none, some}
use Rattle.reply.specs.Reply.{Reply}
use Rattle.reply.specs.Replied.{replied_as}
use Rattle.reply.specs.declared.Refusal.{Refusal as Named}
use Rattle.steps.specs.NextStep.{Taken}
use Rattle.next_step.specs.declared.Next.{Next}

-- No step, or the rule and the place that it takes.
unfoldable pub taken : Maybe Next → Option Taken
taken None = none
taken (Some next) = some (record { rule = next.rule; place = next.place })

-- The same, or the refusal's number and place.
unfoldable pub next_meaning : Result (Maybe Next) Named → Reply (Option Taken)
next_meaning = replied_as taken
