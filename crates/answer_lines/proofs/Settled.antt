-- Two replies that the contract of `read_values` allows are equal, said of the contract itself: an answer that gives values gives them by one
-- table. Assumes nothing.
use mathlib.Core.Bool.{Bool}
use mathlib.Core.List.{List}
use mathlib.Core.Path.{◌≡◌, sym, ap, ◌∙◌}
use contract.Lifetimes.{Lfts}
use borrow.Fn.Kinds.{Dens, ended_of}
use denote.Triple.Clauses.{AtExit}
use Rattle.std.specs.Prelude.{Option, Result, Ok, Err}
use Rattle.reply.specs.Reply.{Reply}
use Rattle.reply.specs.Refusals.{numbered}
use Rattle.reply.specs.declared.Refusal.{Refusal as Named}
use Rattle.reply.proofs.Given.{given_not_refused}
use Rattle.reply.proofs.Refusals.{numbered_apart}
use Rattle.clauses.specs.Cnf.{Literal}
use Rattle.answer_lines.specs.Marks.{table_of}
use Rattle.answer_lines.specs.AnswerRead.{ReadAs}
use Rattle.answer_lines.proofs.read_values.Kinds as read_values_kinds
use Rattle.answer_lines.proofs.read_values.Reads as read_values

read_once : (reply : Reply (List Literal)) (r r' : Result (List (Option Bool)) Named) → ReadAs reply r → ReadAs reply r' → r ≡ r'
read_once reply (Ok t) (Ok t') (ls, e, marks) (ls', e', marks') =
    let same : ls ≡ ls' = cc (sym e ∙ e') in ap (λ (x : List (Option Bool)). Ok x) (marks ∙ ap table_of same ∙ sym marks')
read_once reply (Ok t) (Err why) (ls, e, marks) e' = absurd (given_not_refused ls (numbered why) (sym e ∙ e'))
read_once reply (Err why) (Ok t) e (ls', e', marks') = absurd (given_not_refused ls' (numbered why) (sym e' ∙ e))
read_once reply (Err why) (Err other) e e' =
    let same : numbered why ≡ numbered other = cc (sym e ∙ e') in ap (λ (x : Named). Err x) (numbered_apart why other same)

pub read_values_settled :
    (κs : Lfts 1) (a : Dens κs read_values_kinds.ps) (r r' : Result (List (Option Bool)) Named)
    (e e' : AtExit (ended_of 1 read_values_kinds.ps read_values_kinds.r) κs) →
    read_values.Post κs a r e → read_values.Post κs a r' e' → r ≡ r'
read_values_settled κs a r r' e e' p p' = read_once _ r r' p p'
