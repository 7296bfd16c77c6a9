-- `answer_lines::reader::Reader::take_word` meets its contract: the values are not open, or the word is the closing 0, a literal or faulty.
use mathlib.Core.Path.{refl}
use Rattle.clauses.specs.Cnf.{is, is_not}
use Rattle.items.proofs.OneItem.{is_from_one, is_not_from_one}
use Rattle.answer_lines.specs.Values.{item_after}
use Rattle.answer_lines.proofs.OneWord.{word_late, word_taken}
use Rattle.answer_lines.proofs.reader.Reader.take_word.Goals as goal

pub name-requires : goal.name-requires
name-requires c = is_from_one _ _ _ (rw c.in-Some-Is.field-0-is at c.in-Some-Is.ensures)

pub name-requires-in-Some-IsNot : goal.name-requires-in-Some-IsNot
name-requires-in-Some-IsNot c = is_not_from_one _ _ _ (rw c.in-Some-IsNot.field-0-is at c.in-Some-IsNot.ensures)

pub returns-in_default-clause-told : goal.returns-in_default-clause-told
returns-in_default-clause-told c = λ fault. word_late fault _ refl _ _ c.in_default.not-Open _

pub returns-in-None-clause-told : goal.returns-in-None-clause-told
unfolding item_after
returns-in-None-clause-told c = λ fault. word_taken fault _ c.in-None.ensures _ _ c.in-Open.is _ _ _ (λ ls held. refl)

pub returns-in-Some-Closing-clause-told : goal.returns-in-Some-Closing-clause-told
unfolding item_after
returns-in-Some-Closing-clause-told c =
    λ fault.
    word_taken fault _ (rw c.in-Some-Closing.field-0-is at c.in-Some-Closing.ensures) _ _ c.in-Open.is _ _ _ (λ ls held. (refl, held.1))

pub returns-in-Some-Is-clause-told : goal.returns-in-Some-Is-clause-told
unfolding item_after
returns-in-Some-Is-clause-told c =
    λ fault.
    word_taken fault _ (rw c.in-Some-Is.field-0-is at c.in-Some-Is.ensures) _ _ c.in-Open.is _ _ _
    (λ ls held. c.name.ensures.told fault (is _) ls refl refl held)

pub returns-in-Some-IsNot-clause-told : goal.returns-in-Some-IsNot-clause-told
unfolding item_after
returns-in-Some-IsNot-clause-told c =
    λ fault.
    word_taken fault _ (rw c.in-Some-IsNot.field-0-is at c.in-Some-IsNot.ensures) _ _ c.in-Open.is _ _ _
    (λ ls held. c.name-in-Some-IsNot.ensures.told fault (is_not _) ls refl refl held)
