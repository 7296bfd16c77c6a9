-- `answer_lines::reader::Reader::take_values` meets its contract: the values are not open, there is no space behind the v, or there are items.
use Rattle.std.proofs.Common.{arith}
use mathlib.Core.Path.{refl}
use Rattle.answer_lines.specs.Lines.{line_after}
use Rattle.answer_lines.proofs.OneLine.{values_late, values_open}
use Rattle.answer_lines.proofs.LineKinds.{values_no_space, values_items}
use Rattle.answer_lines.proofs.reader.Reader.take_values.Goals as goal

pub returns-in_default-clause-told : goal.returns-in_default-clause-told
returns-in_default-clause-told c = λ fault. values_late fault _ _ _ _ _ c.in_default.not-Open _

pub returns-in_default-bytes-clause-told : goal.returns-in_default-bytes-clause-told
unfolding line_after
returns-in_default-bytes-clause-told c =
    λ fault. values_open fault _ _ _ _ _ c.in-Open.is _ (values_no_space _ (λ some e. omega arith)) _ _ _ (λ ls held. refl)

pub returns-in_default-bytes-2-clause-told : goal.returns-in_default-bytes-2-clause-told
unfolding line_after
returns-in_default-bytes-2-clause-told c =
    λ fault. values_open fault _ _ _ _ _ c.in-Open.is _ (values_no_space _ (λ some e. omega arith)) _ _ _ (λ ls held. refl)

pub returns-in-32-clause-told : goal.returns-in-32-clause-told
returns-in-32-clause-told c =
    λ fault.
    values_open fault _ _ _ _ _ c.in-Open.is _ (values_items _ (omega arith) (omega arith)) _ _ _ (λ ls held. c.take_items.ensures.told fault ls held)
