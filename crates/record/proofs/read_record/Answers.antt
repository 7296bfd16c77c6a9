-- A faulty term is a faulty record, and behind a whole one the end is what is left.
use Prim.Native.Nat.{ℕ}
use mathlib.Core.List.{List}
use mathlib.Core.Path.{◌≡◌, sym, ap, ◌∙◌}
use Rattle.std.proofs.lemmas.Result.{err_from_is_err_and}
use Rattle.std.specs.Prelude.{Result, Err}
use Rattle.record.specs.Record.{record_term}
use Rattle.record.specs.Meaning.{record_meaning, record_verdict}
use Rattle.record.specs.declared.RecordFault.{RecordFault}
use Rattle.record.proofs.Stands.{record_means}
use Rattle.record.proofs.Going.{fault_answers, end_faulty, end_whole}
use Rattle.record.proofs.read_record.Goals as goal

-- An answer that is the verdict of what was read also means it.
meant :
    (bytes arities : List ℕ) (r : Result ℕ RecordFault) → r ≡ record_verdict (record_term arities bytes) →
    record { settled : r ≡ record_verdict (record_term arities bytes); means : record_meaning bytes arities r ≡ record_term arities bytes }
meant bytes arities r e = record { settled = e; means = ap (record_meaning bytes arities) e ∙ record_means arities bytes }

pub returns-in_err-term : goal.returns-in_err-term
returns-in_err-term c =
    let p = err_from_is_err_and c.from_residual.result c.from_residual.ensures.1 in
    meant _ _ _ (p.1 ∙ ap Err p.2 ∙ fault_answers _ _ _ (sym c.in_err-term.ensures))

pub returns-in_err-end_at : goal.returns-in_err-end_at
returns-in_err-end_at c =
    let p = err_from_is_err_and c.from_residual-in_err-end_at.result c.from_residual-in_err-end_at.ensures.1 in
    meant _ _ _ (p.1 ∙ ap Err p.2 ∙ end_faulty _ _ _ (sym c.in_ok-term.ensures) _ (sym c.in_err-end_at.ensures))

pub returns : goal.returns
returns c = meant _ _ _ (end_whole _ _ _ (sym c.in_ok-term.ensures) _ (sym c.in_ok-end_at.ensures))
