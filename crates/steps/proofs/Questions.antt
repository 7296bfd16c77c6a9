-- What reading a record under a read book comes to: its term, or the refusal of its fault; and that the term stands in the record's first
-- bytes alone. Assumes nothing.
use Prim.Native.Nat.{ℕ, ◌*◌, ◌-◌}
use mathlib.Core.List.{List}
use mathlib.Core.Path.{◌≡◌, sym, ap, subst, ◌∙◌}
use native.Mathlib.Omega.{arith}
use lib.ListN.{length, take}
use lib.Seq.{take-length}
use Rattle.std.specs.Prelude.{Err}
use Rattle.reply.specs.Reply.{given, refused, told_as}
use Rattle.reply.specs.Refusals.{numbered}
use Rattle.term.specs.Term.{Term, size}
use Rattle.term.specs.Prefix.{prefix}
use Rattle.term.specs.At.{At}
use Rattle.term.proofs.At.{at_end_lem}
use Rattle.term.proofs.PrefixAt.{at_prefix, at_over, prefix_at}
use Rattle.record.specs.Record.{fault_refusal, refusal_of, record_term, read_record}
use Rattle.book.specs.Meaning.{arities_of, book_at}
use Rattle.record.specs.Meaning.{record_meaning}
use Rattle.book.specs.declared.Book.{Book as Places}
use Rattle.record.specs.declared.RecordFault.{RecordFault}

module _ (bytes : List ℕ) (places : Places) (text : List ℕ) where
  abbrev Declared : List ℕ
  Declared = take places.symbols places.arities

  pub record_faulty :
      (fault : RecordFault) → record_meaning text Declared (Err fault) ≡ record_term Declared text →
      read_record (book_at bytes places).arities text ≡ refused (numbered (fault_refusal fault))
  unfolding read_record book_at arities_of told_as refusal_of record_meaning
  record_faulty fault means = ap (told_as refusal_of) (sym means)

  pub record_whole : (t : Term) → record_term Declared text ≡ given t → read_record (book_at bytes places).arities text ≡ given t
  unfolding read_record book_at arities_of told_as
  record_whole t is = ap (told_as refusal_of) is

-- A term stands in any bytes that begin as those that it stands in.
pub at_beginning : {bytes arities : List ℕ} {t : Term} {e : ℕ} (l : List ℕ) → At bytes arities 0 t e → take e l ≡ take e bytes → At (take e l) arities 0 t e
at_beginning {bytes} {arities} {t} {e} l h p =
    let long : e ≡ 2 * size t = omega (arith, at_end_lem h) in
    let same : e - 0 ≡ e = omega arith in
    let its : take e l ≡ prefix t = p ∙ ap (λ (n : ℕ). take n bytes) (sym same) ∙ at_prefix h in
    subst (λ (n : ℕ). At (take e l) arities 0 t n) (omega arith)
    (prefix_at t 0 (at_over h) (ap (take (length (prefix t))) its ∙ take-length (prefix t)))
