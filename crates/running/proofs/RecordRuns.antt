-- A record is copied into a working buffer and stands there, and the term that a run reached is laid into the lent buffer with its end
-- record. Assumes nothing.
use Prim.Native.Nat.{ℕ, suc, ◌+◌, ◌-◌, ◌<◌, ◌≤◌}
use mathlib.Core.List.{List, [], ◌∷◌, ◌++◌, append_assoc}
use mathlib.Core.Path.{◌≡◌, sym, ap, ◌∙◌}
use native.Mathlib.Numerals.{add-one}
use native.Mathlib.Omega.{arith}
use lib.ListN.{length, get_or, take, drop, set, length-append}
use lib.Seq.{drop-cons, set_at, take-take}
use Rattle.std.specs.Prelude.{Ok}
use Rattle.reply.specs.Reply.{Reply, given, ◌>>=◌}
use Rattle.reply.specs.Replied.{replied_as}
use Rattle.reply.specs.Lent.{overlaid, laid}
use Rattle.term.specs.Term.{Term}
use Rattle.term.specs.Prefix.{prefix}
use Rattle.term.specs.At.{At}
use Rattle.term.specs.Copied.{copied}
use Rattle.term.proofs.At.{at_end_lem, at_within}
use Rattle.term.proofs.PrefixAt.{prefix_length, at_prefix}
use Rattle.term.proofs.Copied.{copied_whole}
use Rattle.book.specs.Book.{Rule}
use Rattle.record.specs.Record.{record_bytes}
use Rattle.steps.specs.Run.{Ran, run_from, ran_bytes}
use Rattle.stepping.specs.Stepped.{outcome_of}
use Rattle.running.specs.RunMeaning.{Told, told_of, told_in_code, run_told, run_meaning, RunsTo}
use Rattle.stepping.specs.declared.Outcome.{Outcome}
use Rattle.steps.proofs.Questions.{at_beginning}
use Rattle.building.proofs.LaidDown.{front_copied}

-- The record's term in a working buffer.
pub term_copied :
    {bytes arities : List ℕ} {t : Term} {n : ℕ} (buffer : List ℕ) → At bytes arities 0 t n → n ≤ length buffer →
    At (take n (overlaid (copied bytes 0 n (length buffer)) buffer)) arities 0 t n
term_copied {bytes} {n = n} buffer h p =
    at_beginning (overlaid (copied bytes 0 n (length buffer)) buffer) h (front_copied bytes buffer n (at_within h) p)

-- The end record behind a text.
end_laid :
    (text out : List ℕ) (n : ℕ) → length text ≡ n → n < length out → set (overlaid text out) n 5 ≡ (text ++ (5 ∷ [])) ++ drop (length (text ++ (5 ∷ []))) out
end_laid text out n p q =
    let behind : drop (length text) out ≡ get_or out (length text) 0 ∷ drop (suc (length text)) out = drop-cons out (length text) 0 (omega arith) in
    let long : length (text ++ (5 ∷ [])) ≡ suc (length text) = length-append text (5 ∷ []) ∙ add-one (length text) in
    ap (λ (l : List ℕ). set (text ++ l) n 5) behind
    ∙ set_at text (get_or out (length text) 0) (drop (suc (length text)) out) 5 n p
    ∙ sym (append_assoc text (5 ∷ []) (drop (suc (length text)) out))
    ∙ ap (λ (m : ℕ). (text ++ (5 ∷ [])) ++ drop m out) (sym long)

-- The term in the first n bytes of a buffer is laid into the lent one.
module _ {arities : List ℕ} {t : Term} (buffer out : List ℕ) (n : ℕ) (h : At (take n buffer) arities 0 t n) (p : n < length out) where
  its_bytes_lem : take n buffer ≡ prefix t
  its_bytes_lem =
      let same : n - 0 ≡ n = omega arith in
      sym (take-take n n buffer (omega arith)) ∙ ap (λ (m : ℕ). take m (take n buffer)) (sym same) ∙ at_prefix h

  text : copied buffer 0 n (length out) ≡ prefix t
  text =
      let same : n - 0 ≡ n = omega arith in
      copied_whole buffer 0 n (length out) (omega arith) ∙ ap (λ (m : ℕ). take m buffer) same ∙ its_bytes_lem

  pub as_many : length (record_bytes t) ≡ n + 1
  unfolding record_bytes
  as_many = length-append (prefix t) (5 ∷ []) ∙ omega (arith, prefix_length t, at_end_lem h)

  pub term_laid : set (overlaid (copied buffer 0 n (length out)) out) n 5 ≡ laid (given (record_bytes t)) out
  unfolding laid record_bytes
  term_laid =
      ap (λ (w : List ℕ). set (overlaid w out) n 5) text
      ∙ end_laid (prefix t) out n (omega (arith, prefix_length t, at_end_lem h)) p

-- So the reply and the lent buffer are the run's.
pub record_run_in :
    {arities : List ℕ} (rules : List Rule) (t : Term) {reached : Term} (budget : ℕ) {steps n : ℕ} {outcome : Outcome} (buffer out : List ℕ) →
    At (take n buffer) arities 0 reached n → n < length out →
    run_from rules budget 0 t ≡ record { outcome = outcome_of outcome; steps = steps; reached = reached } →
    RunsTo (given (run_from rules budget 0 t)) (Ok (record { outcome = outcome; steps = steps; length = n + 1 })) out
    (set (overlaid (copied buffer 0 n (length out)) out) n 5)
unfolding run_meaning replied_as told_in_code run_told told_of ran_bytes ◌>>=◌
record_run_in rules t budget {steps = steps} {n = n} {outcome = outcome} buffer out h p run =
    record {
      replied =
          ap {B = Reply Told} (λ (n : ℕ). given (record { outcome = outcome_of outcome; steps = steps; length = n })) (sym (as_many buffer out n h p))
          ∙ ap {B = Reply Told} (λ (ran : Ran). given (told_of ran)) (sym run);
      written = term_laid buffer out n h p ∙ ap (λ (ran : Ran). laid (given (record_bytes ran.reached)) out) (sym run);
    }
