-- The part that is handed out lies within the record; a refusal hands out none. Assumes nothing.
use Prim.Native.Nat.{ℕ, ◌+◌, ◌-◌, ◌≤◌}
use mathlib.Core.List.{List, [], ◌∷◌}
use mathlib.Core.Path.{◌≡◌, sym, ap, ◌∙◌}
use native.Mathlib.Omega.{arith}
use lib.ListN.{length, take, drop, length-append}
use Rattle.std.specs.Prelude.{Ok, Err}
use Rattle.reply.specs.Reply.{Reply, given, ◌>>=◌}
use Rattle.reply.specs.Replied.{replied_as}
use Rattle.reply.specs.declared.Refusal.{Refusal as Named}
use Rattle.reply.proofs.Given.{bind_given}
use Rattle.term.specs.Prefix.{prefix}
use Rattle.term.proofs.PrefixAt.{prefix_length}
use Rattle.book.specs.Reading.{read_book}
use Rattle.record.specs.Record.{record_bytes, read_record}
use Rattle.record.proofs.ReadRecord.{record_read}
use Rattle.steps.specs.Argument.{Part, argument_of, argument}
use Rattle.asking.specs.Asked.{part_of, argument_meaning, handed_out, part_bytes}
use Rattle.asking.specs.declared.Found.{Found}
use Rattle.asking.proofs.ArgumentPart.{within_term}

pub part_inside : (book text : List ℕ) (i : ℕ) (part : Part) → argument book text i ≡ given part → part.start + part.length ≤ length text
unfolding argument record_bytes
part_inside book text i part e =
    let (b, read, e₁) = bind_given (read_book book) (λ b. ◌>>=◌ (read_record b.arities text) (λ t. argument_of t i)) part e in
    let (t, its, e₂) = bind_given (read_record b.arities text) (λ t. argument_of t i) part e₁ in
    let long : length text ≡ length (prefix t) + 1 = ap length (record_read b.arities text t its).3 ∙ length-append (prefix t) (5 ∷ []) in
    omega (arith, within_term t i part e₂, long, prefix_length t)

-- The part that was found, by its answer.
module _ (book text : List ℕ) (i : ℕ) (found : Found) (means : argument_meaning (Ok found) ≡ argument book text i) where
  pub found_given : argument book text i ≡ given (part_of found)
  unfolding argument_meaning replied_as
  found_given = sym means

  pub found_inside : found.start + found.length ≤ length text
  unfolding part_of
  found_inside = part_inside book text i _ found_given

  pub found_bytes : take (found.start + found.length - found.start) (drop found.start text) ≡ part_bytes (handed_out (argument book text i)) text
  unfolding part_of handed_out part_bytes
  found_bytes =
      let long : found.start + found.length - found.start ≡ found.length = omega arith in
      ap (λ (n : ℕ). take n (drop found.start text)) long ∙ ap (λ (r : Reply Part). part_bytes (handed_out r) text) (sym found_given)

  pub found_start : found.start ≡ (handed_out (argument book text i)).start
  unfolding part_of handed_out
  found_start = ap (λ (r : Reply Part). (handed_out r).start) (sym found_given)

pub refused_part :
    (book text : List ℕ) (i : ℕ) (why : Named) → argument_meaning (Err why) ≡ argument book text i →
    handed_out (argument book text i) ≡ record { start = 0; length = 0 }
unfolding argument_meaning replied_as handed_out
refused_part book text i why means = ap handed_out (sym means)
