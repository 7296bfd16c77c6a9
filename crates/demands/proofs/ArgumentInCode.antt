-- What the running code's `argument` hands out is the part that its `argument_reply` tells of, and nothing where that refuses: both follow
-- the definition. Assumes nothing.
use Prim.Native.Nat.{ℕ, ◌+◌}
use mathlib.Core.Path.{◌≡◌, sym, ap, subst, ◌∙◌}
use Rattle.reply.specs.Reply.{Reply, given, refused}
use Rattle.steps.specs.Argument.{Part, argument}
use Rattle.asking.specs.Asked.{handed_out, part_bytes}
use Rattle.demands.specs.EntryPoints.{Bytes, answer, an_argument}
use Rattle.demands.specs.InCode.{InCode, AsDefined}
use Rattle.demands.specs.ArgumentInCode.{ArgumentInCode}
use Rattle.demands.specs.Functions.{argument_hands_out}
use Rattle.demands.proofs.AsDefined.{itself}
use Rattle.demands.proofs.Ends.{argument_ends}

-- What `argument` hands out, by what the definition replies.
module _ (got : argument_hands_out.Call) (bytes record' : Bytes) (i : ℕ) (asked : argument_hands_out.asked got ≡ (bytes, record', i)) (reply : Reply Part)
    (so : argument bytes record' i ≡ reply) where
  part_so : argument_hands_out.part got ≡ part_bytes (handed_out reply) record'
  unfolding argument_hands_out
  part_so =
      got.ensured.0
      ∙ ap (λ (x : an_argument.Asked). part_bytes (handed_out (argument x.0 x.1 x.2)) x.1) asked
      ∙ ap (λ (x : Reply Part). part_bytes (handed_out x) record') so

  start_so : argument_hands_out.StartsAt got (handed_out reply).start
  unfolding argument_hands_out
  start_so = (
    got.ensured.1.0,
    got.ensured.1.1
        ∙ ap (λ (x : an_argument.Asked). got.arguments.1.0.ref_ptr.1 + (handed_out (argument x.0 x.1 x.2)).start) asked
        ∙ ap (λ (x : Reply Part). got.arguments.1.0.ref_ptr.1 + (handed_out x).start) so,
  )

-- What is handed over settles the part and its start.
abbrev part_by : argument_hands_out.Handed → Bytes
unfolding argument_hands_out
part_by h = part_bytes (handed_out (argument h.1.0.now h.1.1.0.now h.1.1.1.0)) h.1.1.0.now

abbrev start_by : argument_hands_out.Handed → ℕ
unfolding argument_hands_out
start_by h = h.1.1.0.ref_ptr.1 + (handed_out (argument h.1.0.now h.1.1.0.now h.1.1.1.0)).start

settled_so :
    (got got' : argument_hands_out.Call) → argument_hands_out.hands got ≡ argument_hands_out.hands got' →
    (argument_hands_out.part got ≡ argument_hands_out.part got') × ((behind : ℕ) → argument_hands_out.StartsAt got behind → argument_hands_out.StartsAt got' behind)
unfolding argument_hands_out
settled_so got got' same = (
  got.ensured.0 ∙ ap part_by same ∙ sym got'.ensured.0,
  λ behind starts. (
    got'.ensured.1.0,
    got'.ensured.1.1
        ∙ subst (λ (h : argument_hands_out.Handed). start_by h ≡ h.1.1.0.ref_ptr.1 + behind) same (sym got.ensured.1.1 ∙ starts.1),
  ),
)

module _ (code : InCode an_argument) (as-defined : AsDefined code) where
  replied_so :
      (told : code.Call) (bytes record' : Bytes) (i : ℕ) → code.asked told ≡ (bytes, record', i) → code.answered told ≡ argument bytes record' i
  unfolding answer
  replied_so told bytes record' i asked =
      as-defined.answers told ∙ ap (answer an_argument) asked ∙ sym (itself (argument bytes record' i))

  pub question : ArgumentInCode code argument_hands_out
  unfolding handed_out part_bytes
  question = record {
    takes = λ handed. unfold argument_hands_out in tt;
    ends = argument_ends;
    hands_out = λ told got bytes record' i part asked asked' e.
        let so : argument bytes record' i ≡ given part = sym (replied_so told bytes record' i asked) ∙ e in
        (part_so got bytes record' i asked' (given part) so, start_so got bytes record' i asked' (given part) so);
    refuses = λ told got bytes record' i r asked asked' e.
        part_so got bytes record' i asked' (refused r) (sym (replied_so told bytes record' i asked) ∙ e);
    settled = settled_so;
  }
