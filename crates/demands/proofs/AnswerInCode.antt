-- Demand 2 of the running code's `ranks_from_answer`: what the definition keeps to, every call that its contract allows keeps to.
-- Assumes nothing.
use Prim.Native.Nat.{ℕ, ◌<◌}
use mathlib.Core.List.{List, [], ◌∷◌, ◌++◌, head-eq_of_cons-eq, tail-eq_of_cons-eq}
use mathlib.Core.Logic.Iff
use mathlib.Core.Logic.{◌↔◌}
use mathlib.Core.Path.{◌≡◌, refl, sym, ap, ap₂, subst, ◌∙◌}
use native.Mathlib.Omega.{arith}
use lib.ListN.{length, drop}
use Rattle.reply.specs.Reply.{Refusal, Reply, given, refused, ◌>>=◌, ◌at◌}
use Rattle.reply.specs.Lent.{laid}
use Rattle.reply.proofs.Given.{given_not_refused, bind_given}
use Rattle.reply.proofs.Every.{every_member}
use Rattle.term.specs.Tables.{rank_bits}
use Rattle.book.specs.Book.{Book, symbols}
use Rattle.book.specs.Reading.{read_book}
use Rattle.clauses.specs.Blocks.{«V»}
use Rattle.answer.specs.Ranks.{ranks_from_answer}
use Rattle.answer.proofs.PaddedRanks.{length_ranks_of}
use Rattle.printed_answer.specs.Decided.{spelled, Decided}
use Rattle.printed_answer.specs.Usual.{usual_answer}
use Rattle.printed_answer.proofs.Decided.{answers_decided}
use Rattle.printed_answer.proofs.UsualBytes.{usual_bytes}
use Rattle.demands.specs.EntryPoints.{Bytes, answer, buffer_after, ranks_of_an_answer}
use Rattle.demands.specs.Demand2.{rank_bits_of, SatisfiableExactlyIfCleared, UsualAnswersAreAccepted}
use Rattle.demands.specs.InCode.{InCode, AsDefined}
use Rattle.demands.specs.AnswerInCode.{RanksLaid, AnswersInCode}
use Rattle.demands.proofs.Demand2.{demand2, ranks_precede}

-- The same decision, told by another reply that refuses alike and accepts the same ranks.
module _
    {A B : Type 0} (book : Book) (text : List ℕ) (room : ℕ) (reply : Reply A) (reply' : Reply B) (Accepts Accepts' : List ℕ → Type 0)
    (refuse : (r : Refusal) → (reply' ≡ refused r) ↔ (reply ≡ refused r)) (accept : (ranks : List ℕ) → Accepts' ranks ↔ Accepts ranks)
    (gives : (b : B) → reply' ≡ given b → (a : A) × (reply ≡ given a))
  where
    some_refused : (number : ℕ) → ((p : ℕ) × (reply' ≡ refused (number at p))) ↔ ((p : ℕ) × (reply ≡ refused (number at p)))
    some_refused number = (
      λ (p, e). (p, (refuse (number at p)).0 e),
      λ (p, e). (p, (refuse (number at p)).1 e),
    )

    told_alike : Decided book text room reply Accepts → Decided book text room reply' Accepts'
    told_alike d = record {
      too_long = λ long. (refuse (12 at 0)).1 (d.too_long long);
      malformed = λ short. Iff.trans (some_refused 13) (d.malformed short);
      no_model = λ short. Iff.trans (refuse (14 at 0)) (d.no_model short);
      no_room = λ values answers short low. (refuse (9 at 0)).1 (d.no_room values answers short low);
      decides = λ values answers short fits.
          let so = d.decides values answers short fits in
          record {
            accepts = λ ranks. Iff.trans (accept ranks) (so.accepts ranks);
            refuses_at = λ rule. Iff.trans (refuse (8 at rule)) (so.refuses_at rule);
            refuses = Iff.trans (some_refused 8) so.refuses;
          };
      only_well_formed = λ b e.
          let (a, given_so) = gives b e in
          let (values, answers, short, fits, accepted) = d.only_well_formed a given_so in
          (values, answers, short, fits, (accept (spelled book values)).1 accepted);
    }

-- Lists of one length that begin equal lists are equal.
same_beginning : (l m s t : List ℕ) → length l ≡ length m → l ++ s ≡ m ++ t → l ≡ m
same_beginning [] [] s t n e = refl
same_beginning [] (b ∷ m) s t n e = absurd (omega arith)
same_beginning (a ∷ l) [] s t n e = absurd (omega arith)
same_beginning (a ∷ l) (b ∷ m) s t n e =
    ap₂ (λ (c : ℕ) (k : List ℕ). c ∷ k) (head-eq_of_cons-eq e) (same_beginning l m s t (omega arith) (tail-eq_of_cons-eq e))

counted_refused : (reply : Reply Bytes) (r : Refusal) → (◌>>=◌ reply (λ bs. given (length bs)) ≡ refused r) ↔ (reply ≡ refused r)
unfolding ◌>>=◌
counted_refused (given bs) r = (λ e. absurd (given_not_refused (length bs) r e), λ e. absurd (given_not_refused bs r e))
counted_refused (refused q) r = (λ e. let same : q ≡ r = cc e in ap (λ (x : Refusal). refused x) same, λ e. let same : q ≡ r = cc e in ap (λ (x : Refusal). refused x) same)

module _ (code : InCode ranks_of_an_answer) (as-defined : AsDefined code) where
  module _ (call : code.Call) (bytes text : Bytes) (room : ℕ) (asked : code.asked call ≡ (bytes, text, room)) where
    answered_so : code.answered call ≡ ◌>>=◌ (ranks_from_answer bytes text room) (λ bs. given (length bs))
    unfolding answer
    answered_so = as-defined.answers call ∙ ap (answer ranks_of_an_answer) asked

    -- Ranks that the definition gives: they are counted, and lie in the lent buffer.
    laid_so : (ranks : List ℕ) → ranks_from_answer bytes text room ≡ given ranks → RanksLaid code call ranks
    laid_so ranks ranks-so = record {
      counted = answered_so ∙ (unfold ◌>>=◌ in ap (λ (x : Reply Bytes). ◌>>=◌ x (λ bs. given (length bs))) ranks-so);
      holds = holds_so;
    }
      where
        holds_so : code.after call ≡ laid (given ranks) (code.before call)
        holds_so =
            unfold buffer_after ◌>>=◌ in
            (as-defined.writes call ∙ ap (λ x. buffer_after ranks_of_an_answer x (code.before call)) asked
            ∙ ap (λ (x : Reply Bytes). laid (◌>>=◌ x (λ bs. given bs)) (code.before call)) ranks-so)

    given_so : (count : ℕ) → code.answered call ≡ given count → (ranks : List ℕ) × (ranks_from_answer bytes text room ≡ given ranks)
    given_so count e =
        let (ranks, ranks-so, counted) = bind_given _ _ _ (sym answered_so ∙ e) in
        (ranks, ranks-so)

    accepted_so : (ranks : List ℕ) → RanksLaid code call ranks → ranks_from_answer bytes text room ≡ given ranks
    accepted_so ranks l =
        let (given-ranks, ranks-so) = given_so (length ranks) l.counted in
        let there = laid_so given-ranks ranks-so in
        let long : length given-ranks ≡ length ranks = cc (sym there.counted ∙ l.counted) in
        let same : given-ranks ≡ ranks =
        same_beginning given-ranks ranks _ _ long (beginning given-ranks there.holds) in
        ranks-so ∙ ap (λ (rs : List ℕ). given rs) same
      where
        beginning :
            (given-ranks : List ℕ) → code.after call ≡ laid (given given-ranks) (code.before call) →
            given-ranks ++ drop (length given-ranks) (code.before call) ≡ ranks ++ drop (length ranks) (code.before call)
        beginning given-ranks h = unfold laid in (sym h ∙ l.holds)

    decided_so : (book : Book) → read_book bytes ≡ given book → Decided book text room (code.answered call) (RanksLaid code call)
    decided_so book read =
        told_alike book text room (ranks_from_answer bytes text room) (code.answered call) (λ ranks. ranks_from_answer bytes text room ≡ given ranks)
        (RanksLaid code call)
        (λ r. subst (λ (x : Reply ℕ). (x ≡ refused r) ↔ (ranks_from_answer bytes text room ≡ refused r)) (sym answered_so) (counted_refused _ r))
        (λ ranks. (accepted_so ranks, laid_so ranks))
        given_so
        (answers_decided bytes text room book read)

  pub answers : AnswersInCode code
  unfolding SatisfiableExactlyIfCleared UsualAnswersAreAccepted rank_bits_of
  answers = record {
    decided = λ call bytes text room book asked read. decided_so call bytes text room asked book read;
    only_if_cleared = λ call bytes text room count book asked read e.
        let d = decided_so call bytes text room asked book read in
        let (values, answers-so, short, fits, accepted) = d.only_well_formed count e in
        ranks_precede book (spelled book values) (((d.decides values answers-so short fits).accepts (spelled book values)).0 accepted).1;
    if_cleared = λ bytes book read p.
        let (α, found) = (demand2.satisfiable bytes book read).1 p in (
          usual_answer («V» book) α,
          λ b m. every_member (λ n. n < 256) m (usual_bytes («V» book) α),
          λ call room asked fits.
              (laid_so call bytes (usual_answer («V» book) α) room asked (spelled book α) (demand2.usual_answers bytes book α room read found fits)).counted
              ∙ ap (λ (n : ℕ). given n) (length_ranks_of (symbols book) (rank_bits (symbols book)) α),
        );
  }
