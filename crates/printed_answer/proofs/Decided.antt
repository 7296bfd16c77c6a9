-- What comes of an answer is as it is said: the questions are asked in the order of the table, reading settles the first ones, and behind it
-- the rank check is all that is left. Assumes nothing.
use Prim.Native.Nat.{ℕ, ◌+◌, ◌*◌, ◌<◌, ◌≤◌}
use mathlib.Core.List.{List}
use mathlib.Core.Logic.Iff
use mathlib.Core.Logic.{◌↔◌, ⊎_elim}
use mathlib.Core.Path.{◌≡◌, refl, sym, ap, subst, ◌∙◌}
use native.Mathlib.Omega.{arith}
use lib.Dec.{leb, le→leb, leb→le}
use lib.ListN.{length}
use borrow.Author.Tests.{lt-leb}
use Rattle.reply.specs.Reply.{Refusal, Reply, given, refused, unless, ◌>>◌, ◌>>=◌, ◌at◌}
use Rattle.reply.proofs.Given.{given_not_refused, bind_given, given_bind, then_given, unless_given, given_unless, unless_refused_exactly}
use Rattle.term.specs.Tables.{rank_bits}
use Rattle.book.specs.Book.{Book, symbols}
use Rattle.book.specs.Reading.{read_book}
use Rattle.order.specs.Precedence.{Above}
use Rattle.order.specs.Exceeds.{Exceeds}
use Rattle.order.specs.Test.{exceeds}
use Rattle.order.specs.Clearing.{Clears, all_decrease}
use Rattle.order.proofs.Checked as Lowest
use Rattle.order.proofs.Checked.{all_decrease_exactly, refused_at_the_lowest}
use Rattle.order.proofs.Decides.{exceeds_decides}
use Rattle.clauses.specs.Cnf.{Literal, Assignment}
use Rattle.clauses.specs.Blocks.{«V»}
use Rattle.answer_lines.specs.Lines.{read_answer}
use Rattle.answer_lines.specs.Values.{valued}
use Rattle.answer.specs.Ranks.{ranks_checked, answered, ranks_from_answer}
use Rattle.answer.proofs.RanksAgree.{ranks_agree}
use Rattle.printed_answer.specs.NoModel.{SaysNoModel}
use Rattle.printed_answer.specs.Decided.{Answers, spelled, LowestNotDecreasing, RanksDecided, Decided}
use Rattle.printed_answer.proofs.Taken.{well_formed_read}
use Rattle.printed_answer.proofs.LinesBack.{read_well_formed}
use Rattle.printed_answer.proofs.NoModel.{no_model_exactly, malformed_exactly}

-- The rank check, and the ranks behind it.
module _ (book : Book) (values : Assignment) where
  abbrev Check : Reply (Unit {0})
  Check = all_decrease (exceeds (spelled book values)) 0 book.rules

  abbrev Behind : Reply (List ℕ)
  Behind = ◌>>◌ Check (given (spelled book values))

  clears_exactly : (Check ≡ given tt) ↔ Clears (Above (spelled book values)) book.rules
  clears_exactly = all_decrease_exactly (Exceeds (Above (spelled book values))) (exceeds (spelled book values)) (exceeds_decides (spelled book values)) 0 book.rules

  lowest_exactly : (rule : ℕ) → (Check ≡ refused (8 at rule)) ↔ LowestNotDecreasing (Above (spelled book values)) book.rules rule
  lowest_exactly rule = (λ e. told (exactly.0 e), λ l. exactly.1 (untold l))
    where
      exactly :
          (Check ≡ refused (8 at rule)) ↔ Lowest.LowestNotDecreasing (Exceeds (Above (spelled book values))) 0 book.rules (8 at rule)
      exactly =
          refused_at_the_lowest (Exceeds (Above (spelled book values))) (exceeds (spelled book values)) (exceeds_decides (spelled book values)) 0
          book.rules (8 at rule)

      told :
          Lowest.LowestNotDecreasing (Exceeds (Above (spelled book values))) 0 book.rules (8 at rule) →
          LowestNotDecreasing (Above (spelled book values)) book.rules rule
      told l = record {
        before = l.before;
        rule = l.rule;
        behind = l.behind;
        parts = l.parts;
        numbered = ap (λ (r : Refusal). r.place) l.is8 ∙ zero_plus (length l.before);
        earlier = l.earlier;
        fails = l.fails;
      }
        where
          zero_plus : (n : ℕ) → 0 + n ≡ n
          zero_plus n = omega arith

      untold :
          LowestNotDecreasing (Above (spelled book values)) book.rules rule →
          Lowest.LowestNotDecreasing (Exceeds (Above (spelled book values))) 0 book.rules (8 at rule)
      untold l = record {
        before = l.before;
        rule = l.rule;
        behind = l.behind;
        parts = l.parts;
        is8 = ap (λ (place : ℕ). 8 at place) (l.numbered ∙ zero_plus (length l.before));
        earlier = l.earlier;
        fails = l.fails;
      }
        where
          zero_plus : (n : ℕ) → n ≡ 0 + n
          zero_plus n = omega arith

  given_behind : Check ≡ given tt → Behind ≡ given (spelled book values)
  unfolding ◌>>◌
  given_behind check = ap (λ (x : Reply (Unit {0})). ◌>>◌ x (given (spelled book values))) check

  accepts_exactly : (ranks : List ℕ) → (Behind ≡ given ranks) ↔ ((ranks ≡ spelled book values) × Clears (Above ranks) book.rules)
  accepts_exactly ranks = (forth, back)
    where
      forth : Behind ≡ given ranks → (ranks ≡ spelled book values) × Clears (Above ranks) book.rules
      forth e =
          let ((u, check), same) = then_given _ _ _ e in
          let so : ranks ≡ spelled book values = cc same in
          (so, subst (λ (rs : List ℕ). Clears (Above rs) book.rules) (sym so) (clears_exactly.0 (check_given u check)))
        where
          check_given : (u : Unit {0}) → Check ≡ given u → Check ≡ given tt
          check_given u e = e

      back : (ranks ≡ spelled book values) × Clears (Above ranks) book.rules → Behind ≡ given ranks
      back (so, clears) =
          let check : Check ≡ given tt = clears_exactly.1 (subst (λ (rs : List ℕ). Clears (Above rs) book.rules) so clears) in
          given_behind check ∙ ap (λ (rs : List ℕ). given rs) (sym so)

  refused_exactly : (r : Refusal) → (Behind ≡ refused r) ↔ (Check ≡ refused r)
  refused_exactly r = go Check
    where
      go : (check : Reply (Unit {0})) → (◌>>◌ check (given (spelled book values)) ≡ refused r) ↔ (check ≡ refused r)
      go (given u) = (
        λ e. absurd (given_not_refused (spelled book values) r (unfold ◌>>◌ in e)),
        λ e. absurd (given_not_refused u r e),
      )
      go (refused q) = (λ e. let same : q ≡ r = unfold ◌>>◌ in cc e in ap (λ (x : Refusal). refused x) same, λ e. unfold ◌>>◌ in cc e)

  -- Whatever reply is the rank check's.
  pub ranks_decided :
      (reply : Reply (List ℕ)) → reply ≡ Behind → RanksDecided book values reply (λ ranks. reply ≡ given ranks)
  ranks_decided reply e = record {
    accepts = λ ranks. subst (λ (x : Reply (List ℕ)). (x ≡ given ranks) ↔ ((ranks ≡ spelled book values) × Clears (Above ranks) book.rules)) (sym e) (accepts_exactly ranks);
    refuses_at = λ rule.
        subst (λ (x : Reply (List ℕ)). (x ≡ refused (8 at rule)) ↔ LowestNotDecreasing (Above (spelled book values)) book.rules rule) (sym e)
        (Iff.trans (refused_exactly (8 at rule)) (lowest_exactly rule));
    refuses =
        subst (λ (x : Reply (List ℕ)). ((rule : ℕ) × (x ≡ refused (8 at rule))) ↔ (Clears (Above (spelled book values)) book.rules → ⊥)) (sym e)
        (fails, λ not-clear. found not-clear Check refl);
  }
    where
      fails : (rule : ℕ) × (Behind ≡ refused (8 at rule)) → Clears (Above (spelled book values)) book.rules → ⊥
      fails (rule, k) clears = given_not_refused tt (8 at rule) (sym (clears_exactly.1 clears) ∙ (refused_exactly (8 at rule)).0 k)

      found :
          (Clears (Above (spelled book values)) book.rules → ⊥) → (check : Reply (Unit {0})) → Check ≡ check →
          (rule : ℕ) × (Behind ≡ refused (8 at rule))
      found not-clear (given u) k = absurd (not-clear (clears_exactly.0 k))
      found not-clear (refused r) k =
          let l =
          (refused_at_the_lowest (Exceeds (Above (spelled book values))) (exceeds (spelled book values)) (exceeds_decides (spelled book values)) 0
          book.rules r).0 k in
          (0 + length l.before, (refused_exactly _).1 (k ∙ ap (λ (x : Refusal). refused x) l.is8))

-- The rank check refuses by 9 or 8.
checked_refused : (book : Book) (values : Assignment) (room : ℕ) (r : Refusal) → ranks_checked book values room ≡ refused r → (8 ≤ r.number) × (r.number ≤ 9)
unfolding ranks_checked
checked_refused book values room r e =
    ⊎_elim (λ h. short h.1) (λ h. lowest ((refused_exactly book values r).0 h.1))
    ((unless_refused_exactly (leb (symbols book) room) (9 at 0) r (Behind book values)).0 e)
  where
    short : 9 at 0 ≡ r → (8 ≤ r.number) × (r.number ≤ 9)
    short same = subst (λ (q : Refusal). (8 ≤ q.number) × (q.number ≤ 9)) same (omega arith, omega arith)

    lowest : Check book values ≡ refused r → (8 ≤ r.number) × (r.number ≤ 9)
    lowest k =
        let l =
        (refused_at_the_lowest (Exceeds (Above (spelled book values))) (exceeds (spelled book values)) (exceeds_decides (spelled book values)) 0
        book.rules r).0 k in
        subst (λ (q : Refusal). (8 ≤ q.number) × (q.number ≤ 9)) (sym l.is8) (omega arith, omega arith)

module _ (book : Book) (text : List ℕ) (room : ℕ) where
  abbrev Read : Reply (List Literal)
  Read = read_answer («V» book) (symbols book * rank_bits (symbols book)) text

  abbrev Ranked : Reply (List ℕ)
  Ranked = ◌>>=◌ Read (λ literals. ranks_checked book (valued literals) room)

  too_long_lem : 65536 < length text → answered book text room ≡ refused (12 at 0)
  unfolding answered unless ◌>>◌
  too_long_lem long = rw (lt-leb _ _ long)

  short_enough : length text ≤ 65536 → answered book text room ≡ Ranked
  unfolding answered
  short_enough short = given_unless _ _ _ (le→leb _ _ short)

  -- A refusal of the reader is the reply, and the reply by any number but 9 and 8 is the reader's.
  reader_refuses : (r : Refusal) → Read ≡ refused r → Ranked ≡ refused r
  unfolding ◌>>=◌
  reader_refuses r e = ap (λ (x : Reply (List Literal)). ◌>>=◌ x (λ literals. ranks_checked book (valued literals) room)) e

  refused_by_reader : (r : Refusal) → 9 < r.number → Ranked ≡ refused r → Read ≡ refused r
  refused_by_reader r above e = go Read refl e
    where
      go : (read : Reply (List Literal)) → Read ≡ read → ◌>>=◌ read (λ literals. ranks_checked book (valued literals) room) ≡ refused r → Read ≡ refused r
      go (given literals) so k =
          let within : (8 ≤ r.number) × (r.number ≤ 9) = checked_refused book (valued literals) room r (unfold ◌>>=◌ in k) in
          absurd (omega (arith, within.1))
      go (refused q) so k = so ∙ (let same : q ≡ r = unfold ◌>>=◌ in cc k in ap (λ (x : Refusal). refused x) same)

  module _ (values : Assignment) (w : Answers book text values) where
    read_so : (literals : List Literal) × (Read ≡ given literals) × (spelled book (valued literals) ≡ spelled book values)
    read_so =
        let (literals, read, told) = well_formed_read («V» book) (symbols book * rank_bits (symbols book)) values text w in
        (literals, read, ranks_agree (symbols book) (rank_bits (symbols book)) (valued literals) values told)

    no_room_lem : room < symbols book → Ranked ≡ refused (9 at 0)
    no_room_lem low =
        let (literals, read, same) = read_so in
        given_bind Read _ literals read ∙ (unfold ranks_checked unless ◌>>◌ in rw (lt-leb _ _ low) refl)

    checked_so : symbols book ≤ room → Ranked ≡ Behind book values
    checked_so fits =
        let (literals, read, same) = read_so in
        given_bind Read _ literals read ∙ room_enough literals
        ∙ ap (λ (ranks : List ℕ). ◌>>◌ (all_decrease (exceeds ranks) 0 book.rules) (given ranks)) same
      where
        room_enough : (literals : List Literal) → ranks_checked book (valued literals) room ≡ Behind book (valued literals)
        room_enough literals = unfold ranks_checked in given_unless _ _ _ (le→leb _ _ fits)

  only_well_formed_lem :
      (ranks : List ℕ) → answered book text room ≡ given ranks →
      (values : Assignment) × Answers book text values × (length text ≤ 65536) × (symbols book ≤ room) × (answered book text room ≡ given (spelled book values))
  unfolding answered ranks_checked
  only_well_formed_lem ranks e =
      let (short, e₁) = unless_given _ _ _ _ e in
      let (literals, read, e₂) = bind_given _ _ _ e₁ in
      let (fits, e₃) = unless_given _ _ _ _ e₂ in
      let (so, clears) = (accepts_exactly book (valued literals) ranks).0 e₃ in (
        valued literals,
        read_well_formed («V» book) (symbols book * rank_bits (symbols book)) text literals (valued literals) read (λ v low high. refl),
        leb→le _ _ short,
        leb→le _ _ fits,
        e ∙ ap (λ (rs : List ℕ). given rs) so,
      )

  decided : Decided book text room (answered book text room) (λ ranks. answered book text room ≡ given ranks)
  decided = record {
    too_long = too_long_lem;
    malformed = λ short. subst (λ (x : Reply (List ℕ)). ((place : ℕ) × (x ≡ refused (13 at place))) ↔ (((values : Assignment) → Answers book text values → ⊥) × (SaysNoModel text → ⊥)))
        (sym (short_enough short)) (Iff.trans (
          λ (place, e). (place, refused_by_reader (13 at place) (omega arith) e),
          λ (place, e). (place, reader_refuses (13 at place) e),
        ) (malformed_exactly («V» book) (symbols book * rank_bits (symbols book)) text));
    no_model = λ short. subst (λ (x : Reply (List ℕ)). (x ≡ refused (14 at 0)) ↔ SaysNoModel text) (sym (short_enough short))
        (Iff.trans (refused_by_reader (14 at 0) (omega arith), reader_refuses (14 at 0)) (no_model_exactly («V» book) (symbols book * rank_bits (symbols book)) text));
    no_room = λ values w short low. short_enough short ∙ no_room_lem values w low;
    decides = λ values w short fits. ranks_decided book values (answered book text room) (short_enough short ∙ checked_so values w fits);
    only_well_formed = only_well_formed_lem;
  }

pub answers_decided :
    (bytes text : List ℕ) (room : ℕ) (book : Book) → read_book bytes ≡ given book →
    Decided book text room (ranks_from_answer bytes text room) (λ ranks. ranks_from_answer bytes text room ≡ given ranks)
answers_decided bytes text room book read =
    subst (λ (x : Reply (List ℕ)). Decided book text room x (λ ranks. x ≡ given ranks)) (sym of_read) (decided book text room)
  where
    of_read : ranks_from_answer bytes text room ≡ answered book text room
    of_read = unfold ranks_from_answer in given_bind (read_book bytes) _ book read
