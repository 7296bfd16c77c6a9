-- "Afterwards: .. answer 12, 13, 14, 9, 8": what each refusal and what accepted ranks mean, and what the lent buffer holds then.
-- Assumes nothing.
use Prim.Native.Nat.{ℕ, ◌-◌, ◌*◌, ◌≤◌, ◌<◌}
use mathlib.Core.List.{List, ◌++◌}
use mathlib.Core.Path.{◌≡◌, refl, sym, ap, ap₂, ◌∙◌}
use native.Mathlib.Nat.{le_trans, mul-le-mul}
use native.Mathlib.Omega.{arith}
use lib.ListN.{length, take, drop, replicate}
use lib.Seq.{take_at}
use borrow.Author.Tests.{le-leb, lt-leb}
use Rattle.std.specs.Prelude.{Bool, Option, Result, Ok, Err}
use Rattle.reply.specs.Reply.{Reply, given, refused, unless, ◌>>◌, ◌>>=◌}
use Rattle.reply.specs.Refusals.{numbered}
use Rattle.reply.specs.declared.Refusal.{Refusal as Named}
use Rattle.reply.specs.declared.Refusal.TheVariants.{ShortBuffer, AnswerTooLong}
use Rattle.reply.specs.Replied.{replied}
use Rattle.reply.specs.Lent.{overlaid, laid, length_of}
use Rattle.reply.proofs.Given.{given_bind}
use Rattle.term.specs.Tables.{rank_bits}
use Rattle.term.proofs.Tables.{rank_bits_least}
use Rattle.book.specs.Book.{Book, symbols}
use Rattle.book.specs.Reading.{read_book}
use Rattle.order.specs.Test.{exceeds}
use Rattle.order.specs.Clearing.{all_decrease}
use Rattle.order.proofs.SameRanks.{all_decrease_same}
use Rattle.clauses.specs.Cnf.{Literal, Assignment}
use Rattle.clauses.specs.Numbering.{ranks_of}
use Rattle.clauses.specs.Blocks.{«V»}
use Rattle.answer_lines.specs.Lines.{read_answer}
use Rattle.answer_lines.specs.Values.{valued}
use Rattle.answer.specs.Ranks.{ranks_checked, answered, ranks_from_answer}
use Rattle.answer_lines.specs.Marks.{table_of, assigned}
use Rattle.answer_lines.specs.AnswerRead.{ReadAs}
use Rattle.answer.specs.PaddedRanks.{padded_ranks}
use Rattle.answer_lines.proofs.Marks.{assigned_valued}
use Rattle.answer.proofs.RanksAgree.{ranks_agree}
use Rattle.answer.proofs.PaddedRanks.{length_ranks_of, same_padded}

-- What the contract asks of an answer and of the lent buffer, for the reply x on paper.
abbrev pub AnsweredAs : Reply (List ℕ) → (buffer : List ℕ) → Result ℕ Named → (after : List ℕ) → Type 0
AnsweredAs x buffer r after = record { means : replied r ≡ length_of x; lays : after ≡ laid x buffer }

as_refused : {x : Reply (List ℕ)} (buffer : List ℕ) (why : Named) → x ≡ refused (numbered why) → AnsweredAs x buffer (Err why) buffer
unfolding length_of laid replied
as_refused buffer why e = rw e (record { means = refl; lays = refl })

as_given :
    {x : Reply (List ℕ)} {ranks : List ℕ} (buffer after : List ℕ) (n : ℕ) → x ≡ given ranks → n ≡ length ranks → after ≡ overlaid ranks buffer →
    AnsweredAs x buffer (Ok n) after
unfolding length_of laid replied
as_given buffer after n e count laid = rw e (record { means = ap (λ (m : ℕ). given m) count; lays = laid })

-- There are at most four bits to a symbol, and at most 64 rank variables.
pub bits_room : (n k : ℕ) → k ≡ rank_bits n → n ≤ 16 → (n ≤ 16) × (k ≤ 4) × (n * k ≤ 64)
bits_room n k e h = let few : k ≤ 4 = rw e ((rank_bits_least n h).1 4 h) in (h, few, mul-le-mul h few)

-- 9 and 8.
abbrev ranks_in : Book → Assignment → List ℕ
ranks_in book α = ranks_of (symbols book) (rank_bits (symbols book)) α

module _ (book : Book) (α : Assignment) (buffer : List ℕ) where
  short : length buffer < symbols book → ranks_checked book α (length buffer) ≡ refused (numbered ShortBuffer)
  unfolding ranks_checked unless ◌>>◌ numbered
  short h = rw (lt-leb _ _ h)

  pub short_buffer : length buffer < symbols book → AnsweredAs (ranks_checked book α (length buffer)) buffer (Err ShortBuffer) buffer
  short_buffer h = as_refused buffer ShortBuffer (short h)

  -- The ranks stand in an array of 16; what is asked of the array is asked of the ranks.
  module _
      (n k : ℕ) (ranks : List ℕ) (count : n ≡ symbols book) (bits : k ≡ rank_bits n) (padded : ranks ≡ padded_ranks n k α)
      (room : n ≤ length buffer)
    where
      as_padded : ranks ≡ ranks_in book α ++ replicate (16 - symbols book) 0
      unfolding padded_ranks
      as_padded = rw (padded, bits, count)

      asked : all_decrease (exceeds ranks) 0 book.rules ≡ all_decrease (exceeds (ranks_in book α)) 0 book.rules
      asked =
          ap (λ (l : List ℕ). all_decrease (exceeds l) 0 book.rules) as_padded
          ∙ all_decrease_same _ _ (same_padded (ranks_in book α) (16 - symbols book)) 0 book.rules

      -- By the check's answer.
      checked :
          (d : Result (Unit {0}) Named) → replied d ≡ all_decrease (exceeds ranks) 0 book.rules →
          ranks_checked book α (length buffer) ≡ ◌>>◌ (replied d) (given (ranks_in book α))
      unfolding ranks_checked unless ◌>>◌
      checked d answer =
          let fits : symbols book ≤ length buffer = omega arith in
          rw (le-leb _ _ fits) (ap (λ (x : Reply (Unit {0})). ◌>>◌ x (given (ranks_in book α))) (sym asked ∙ sym answer))

      whole : take n ranks ≡ ranks_in book α
      whole =
          ap₂ (λ (m : ℕ) (l : List ℕ). take m l) count as_padded
          ∙ take_at (ranks_in book α) (replicate (16 - symbols book) 0) (symbols book) (length_ranks_of (symbols book) (rank_bits (symbols book)) α)

      pub ranks_refused :
          (why : Named) → replied (Err why) ≡ all_decrease (exceeds ranks) 0 book.rules →
          AnsweredAs (ranks_checked book α (length buffer)) buffer (Err why) buffer
      unfolding replied ◌>>◌
      ranks_refused why answer = as_refused buffer why (checked (Err why) answer)

      pub ranks_laid :
          (u : Unit {0}) (after : List ℕ) → replied (Ok u) ≡ all_decrease (exceeds ranks) 0 book.rules → after ≡ take n ranks ++ drop n buffer →
          AnsweredAs (ranks_checked book α (length buffer)) buffer (Ok n) after
      unfolding replied ◌>>◌
      ranks_laid u after answer so =
          as_given buffer after n (checked (Ok u) answer) long (so ∙ ap₂ (λ (l : List ℕ) (m : ℕ). l ++ drop m buffer) whole long)
        where
          long : n ≡ length (ranks_in book α)
          long = count ∙ sym (length_ranks_of (symbols book) (rank_bits (symbols book)) α)

-- 12, then 13 and 14.
same_ranks_checked :
    (book : Book) (room : ℕ) (α β : Assignment) → ranks_in book α ≡ ranks_in book β → ranks_checked book α room ≡ ranks_checked book β room
unfolding ranks_checked
same_ranks_checked book room α β e = rw e

module _ (book : Book) (text buffer : List ℕ) where
  long : 65536 < length text → answered book text (length buffer) ≡ refused (numbered AnswerTooLong)
  unfolding answered unless ◌>>◌ numbered
  long h = rw (lt-leb _ _ h)

  pub too_long : 65536 < length text → AnsweredAs (answered book text (length buffer)) buffer (Err AnswerTooLong) buffer
  too_long h = as_refused buffer AnswerTooLong (long h)

  -- The answer was read over V and the rank variables of the book.
  module _ (fits : length text ≤ 65536) (n k variables : ℕ) (count : n ≡ symbols book) (bits : k ≡ rank_bits n) (all : variables ≡ «V» book) where
    abbrev behind : Reply (List Literal) → Reply (List ℕ)
    behind x = ◌>>=◌ x (λ ls. ranks_checked book (valued ls) (length buffer))

    as_read : answered book text (length buffer) ≡ behind (read_answer variables (n * k) text)
    unfolding answered unless ◌>>◌
    as_read = rw (le-leb _ _ fits, all, bits, count)

    pub answer_refused :
        (why : Named) → ReadAs (read_answer variables (n * k) text) (Err why) → AnsweredAs (answered book text (length buffer)) buffer (Err why) buffer
    unfolding ◌>>=◌
    answer_refused why so = as_refused buffer why (as_read ∙ ap behind so)

    module _ (few : n ≤ 16) (table : List (Option Bool)) (read : ReadAs (read_answer variables (n * k) text) (Ok table)) where
      -- Literals that leave these marks have the values that the marks tell.
      same_values :
          (ls : List Literal) → table ≡ table_of ls →
          ranks_checked book (valued ls) (length buffer) ≡ ranks_checked book (assigned table) (length buffer)
      same_values ls marks =
          same_ranks_checked book (length buffer) (valued ls) (assigned table)
          (ranks_agree (symbols book) (rank_bits (symbols book)) (valued ls) (assigned table)
          (λ v low (high : v ≤ symbols book * rank_bits (symbols book)).
          sym (ap (λ (t : List (Option Bool)). assigned t v) marks ∙ assigned_valued ls v low (le_trans high room))))
        where
          symbols_few : symbols book ≤ 16
          symbols_few = omega arith

          room : symbols book * rank_bits (symbols book) ≤ 64
          room = (bits_room (symbols book) (rank_bits (symbols book)) refl symbols_few).2

      checked_values : answered book text (length buffer) ≡ ranks_checked book (assigned table) (length buffer)
      unfolding ◌>>=◌
      checked_values = let (ls, so, marks) = read in as_read ∙ ap behind so ∙ same_values ls marks

      pub values_checked :
          (r : Result ℕ Named) (after : List ℕ) → AnsweredAs (ranks_checked book (assigned table) (length buffer)) buffer r after →
          AnsweredAs (answered book text (length buffer)) buffer r after
      values_checked r after so = rw checked_values so

-- The book's own refusals come first.
module _ (bytes text buffer : List ℕ) where
  refused_first : (why : Named) → read_book bytes ≡ refused (numbered why) → ranks_from_answer bytes text (length buffer) ≡ refused (numbered why)
  unfolding ranks_from_answer ◌>>=◌
  refused_first why e = rw (e, ◌>>=◌)

  pub book_refused : (why : Named) → read_book bytes ≡ refused (numbered why) → AnsweredAs (ranks_from_answer bytes text (length buffer)) buffer (Err why) buffer
  book_refused why e = as_refused buffer why (refused_first why e)

  pub of_read_book :
      (book : Book) → read_book bytes ≡ given book → (r : Result ℕ Named) (after : List ℕ) → AnsweredAs (answered book text (length buffer)) buffer r after →
      AnsweredAs (ranks_from_answer bytes text (length buffer)) buffer r after
  unfolding ranks_from_answer
  of_read_book book read r after so = rw (given_bind (read_book bytes) (λ b. answered b text (length buffer)) book read) so
