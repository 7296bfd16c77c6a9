-- Demand 2 of the running code's `write_block`: what calls left behind, block by block, is what the definition has from that number on.
-- Assumes nothing.
use Prim.Native.Nat.{ℕ, zero, suc, ◌+◌, ◌<◌, ◌≤◌}
use native.Mathlib.Omega.{arith}
use mathlib.Core.Bool.{Bool, true, false}
use mathlib.Core.List.{[], ◌++◌, flatten}
use mathlib.Core.Option.{Option, none, some}
use mathlib.Core.Path.{◌≡◌, refl, sym, ap, ap₂, subst, ◌∙◌}
use borrow.Author.Tests.{leb-true, leb-false}
use lib.Dec.{leb}
use lib.ListN.{length, take, drop, get_or, get_elem?, drop_of_length-le}
use lib.Seq.{drop-cons, take-append_seam}
use Rattle.reply.specs.Reply.{Reply, given, refused, ◌>>=◌, ◌at◌}
use Rattle.reply.specs.Lent.{laid}
use Rattle.reply.proofs.Given.{bind_given, unless_given, given_not_refused}
use Rattle.book.specs.Book.{Book}
use Rattle.book.specs.Reading.{read_book}
use Rattle.clauses.specs.File.{file_blocks, file_bytes, numbered_block, block_of, block, printed, clause_program}
use Rattle.clauses.proofs.BlockReply.{block_of_read, its_text}
use Rattle.clauses.proofs.Elements.{element_there, element_within, element_is}
use Rattle.clauses.proofs.WholeFile.{no_block_exactly}
use Rattle.demands.specs.EntryPoints.{Bytes, answer, buffer_after, a_block}
use Rattle.demands.specs.Demand2.{SatisfyingAssignment, SatisfiableExactlyIfCleared, RankBitsClear, ClearingRanksExtend}
use Rattle.demands.specs.InCode.{InCode, AsDefined}
use Rattle.demands.specs.FileInCode.{MadeFrom, no_block, a_block_then, FileInCode}
use Rattle.demands.proofs.Demand2.{demand2}
use Rattle.demands.proofs.Demand1InCode.{refused_too}
use Rattle.demands.proofs.Ends.{Asks}

-- A block that was given is the one of its number.
numbered : (found : Option Bytes) (text : Bytes) → numbered_block found ≡ given text → found ≡ some text
unfolding numbered_block
numbered none text e = absurd (given_not_refused text (10 at 0) (sym e))
numbered (some other) text e = cc

block_is :
    (bytes : Bytes) (book : Book) (number room : ℕ) (text : Bytes) → read_book bytes ≡ given book → block bytes number room ≡ given text →
    get_elem? (file_blocks book) number ≡ some text
unfolding block_of
block_is bytes book number room text read e =
    let (found, is, rest) = bind_given _ _ _ (sym (block_of_read bytes number room book read) ∙ e) in
    let same : found ≡ text = cc (unless_given _ _ _ _ rest).1 in
    numbered (get_elem? (file_blocks book) number) text (is ∙ ap (λ (t : Bytes). given t) same)

module _ (code : InCode a_block) (as-defined : AsDefined code) (bytes : Bytes) (book : Book) (read : read_book bytes ≡ given book) where
  module _ (call : code.Call) (number room : ℕ) (asked : code.asked call ≡ (bytes, number, room)) where
    answered_so : code.answered call ≡ ◌>>=◌ (block bytes number room) (λ text. given (length text))
    unfolding answer
    answered_so = as-defined.answers call ∙ ap (answer a_block) asked

    -- A block that was answered is the one of its number, and stands at the start of the lent buffer.
    left_so : (many : ℕ) → code.answered call ≡ given many → (text : Bytes) × (get_elem? (file_blocks book) number ≡ some text) × (take many (code.after call) ≡ text)
    unfolding buffer_after ◌>>=◌ laid
    left_so many e =
        let (text, block-so, counted) = bind_given (block bytes number room) (λ t. given (length t)) many (sym answered_so ∙ e) in
        let long : length text ≡ many = cc counted in
        let after-so : code.after call ≡ text ++ drop (length text) (code.before call) =
        as-defined.writes call ∙ ap (λ x. buffer_after a_block x (code.before call)) asked
        ∙ ap (λ (x : Reply Bytes). laid (◌>>=◌ x (λ t. given t)) (code.before call)) block-so
        in (
          text,
          block_is bytes book number room text read block-so,
          ap₂ (λ (n : ℕ) (l : Bytes). take n l) (sym long) after-so ∙ take-append_seam text (drop (length text) (code.before call)),
        )

    none_so : code.answered call ≡ refused (10 at 0) → length (file_blocks book) ≤ number
    none_so e = (no_block_exactly bytes book read room number).0 (refused_too length (block bytes number room) (10 at 0) (sym answered_so ∙ e))

    there_so : 512 ≤ room → number < length (file_blocks book) → (many : ℕ) × (code.answered call ≡ given many)
    unfolding ◌>>=◌
    there_so roomy within = (
      length (get_or (file_blocks book) number []),
      answered_so
          ∙ ap (λ (x : Reply Bytes). ◌>>=◌ x (λ text. given (length text)))
          (block_of_read bytes number room book read ∙ its_text book number room (element_there (file_blocks book) number [] within) roomy),
    )

    behind_so : length (file_blocks book) ≤ number → code.answered call ≡ refused (10 at 0)
    unfolding ◌>>=◌
    behind_so behind =
        answered_so ∙ ap (λ (x : Reply Bytes). ◌>>=◌ x (λ text. given (length text))) ((no_block_exactly bytes book read room number).1 behind)

  -- The blocks from a number on.
  made_so : {number : ℕ} {file : Bytes} → MadeFrom code bytes number file → file ≡ flatten (drop number (file_blocks book))
  unfolding flatten
  made_so (no_block {number = number} {room = room} call asked e) =
      sym (ap flatten (drop_of_length-le (file_blocks book) (none_so call number room asked e)))
  made_so (a_block_then {number = number} {room = room} {many = many} {behind = behind} call asked e more whole) =
      let (text, is, start) = left_so call number room asked many e in
      let here = element_is (file_blocks book) number [] is in
      sym whole
      ∙ ap₂ (λ (x y : Bytes). x ++ y) (start ∙ here) (made_so more)
      ∙ sym (ap flatten (drop-cons (file_blocks book) number [] (element_within (file_blocks book) number is)))

  -- With calls that lend 512 bytes a file is made, block by block: from a number on, if one is made from the next number on.
  made_from_here :
      (call : code.Call) (number : ℕ) → code.asked call ≡ (bytes, number, 512) → (past : Bool) → leb (length (file_blocks book)) number ≡ past →
      (file : Bytes) × MadeFrom code bytes (suc number) file → (file : Bytes) × MadeFrom code bytes number file
  made_from_here call number asked true e later = ([], no_block call asked (behind_so call number 512 asked (leb-true _ _ e)))
  made_from_here call number asked false e later =
      let (many, given_so) = there_so call number 512 asked (omega arith) (leb-false _ _ e) in
      (take many (code.after call) ++ later.0, a_block_then call asked given_so later.1 refl)

  made_from : Asks code → (fuel number : ℕ) → length (file_blocks book) ≤ fuel + number → (file : Bytes) × MadeFrom code bytes number file
  made_from asks zero number past =
      let (call, asked) = asks (bytes, number, 512) in
      ([], no_block call asked (behind_so call number 512 asked (omega arith)))
  made_from asks (suc fuel) number past =
      let (call, asked) = asks (bytes, number, 512) in
      made_from_here call number asked (leb (length (file_blocks book)) number) refl (made_from asks fuel (suc number) (omega arith))

  prints_so : (file : Bytes) → MadeFrom code bytes 0 file → file ≡ clause_program bytes
  unfolding clause_program file_bytes printed
  prints_so file made = made_so made ∙ sym (ap printed read)

pub files : (code : InCode a_block) → AsDefined code → Asks code → FileInCode code
unfolding SatisfiableExactlyIfCleared RankBitsClear ClearingRanksExtend
files code as-defined asks = record {
  made = λ bytes book read. made_from code as-defined bytes book read asks (length (file_blocks book)) 0 (omega arith);
  prints = λ bytes book file read made. prints_so code as-defined bytes book read file made;
  answers_each = λ call bytes number room book asked read roomy. (
    there_so code as-defined bytes book read call number room asked roomy,
    behind_so code as-defined bytes book read call number room asked,
  );
  satisfiable = λ bytes book file read made. rw (prints_so code as-defined bytes book read file made) (demand2.satisfiable bytes book read);
  rank_bits_clear = λ bytes book file α read made found.
      demand2.rank_bits_clear bytes book α read
      (subst (λ (f : Bytes). SatisfyingAssignment f α) (prints_so code as-defined bytes book read file made) found);
  ranks_extend = λ bytes book file ranks read made many fit clears.
      rw (prints_so code as-defined bytes book read file made) (demand2.ranks_extend bytes book ranks read many fit clears);
}
