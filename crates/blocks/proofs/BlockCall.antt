-- "block 10, 9": what each answer of the block call means, and what the lent buffer holds then. Assumes nothing.
use Prim.Native.Nat.{ℕ, ◌≤◌, ◌<◌}
use mathlib.Core.List.{List, ◌++◌}
use mathlib.Core.Option.{none, some}
use mathlib.Core.Path.{◌≡◌, refl, ap, ◌∙◌}
use native.Mathlib.Omega.{arith}
use lib.ListN.{length, take, drop, get_elem?}
use lib.Seq.{take_all}
use Rattle.std.specs.Prelude.{Option as Maybe, Some, Result, Ok, Err}
use Rattle.reply.specs.Reply.{Reply, given, refused, ◌>>=◌}
use Rattle.reply.specs.Refusals.{numbered}
use Rattle.reply.specs.Replied.{replied}
use Rattle.reply.specs.declared.Refusal.{Refusal as Named}
use Rattle.reply.specs.declared.Refusal.TheVariants.{NoSuchBlock, ShortBuffer}
use Rattle.reply.specs.Lent.{laid, length_of}
use Rattle.text.specs.Laying.{Lays}
use Rattle.book.specs.Book.{Book}
use Rattle.book.specs.BookOf.{book_of}
use Rattle.book.specs.declared.read.ReadBook.{ReadBook}
use Rattle.book.specs.Limits.{WithinLimits}
use Rattle.book.specs.Reading.{read_book}
use Rattle.clauses.specs.File.{file_blocks, block_of, block}
use Rattle.clauses.proofs.BlockReply.{no_block, short_room, its_text, block_of_read}
use Rattle.clauses.proofs.Bounds.{block_at_most}
use Rattle.clauses.proofs.Elements.{element_member}
use Rattle.blocks.specs.Found.{FindsBlock}
use Rattle.blocks.specs.declared.finding.Place.{Place}
use Rattle.blocks.proofs.FileBlocks.{found_there, some_text}

-- The answer and what is left in the lent buffer are as the reply x on paper says.
pub record WritesAs (x : Reply (List ℕ)) (buffer : List ℕ) (r : Result ℕ Named) (after : List ℕ) : Type 0 where
  pub means : replied r ≡ length_of x
  pub leaves : after ≡ laid x buffer

refusal_allowed : {x : Reply (List ℕ)} (buffer : List ℕ) (why : Named) → x ≡ refused (numbered why) → WritesAs x buffer (Err why) buffer
unfolding length_of laid replied
refusal_allowed buffer why e = rw e (record { means = refl; leaves = refl })

module _ (book : Book) (number : ℕ) (buffer : List ℕ) where
  pub none_laid : get_elem? (file_blocks book) number ≡ none → WritesAs (block_of book number (length buffer)) buffer (Err NoSuchBlock) buffer
  unfolding numbered
  none_laid e = refusal_allowed buffer NoSuchBlock (no_block book number (length buffer) e)

  module _ {text : List ℕ} (there : get_elem? (file_blocks book) number ≡ some text) where
    pub short_buffer : length buffer < 512 → WritesAs (block_of book number (length buffer)) buffer (Err ShortBuffer) buffer
    unfolding numbered
    short_buffer h = refusal_allowed buffer ShortBuffer (short_room book number (length buffer) there h)

    -- "A block never needs more than 512 bytes", so all of it is laid.
    whole : WithinLimits book → 512 ≤ length buffer → {many : ℕ} {after : List ℕ} → Lays text buffer many after → many ≡ length text
    whole limits h laid =
        omega (arith, laid.count, block_at_most book limits text (element_member (file_blocks book) number there))

    pub block_laid :
        WithinLimits book → 512 ≤ length buffer → {many : ℕ} {after : List ℕ} → Lays text buffer many after →
        WritesAs (block_of book number (length buffer)) buffer (Ok many) after
    unfolding replied length_of laid
    block_laid limits h {many} laid =
        let all = whole limits h laid in
        rw (its_text book number (length buffer) there h)
        (record {
          means = ap (λ (n : ℕ). given n) all;
          leaves =
              laid.bytes
              ∙ ap (λ (n : ℕ). take n text ++ drop n buffer) all
              ∙ ap (λ (l : List ℕ). l ++ drop (length text) buffer) (take_all (length text) text (omega arith));
        })

-- The book's own refusals come first.
module _ (bytes : List ℕ) (number : ℕ) (buffer : List ℕ) where
  pub unreadable : (why : Named) → read_book bytes ≡ refused (numbered why) → WritesAs (block bytes number (length buffer)) buffer (Err why) buffer
  unfolding block ◌>>=◌
  unreadable why e = refusal_allowed buffer why (rw (e, ◌>>=◌))

  pub of_read_book :
      (book : Book) → read_book bytes ≡ given book → {r : Result ℕ Named} {after : List ℕ} →
      WritesAs (block_of book number (length buffer)) buffer r after → WritesAs (block bytes number (length buffer)) buffer r after
  of_read_book book read allowed = rw (block_of_read bytes number (length buffer) book read) allowed

-- A buffer under 512 bytes, where the block is at a place.
module _ (b : ReadBook) (number : ℕ) {found : Maybe Place} {place : Place} (buffer : List ℕ) (finds : FindsBlock b number found) (is : found ≡ Some place) where
  short_place : length buffer < 512 → WritesAs (block_of (book_of b) number (length buffer)) buffer (Err ShortBuffer) buffer
  short_place h = short_buffer (book_of b) number buffer (some_text b number place (found_there b number finds is)).1 h

  pub short_means : length buffer < 512 → replied {A = ℕ} (Err ShortBuffer) ≡ length_of (block_of (book_of b) number (length buffer))
  short_means h = (short_place h).means

  pub short_leaves : length buffer < 512 → buffer ≡ laid (block_of (book_of b) number (length buffer)) buffer
  short_leaves h = (short_place h).leaves
