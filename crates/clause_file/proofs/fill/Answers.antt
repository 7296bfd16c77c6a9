-- The loop has laid the blocks up to `next`, and ends where the block call refuses.
use Rattle.std.proofs.Common.{ℕ, ◌+◌, ◌-◌, ◌<◌, List, ◌≡◌, ap, ◌∙◌, arith, rules, length}
use borrow.Rule.Slice.PartMut.{mid_of, put_mid}
use Rattle.std.specs.Prelude.{Ok}
use Rattle.book.specs.Book.{Book}
use Rattle.book.specs.BookOf.{book_of}
use Rattle.book.specs.Limits.{WithinLimits}
use Rattle.book.proofs.WasRead.{read_limits}
use Rattle.reply.specs.Lent.{laid, length_of}
use Rattle.reply.specs.Replied.{replied}
use Rattle.reply.specs.Reply.{Reply}
use Rattle.clauses.specs.File.{file_blocks, block_of}
use Rattle.clauses.proofs.Bounds.{block_at_most}
use Rattle.clauses.proofs.Elements.{element_member, element_within}
use Rattle.text.proofs.Laying.{lays_length}
use Rattle.clause_file.proofs.Fitting.{Reached, nothing_yet, one_more, no_more, reached_within}
use Rattle.clause_file.proofs.Answers.{nothing_laid, TextAt, text_at, none_fits, few_blocks}
use Rattle.clause_file.proofs.fill.Goals as goal

-- A block was laid behind those that were laid before.
module _
    (book : Book) (limits : WithinLimits book) (first at next : ℕ) (before between after : List ℕ) (many : ℕ)
    (here : Reached (file_blocks book) first before at next between)
    (means : replied (Ok many) ≡ length_of (block_of book next (length (mid_of at (length between - at) between))))
    (leaves : after ≡ laid (block_of book next (length (mid_of at (length between - at) between))) (mid_of at (length between - at) between)) where
  abbrev remainder : List ℕ
  remainder = mid_of at (length between - at) between

  found : TextAt book next (length remainder) many
  found = text_at book next (length remainder) many means

  counted : next < length (file_blocks book)
  counted = element_within (file_blocks book) next found.there

  reached : Reached (file_blocks book) first before (at + many) (next + 1) (put_mid at (length between - at) between after)
  reached =
      one_more (file_blocks book) first before here found.there found.enough
      (block_at_most book limits found.text (element_member (file_blocks book) next found.there)) found.all
      (leaves ∙ ap (λ (x : Reply (List ℕ)). laid x remainder) found.reply)

pub loop-length-init : goal.loop-length-init
loop-length-init c = record {
  within = omega arith;
  room = search rules;
  reached = nothing_yet (file_blocks (book_of c.args.book.now)) c.args.first c.args.out.now;
}

pub overflow_add-at : goal.overflow_add-at
overflow_add-at c =
    let its =
    reached _ (read_limits c.args.book.now.read) _ _ _ _ _ _ _ c.loop-length.invariant.reached c.in-Ok.ensures.means c.in-Ok.ensures.leaves in
    omega (arith, reached_within _ _ _ its)

pub overflow_add-next : goal.overflow_add-next
overflow_add-next c =
    let limits = read_limits c.args.book.now.read in
    let its = counted _ limits _ _ _ _ _ _ _ c.loop-length.invariant.reached c.in-Ok.ensures.means c.in-Ok.ensures.leaves in
    omega (arith, its, few_blocks _ limits)

pub loop-length-smaller : goal.loop-length-smaller
loop-length-smaller c =
    let its =
    counted _ (read_limits c.args.book.now.read) _ _ _ _ _ _ _ c.loop-length.invariant.reached c.in-Ok.ensures.means c.in-Ok.ensures.leaves in
    omega (arith, its)

pub loop-length-preserved : goal.loop-length-preserved
loop-length-preserved c =
    let its =
    reached _ (read_limits c.args.book.now.read) _ _ _ _ _ _ _ c.loop-length.invariant.reached c.in-Ok.ensures.means c.in-Ok.ensures.leaves in
    record {
      within = omega (arith, reached_within _ _ _ its, lays_length its.lays);
      room = lays_length its.lays;
      reached = its;
    }

pub returns : goal.returns
returns c =
    let loop = c.loop-length in
    let remains = mid_of loop.at (length loop.out - loop.at) loop.out in
    let book = book_of c.args.book.now in
    let reply = block_of book loop.next (length remains) in
    let refusal = c.in_default in
    no_more (file_blocks book) c.args.first c.args.out.now loop.invariant.reached
    (none_fits book loop.next (length remains) refusal.field-0 refusal.ensures.means)
    (nothing_laid reply refusal.field-0 refusal.ensures.means refusal.ensures.leaves)
