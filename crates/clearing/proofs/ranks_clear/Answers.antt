-- 7 unless there are as many ranks as symbols, then what the rules reply under the table of the ranks.
use Rattle.std.proofs.Common.{sym, ◌∙◌, arith}
use Rattle.reply.specs.Refusals.{numbered}
use Rattle.reply.specs.Replied.{replied}
use Rattle.book.specs.BookOf.{book_of}
use Rattle.book.proofs.WasRead.{read_stands}
use Rattle.order.proofs.SameRanks.{all_decrease_same}
use Rattle.clearing.proofs.Verdicts.{wrong_count, right_count}
use Rattle.clearing.proofs.ranks_clear.Goals as goal

pub returns-then-ranks-book : goal.returns-then-ranks-book
unfolding replied numbered
returns-then-ranks-book c =
    let stand = read_stands c.args.book.now.read in
    sym (wrong_count (book_of c.args.book.now) c.args.ranks.now (λ e. omega (arith, c.if-ranks-book.true, e, stand.symbol_count)))

pub padded-requires : goal.padded-requires
padded-requires c = omega (arith, (read_stands c.args.book.now.read).few_symbols)

pub returns : goal.returns
returns c =
    let book = book_of c.args.book.now in
    let stand = read_stands c.args.book.now.read in
    c.first_not_decreasing.ensures
    ∙ all_decrease_same c.padded.result c.args.ranks.now c.padded.ensures 0 book.rules
    ∙ sym (right_count book c.args.ranks.now (omega (arith, c.if-ranks-book.false, stand.symbol_count)))
