-- `answer::checked_ranks` meets its contract: the buffer is short, the check refuses, or the ranks are laid.
use Rattle.std.proofs.Common.{arith}
use Rattle.book.proofs.WasRead.{read_stands}
use Rattle.std.proofs.lemmas.Result.{err_from_is_err_and}
use mathlib.Core.Path.{refl}
use lib.ListN.{length-take}
use Rattle.answer.proofs.PaddedRanks.{length_padded}
use Rattle.answer.proofs.Afterwards.{bits_room, short_buffer, ranks_refused, ranks_laid}
use Rattle.answer.proofs.checked_ranks.Goals as goal

pub returns-then-out-symbols : goal.returns-then-out-symbols
returns-then-out-symbols c =
    short_buffer _ _ c.args.out.now (omega (arith, c.if-out-symbols.true, (read_stands c.args.book.now.read).symbol_count))

pub ranks_of-ranks-requires : goal.ranks_of-ranks-requires
ranks_of-ranks-requires c = bits_room _ _ c.rank_bits.ensures (read_stands c.args.book.now.read).few_symbols

pub slice_bounds-ranks-end : goal.slice_bounds-ranks-end
slice_bounds-ranks-end c =
    let few = (read_stands c.args.book.now.read).few_symbols in
    omega (arith, length_padded _ _ c.args.book.now.places.symbols few c.ranks_of-ranks.ensures)

pub slice_bounds-copy_from_slice-end-3 : goal.slice_bounds-copy_from_slice-end-3
slice_bounds-copy_from_slice-end-3 c =
    let few = (read_stands c.args.book.now.read).few_symbols in
    let long = length_padded _ _ c.args.book.now.places.symbols few c.ranks_of-ranks.ensures in
    rw length-take (omega arith)

pub copy_from_slice-requires : goal.copy_from_slice-requires
copy_from_slice-requires c =
    let few = (read_stands c.args.book.now.read).few_symbols in
    let long = length_padded _ _ c.args.book.now.places.symbols few c.ranks_of-ranks.ensures in
    simp length-take (omega arith)

pub returns-in_err-first_not_decreasing : goal.returns-in_err-first_not_decreasing
returns-in_err-first_not_decreasing c =
    let why = err_from_is_err_and c.from_residual.result c.from_residual.ensures.1 in
    rw (why.1, why.2) (
    ranks_refused _ _ c.args.out.now _ _ _ (read_stands c.args.book.now.read).symbol_count c.rank_bits.ensures c.ranks_of-ranks.ensures
    c.if-out-symbols.false _ c.in_err-first_not_decreasing.ensures
    )

pub returns : goal.returns
returns c =
    ranks_laid _ _ c.args.out.now _ _ _ (read_stands c.args.book.now.read).symbol_count c.rank_bits.ensures c.ranks_of-ranks.ensures
    c.if-out-symbols.false _ _ c.in_ok-first_not_decreasing.ensures (rw c.copy_from_slice.ensures.after refl)
