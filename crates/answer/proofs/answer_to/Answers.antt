-- `answer::answer_to` meets its contract: the text is too long, the answer is malformed or claims no model, or its ranks are checked.
use Rattle.std.proofs.Common.{arith}
use Rattle.std.proofs.lemmas.Result.{err_from_is_err_and}
use Rattle.book.proofs.WasRead.{read_stands}
use Rattle.answer.proofs.Afterwards.{bits_room, too_long, answer_refused, values_checked}
use Rattle.answer.proofs.answer_to.Goals as goal

pub returns-then-text-gt65536 : goal.returns-then-text-gt65536
returns-then-text-gt65536 c = too_long _ _ c.args.out.now c.if-text-gt65536.true

pub overflow_mul-symbols : goal.overflow_mul-symbols
overflow_mul-symbols c = omega (arith, (bits_room _ _ c.rank_bits.ensures (read_stands c.args.book.now.read).few_symbols).2)

pub read_values-requires : goal.read_values-requires
read_values-requires c = (bits_room _ _ c.rank_bits.ensures (read_stands c.args.book.now.read).few_symbols).2

pub returns-in_err-table : goal.returns-in_err-table
returns-in_err-table c =
    let why = err_from_is_err_and c.from_residual.result c.from_residual.ensures.1 in
    rw (why.1, why.2) (
    answer_refused _ _ c.args.out.now c.if-text-gt65536.false _ _ _ (read_stands c.args.book.now.read).symbol_count c.rank_bits.ensures
    (c.variables-variables.ensures _ c.args.book.now.read) _ c.in_err-table.ensures
    )

pub returns : goal.returns
returns c =
    values_checked _ _ c.args.out.now c.if-text-gt65536.false _ _ _ (read_stands c.args.book.now.read).symbol_count c.rank_bits.ensures
    (c.variables-variables.ensures _ c.args.book.now.read) (read_stands c.args.book.now.read).few_symbols _ c.in_ok-table.ensures _ _ c.checked_ranks.ensures
