-- The blocks before `number` are printed, and a buffer that stays empty says that there are no more.
use Rattle.std.proofs.Common.{sym, arith, rules}
use lib.Seq.{length-take-le}
use Rattle.book.specs.BookOf.{book_of}
use Rattle.clauses.specs.File.{file_blocks}
use Rattle.clause_file.proofs.Fitting.{filled_within, filled_none, filled_further, filled_bytes}
use Rattle.clause_file.proofs.print_file.Goals as goal

pub returns-then-filled-number : goal.returns-then-filled-number
returns-then-filled-number g c =
    filled_none (file_blocks (book_of c.args.book.now)) c.loop-number.number c.loop-number.out c.fill-filled.ensures
    (omega (arith, c.requires, c.loop-number.invariant.room)) c.loop-number.invariant.within (omega (arith, c.if-filled-number.true))

pub slice_bounds-write_all-end : goal.slice_bounds-write_all-end
slice_bounds-write_all-end g c =
    filled_bytes (file_blocks (book_of c.args.book.now)) c.loop-number.number c.loop-number.out c.fill-filled.ensures

pub slice_bounds-write_all-end-in-loop-number : goal.slice_bounds-write_all-end-in-loop-number
slice_bounds-write_all-end-in-loop-number g c =
    sym (length-take-le c.fill-filled.result.«length» c.fill-filled.new.out
    (filled_bytes (file_blocks (book_of c.args.book.now)) c.loop-number.number c.loop-number.out c.fill-filled.ensures))

pub loop-number-smaller : goal.loop-number-smaller
loop-number-smaller g c =
    let texts = file_blocks (book_of c.args.book.now) in
    omega (
      arith,
      filled_within texts c.loop-number.number c.loop-number.out c.fill-filled.ensures c.loop-number.invariant.within,
      filled_further texts c.loop-number.number c.loop-number.out c.fill-filled.ensures,
      c.if-filled-number.false,
    )

pub loop-number-preserved : goal.loop-number-preserved
loop-number-preserved g c = record {
  within =
      filled_within (file_blocks (book_of c.args.book.now)) c.loop-number.number c.loop-number.out c.fill-filled.ensures
      c.loop-number.invariant.within;
  room = search rules;
}
