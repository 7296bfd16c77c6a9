-- A block that is nowhere is refused by 10, then a short buffer by 9, and what is laid is the whole block.
use mathlib.Core.Path.{◌≡◌, ap, subst, ◌∙◌}
use native.Mathlib.Omega.{arith}
use Rattle.std.specs.Prelude.{Option as Maybe, Result}
use Rattle.std.specs.Option.{ok_or}
use Rattle.std.proofs.Common.{Err}
use Rattle.std.proofs.lemmas.Result.{err_from_is_err_and}
use Rattle.reply.specs.declared.Refusal.{Refusal}
use Rattle.reply.specs.declared.Refusal.TheVariants.{NoSuchBlock}
use Rattle.book.specs.BookOf.{book_of}
use Rattle.book.proofs.WasRead.{read_limits}
use Rattle.blocks.specs.Found.{FindsBlock}
use Rattle.blocks.specs.declared.finding.Place.{Place}
use Rattle.blocks.proofs.BlockCall.{none_laid, block_laid}
use Rattle.blocks.proofs.FileBlocks.{found_there, some_text}
use Rattle.blocks.proofs.writing.write_read_block.Goals as goal

pub returns-in_err-place : goal.returns-in_err-place
unfolding FindsBlock
returns-in_err-place c =
    let b = c.args.book.now in
    let nowhere = subst (FindsBlock b c.args.number) c.in_err-place.ensures.ok_part c.find_block.ensures in
    let so = none_laid (book_of b) c.args.number c.args.out.now nowhere in
    let p = err_from_is_err_and c.from_residual.result c.from_residual.ensures.1 in
    let refusal : ◌≡◌ {A = Result Place Refusal} (Err c.in_err-place.field-0.0) (Err NoSuchBlock) =
    c.in_err-place.ensures.value ∙ ap (λ (p : Maybe Place). ok_or p NoSuchBlock) c.in_err-place.ensures.ok_part
    in
    let is : c.from_residual.result ≡ Err NoSuchBlock = p.1 ∙ ap Err (p.2 ∙ cc) in
    record { means = rw is so.means; leaves = so.leaves }

pub write_place-requires : goal.write_place-requires
write_place-requires c =
    record { number = c.args.number; finds = found_there c.args.book.now c.args.number c.find_block.ensures c.in_ok-place.ensures.ok_part }

pub returns : goal.returns
returns c =
    let b = c.args.book.now in
    let finds = found_there b c.args.number c.find_block.ensures c.in_ok-place.ensures.ok_part in
    let text = some_text b c.args.number c.in_ok-place.place finds in
    let so =
    block_laid (book_of b) c.args.number c.args.out.now text.1 (read_limits b.read) (omega arith) (c.write_place.ensures c.args.number text.0 finds text.1)
    in
    record { means = so.means; leaves = so.leaves }
