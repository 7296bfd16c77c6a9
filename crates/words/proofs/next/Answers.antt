-- `words::next` meets its contract: the bytes before the next end are those that the chain counts.
use Rattle.std.proofs.Common.{rules, ◌+◌}
use mathlib.Core.Bool.{not}
use mathlib.Core.Path.{sym, ap, ◌∙◌}
use lib.Dec.{eqb}
use Prim.Native.Nat.{◌-◌}
use lib.ListN.{drop, take, length}
use borrow.Author.Tests.{tests}
use Rattle.std.proofs.lemmas.Iterator.{YieldsList-from_slice}
use Rattle.std.proofs.lemmas.Iterator.Consumers.{YieldsList-at, count_from_yields_List}
use Rattle.std.proofs.lemmas.Iterator.Search.{YieldsList-from_take_while}
use Rattle.std.proofs.lemmas.List.Folds.{length-prefix_len}
use Rattle.std.proofs.lemmas.List.{drop_min, take_rest}
use Rattle.words.proofs.Pieces.{up_to_counted}
use Rattle.text.specs.Text.{up_to}
use Rattle.words.proofs.next.Goals as goal

pub returns : goal.returns
returns c =
    ap (λ n. c.args.at + n) (
    count_from_yields_List _ _ c.count.ensures.ran (
    YieldsList-from_take_while _ (λ b. not (eqb b c.args.end)) (
    YieldsList-at c.take_while.ensures.source (YieldsList-from_slice (take (length c.args.text.now - c.min-from.result) (drop c.min-from.result c.args.text.now)) c.iter.ensures.rest)
    ) c.take_while.ensures.closure c.take_while.ensures.done (λ x b q k. search (rules, tests))
    )
    ∙ length-prefix_len (λ b. not (eqb b c.args.end)) _
    ∙ sym (up_to_counted _ _)
    ∙ ap (up_to (λ b. eqb b c.args.end)) (take_rest c.args.text.now c.min-from.result ∙ rw c.min-from.ensures (drop_min c.args.at c.args.text.now))
    )
