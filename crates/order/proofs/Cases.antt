-- Cases of the rank check, computed. Assumes nothing.
use mathlib.Core.Path.{◌≡◌, refl}
use mathlib.Core.List.{[], ◌∷◌}
use Rattle.reply.specs.Reply.{given, refused, ◌at◌}
use Rattle.book.specs.Examples.{fx_to_gx, undoing}
use Rattle.order.specs.Clearing.{check_ranks}
use Rattle.order.specs.Computing.{computing}

any_byte_is_a_rank : check_ranks fx_to_gx (255 ∷ 254 ∷ []) ≡ given tt
unfolding computing
any_byte_is_a_rank = refl

as_many_ranks_as_symbols : check_ranks fx_to_gx (1 ∷ 0 ∷ 0 ∷ []) ≡ refused (7 at 0)
unfolding computing
as_many_ranks_as_symbols = refl

the_lowest_rule_that_fails : check_ranks undoing (0 ∷ 0 ∷ []) ≡ refused (8 at 0)
unfolding computing
the_lowest_rule_that_fails = refl
