-- Cases of reading to places, computed: where the sides of f(x) → g(x) stand, a book of no rule, the refusals. Assumes nothing.
use mathlib.Core.Path.{◌≡◌, refl}
use mathlib.Core.List.{[], ◌∷◌, map}
use lib.ListN.{replicate}
use Rattle.std.proofs.Common.{Ok, Err}
use Rattle.reply.specs.declared.Refusal.TheVariants.{BookEnded, UnknownKind, NotAllowed, BadBody, AfterEnd}
use Rattle.book.specs.Entries.{nowhere, nothing_read}
use Rattle.book.specs.Placed.{placed}
use Rattle.book.specs.Examples.{fx_to_gx, only_end}
use Rattle.book.specs.Computing.{computing}

sides_placed :
    placed fx_to_gx
    ≡ Ok (record {
      symbols = 2;
      arities = 1 ∷ 1 ∷ replicate 14 0;
      rules = 1;
      places = record { left = record { at = 5; nodes = 2 }; right = record { at = 9; nodes = 2 } } ∷ replicate 31 nowhere;
    })
unfolding computing
sides_placed = refl

only_end_lem : placed only_end ≡ Ok nothing_read
unfolding computing
only_end_lem = refl

refusals :
    map placed ([] ∷ (6 ∷ []) ∷ (3 ∷ 0 ∷ []) ∷ (1 ∷ 7 ∷ []) ∷ (2 ∷ 5 ∷ []) ∷ (5 ∷ 0 ∷ []) ∷ (3 ∷ []) ∷ [])
    ≡ map Err (BookEnded 0 ∷ UnknownKind 0 ∷ NotAllowed 0 ∷ BadBody 1 ∷ NotAllowed 1 ∷ AfterEnd 1 ∷ BookEnded 1 ∷ [])
unfolding computing
refusals = refl
