-- Cases of this crate's definitions, computed. Assumes nothing.
use Prim.Native.Nat.{ℕ}
use mathlib.Core.Path.{◌≡◌, refl}
use mathlib.Core.List.{[], ◌∷◌}
use Rattle.reply.specs.Reply.{given, refused, unless, ◌>>◌, ◌at◌}
use Rattle.reply.specs.Lent.{laid}
use Rattle.reply.specs.Computing.{computing}
use mathlib.Core.Bool.{true, false}

first_refusal_counts : (do unless true (7 at 0); unless false (8 at 2); unless false (9 at 0)) ≡ refused (8 at 2)
unfolding computing
first_refusal_counts = refl

later_bytes_stay : laid {Cell = ℕ} (given (1 ∷ 2 ∷ [])) (7 ∷ 7 ∷ 7 ∷ []) ≡ 1 ∷ 2 ∷ 7 ∷ []
unfolding computing
later_bytes_stay = refl

refusal_keeps_the_buffer : laid {Cell = ℕ} (refused (9 at 0)) (7 ∷ 7 ∷ []) ≡ 7 ∷ 7 ∷ []
unfolding computing
refusal_keeps_the_buffer = refl
