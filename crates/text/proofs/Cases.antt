-- Cases of this crate's definitions, computed. Assumes nothing.
use mathlib.Core.Path.{◌≡◌, refl}
use mathlib.Core.List.{[], ◌∷◌}
use Rattle.reply.specs.Reply.{◌at◌}
use Rattle.text.specs.Decimal.{decimal}
use Rattle.text.specs.Text.{ascii, refused_line}
use Rattle.text.specs.Computing.{computing}

refusal_line : refused_line (13 at 65535) ≡ ascii "refused 13 at 65535\n"
unfolding computing
refusal_line = refl

zero_is_one_digit : decimal 0 ≡ 48 ∷ []
unfolding computing
zero_is_one_digit = refl
