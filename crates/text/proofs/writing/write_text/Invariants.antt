-- So far the text's first bytes lie at the buffer's start.
use Rattle.std.proofs.Common.{◌≡◌, ◌++◌, length, take, drop}
use Rattle.text.proofs.writing.write_text.Given as goal

abbrev pub invariant-loop-at : goal.invariant-loop-at
invariant-loop-at l = (length l.out ≡ length l.initial.out) × (l.out ≡ take l.at l.text ++ drop l.at l.initial.out)
