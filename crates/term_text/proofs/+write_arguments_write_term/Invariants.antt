-- Of what a call is given, the bytes behind its place fall, or, at the same place, the arguments still to come. Assumes nothing.
use Rattle.std.proofs.Common.{◌+◌, ◌-◌, ◌*◌, length}
use Rattle.term_text.proofs.+write_arguments_write_term.Given as goal

abbrev pub decreases-write_arguments : goal.decreases-write_arguments
decreases-write_arguments l = 300 * (length l.terms.now.bytes.now - l.u) + l.many

abbrev pub decreases-write_term : goal.decreases-write_term
decreases-write_term l = 300 * (length l.terms.now.bytes.now - l.u)
