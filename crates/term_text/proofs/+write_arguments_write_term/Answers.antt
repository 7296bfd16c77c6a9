-- Arguments by the first of them and the others, a term by its node and the node's arguments. Assumes nothing.
use native.Mathlib.Omega.{arith}
use Rattle.term_text.proofs.TermText.{arguments_end, arguments_first, node_here, node_alone, node_with_arguments}
use Rattle.term_text.proofs.+write_arguments_write_term.Goals as goal

pub write_arguments-returns-then-many-eq0 : goal.write_arguments-returns-then-many-eq0
write_arguments-returns-then-many-eq0 t c = arguments_end _ _ _ c.if-many-eq0.true c.write_byte.ensures

pub write_arguments-returns : goal.write_arguments-returns
write_arguments-returns t c =
    arguments_first c.args.many c.args.mark c.args.u c.if-many-eq0.false c.write_byte-start.ensures c.write_term-first.ensures
    c.write_term-first.auto.out c.write_arguments-others.ensures

pub write_term-returns-then-many-eq0 : goal.write_term-returns-then-many-eq0
write_term-returns-then-many-eq0 t c =
    let node = c.in-Some-len2-up in
    let here = node_here c.args.terms.now.bytes.now node.field-0.now c.args.u node.ensures.lookup.0.2 (omega arith) in
    node_alone c.args.u _ _ _ here.0 here.1 c.write_name-at.ensures c.arguments-many.ensures c.if-many-eq0.true

pub write_term-returns : goal.write_term-returns
write_term-returns t c =
    let node = c.in-Some-len2-up in
    let here = node_here c.args.terms.now.bytes.now node.field-0.now c.args.u node.ensures.lookup.0.2 (omega arith) in
    node_with_arguments c.args.u _ _ _ here.0 here.1 c.write_name-at.ensures c.arguments-many.ensures c.if-many-eq0.false
    c.write_arguments-rest.ensures
