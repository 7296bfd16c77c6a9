-- A turn reads a record to the places that the definition reads it to; the reading goes on behind it, or its answer is the definition's.
use Rattle.std.proofs.Common.{refl, ◌≡◌, ℕ, ◌+◌, ◌<◌, List, length, get_or, arith, sym, ap, ap₂, subst, ◌∙◌, replicate, Result, Err}
use Rattle.std.proofs.lemmas.List.{ext_get_or, get_or-replicate}
use Rattle.std.proofs.Math.ListN.{length-replicate}
use Rattle.std.proofs.lemmas.Result.{err_from_is_err_and}
use Rattle.reply.specs.declared.Refusal.{Refusal}
use Rattle.term.specs.Prefix.{arity_of}
use Rattle.book.specs.Checks.{tested}
use Rattle.book.specs.Entries.{nowhere, nothing_read, with_symbol, with_left}
use Rattle.book.specs.Meaning.{meaning}
use Rattle.book.specs.Placed.{behind_node, node_taken, start, placed, so_far}
use Rattle.book.specs.Reading.{read_book}
use Rattle.book.specs.Sides.{no_side}
use Rattle.book.specs.declared.Book.{Book}
use Rattle.book.specs.Placed.{Reader}
use Rattle.book.specs.declared.RulePlaces.{RulePlaces}
use Rattle.book.specs.declared.sides.Side.{Side}
use Rattle.book.specs.declared.sides.Stage.TheVariants.{BeforeRules}
use Rattle.book.proofs.Steps.{behind, ended_early, refused_here}
use Rattle.book.proofs.Going.{Going, going_start, turn, record_within, goes_on, more_stands, all_stands, symbol_room, symbol_next, rule_room_lem, rule_next, symbol_here, symbol_declared, variable_here}
use Rattle.book.proofs.Placed.{placed_means}
use Rattle.book.proofs.read_book.Goals as goal

-- What is read is what it means, too.
promised : (bytes : List ℕ) {r : Result Book Refusal} → r ≡ placed bytes → record { settled : r ≡ placed bytes; means : meaning bytes r ≡ read_book bytes }
promised bytes e = record { settled = e; means = ap (meaning bytes) e ∙ placed_means bytes }

-- A list of so many elements, each the same.
filled : {A : Type 0} (xs : List A) (n : ℕ) (a : A) → length xs ≡ n → ((i : ℕ) → i < n → get_or xs i a ≡ a) → xs ≡ replicate n a
filled xs n a long each =
    ext_get_or a xs (replicate n a) (long ∙ sym (length-replicate n a))
    (λ i h. each i (omega (arith, long)) ∙ sym (get_or-replicate n i a a (omega (arith, long))))

-- The reader that has the defaults has read nothing.
places_nowhere : (x : RulePlaces) → x.left.at ≡ 0 → x.left.nodes ≡ 0 → x.right.at ≡ 0 → x.right.nodes ≡ 0 → x ≡ nowhere
places_nowhere x a b c d = grind arith

is_start :
    (r : Reader) → r.book.symbols ≡ 0 → r.book.arities ≡ replicate 16 0 → r.book.rules ≡ 0 → r.book.places ≡ replicate 32 nowhere → r.side.stage ≡ BeforeRules →
    r.side.missing ≡ 0 → r.side.nodes ≡ 0 → start ≡ r
unfolding start nothing_read no_side
is_start r s a u p g m n = grind arith

pub loop-at-init : goal.loop-at-init
loop-at-init c =
    let r = so_far c.default-book.result c.default-side.result in
    let (s, (a, (u, p))) = c.default-book.ensures in
    let (g, (m, n)) = c.default-side.ensures in
    let arities = filled r.book.arities 16 0 a.long (λ i h. a.at i 0 h) in
    let places = filled r.book.places 32 nowhere p.long (λ i h. let d = p.at i nowhere h in places_nowhere _ d.0.0 d.0.1 d.1.0 d.1.1) in
    subst (λ (r : Reader). Going c.args.bytes.now r 0) (is_start r s arities u places g m n) (going_start c.args.bytes.now)

pub returns-in_err-kind : goal.returns-in_err-kind
unfolding tested
returns-in_err-kind c =
    let l = c.loop-at in
    let (why, is, same) = err_from_is_err_and c.from_residual.result c.from_residual.ensures.1 in
    promised c.args.bytes.now (is ∙ ap Err same ∙ refused_here c.args.bytes.now (so_far l.book l.side) l.at c.loop-at-test.true l.invariant.continues _ c.in_err-kind.ensures.checked)

pub overflow_add-at-in-loop-at : goal.overflow_add-at-in-loop-at
overflow_add-at-in-loop-at c = omega (arith, c.body_length.ensures, record_within (turn c.loop-at.invariant c.loop-at-test.true c.in_ok-kind.ensures.checked c.in_ok-kind.ensures.kind refl))

pub overflow_add-at-in-loop-at-2 : goal.overflow_add-at-in-loop-at-2
overflow_add-at-in-loop-at-2 c = omega (arith, c.body_length.ensures, record_within (turn c.loop-at.invariant c.loop-at-test.true c.in_ok-kind.ensures.checked c.in_ok-kind.ensures.kind refl))

pub bounds-book-book : goal.bounds-book-book
bounds-book-book c = symbol_room (turn c.loop-at.invariant c.loop-at-test.true c.in_ok-kind.ensures.checked c.in_ok-kind.ensures.kind c.in-Symbol.is)

pub loop-at-preserved-in-Symbol : goal.loop-at-preserved-in-Symbol
unfolding with_symbol
loop-at-preserved-in-Symbol c =
    let t = turn c.loop-at.invariant c.loop-at-test.true c.in_ok-kind.ensures.checked c.in_ok-kind.ensures.kind c.in-Symbol.is in
    goes_on t (symbol_next t ∙ ap {B = Reader} (λ (arity : ℕ). record { book = with_symbol c.loop-at.book arity; side = c.loop-at.side }) (sym c.byte_at-body.ensures))
    _ (omega (arith, c.body_length.ensures)) (λ e. omega arith)

pub bounds-book-book-in-Rule : goal.bounds-book-book-in-Rule
bounds-book-book-in-Rule c = rule_room_lem (turn c.loop-at.invariant c.loop-at-test.true c.in_ok-kind.ensures.checked c.in_ok-kind.ensures.kind c.in-Rule.is)

pub loop-at-preserved-in-Rule : goal.loop-at-preserved-in-Rule
unfolding with_left
loop-at-preserved-in-Rule c =
    let t = turn c.loop-at.invariant c.loop-at-test.true c.in_ok-kind.ensures.checked c.in_ok-kind.ensures.kind c.in-Rule.is in
    let is_behind : behind c.args.bytes.now c.loop-at.at ≡ c.loop-at.at + (1 + c.body_length.result) = omega (arith, c.body_length.ensures) in
    goes_on t
    (rule_next t ∙ ap₂ {C = Reader} (λ (u : ℕ) (side : Side). record { book = with_left c.loop-at.book u; side = side }) is_behind (sym c.opened-side.ensures))
    _ is_behind (λ e. omega arith)

pub bounds-book-wide : goal.bounds-book-wide
bounds-book-wide c = omega (arith, c.wide.ensures, c.byte_at-body.ensures, symbol_declared (turn c.loop-at.invariant c.loop-at-test.true c.in_ok-kind.ensures.checked c.in_ok-kind.ensures.kind c.in-SymbolNode.is))

pub take_node-side-requires-clause-rule_room : goal.take_node-side-requires-clause-rule_room
take_node-side-requires-clause-rule_room c = (symbol_here (turn c.loop-at.invariant c.loop-at-test.true c.in_ok-kind.ensures.checked c.in_ok-kind.ensures.kind c.in-SymbolNode.is)).rule_room

pub take_node-side-requires-clause-missing_nonzero : goal.take_node-side-requires-clause-missing_nonzero
take_node-side-requires-clause-missing_nonzero c = (symbol_here (turn c.loop-at.invariant c.loop-at-test.true c.in_ok-kind.ensures.checked c.in_ok-kind.ensures.kind c.in-SymbolNode.is)).some_missing

pub take_node-side-requires-in-VariableNode-clause-rule_room : goal.take_node-side-requires-in-VariableNode-clause-rule_room
take_node-side-requires-in-VariableNode-clause-rule_room c = (variable_here (turn c.loop-at.invariant c.loop-at-test.true c.in_ok-kind.ensures.checked c.in_ok-kind.ensures.kind c.in-VariableNode.is)).rule_room

pub take_node-side-requires-in-VariableNode-clause-missing_nonzero : goal.take_node-side-requires-in-VariableNode-clause-missing_nonzero
take_node-side-requires-in-VariableNode-clause-missing_nonzero c = (variable_here (turn c.loop-at.invariant c.loop-at-test.true c.in_ok-kind.ensures.checked c.in_ok-kind.ensures.kind c.in-VariableNode.is)).some_missing

pub loop-at-preserved-in-SymbolNode : goal.loop-at-preserved-in-SymbolNode
unfolding node_taken arity_of
loop-at-preserved-in-SymbolNode c =
    let t = turn c.loop-at.invariant c.loop-at-test.true c.in_ok-kind.ensures.checked c.in_ok-kind.ensures.kind c.in-SymbolNode.is in
    let is_behind : behind c.args.bytes.now c.loop-at.at ≡ c.loop-at.at + (1 + c.body_length.result) = omega (arith, c.body_length.ensures) in
    goes_on t ((symbol_here t).step ∙ ap₂ (λ (u opens : ℕ). behind_node (so_far c.loop-at.book c.loop-at.side) u opens) is_behind (cc) ∙ sym c.take_node-side.ensures) _ is_behind (λ e. omega arith)

pub loop-at-preserved : goal.loop-at-preserved
unfolding node_taken arity_of
loop-at-preserved c =
    let t = turn c.loop-at.invariant c.loop-at-test.true c.in_ok-kind.ensures.checked c.in_ok-kind.ensures.kind c.in-VariableNode.is in
    let is_behind : behind c.args.bytes.now c.loop-at.at ≡ c.loop-at.at + (1 + c.body_length.result) = omega (arith, c.body_length.ensures) in
    goes_on t ((variable_here t).step ∙ ap (λ (u : ℕ). behind_node (so_far c.loop-at.book c.loop-at.side) u 0) is_behind ∙ sym c.take_node-side-in-VariableNode.ensures) _ is_behind (λ e. omega arith)

pub returns-then-at-bytes : goal.returns-then-at-bytes
returns-then-at-bytes c =
    promised c.args.bytes.now
    (more_stands (turn c.loop-at.invariant c.loop-at-test.true c.in_ok-kind.ensures.checked c.in_ok-kind.ensures.kind c.in-End.is) refl _ (omega (arith, c.body_length.ensures)) c.if-at-bytes.true)

pub returns-in-End : goal.returns-in-End
returns-in-End c =
    promised c.args.bytes.now
    (all_stands (turn c.loop-at.invariant c.loop-at-test.true c.in_ok-kind.ensures.checked c.in_ok-kind.ensures.kind c.in-End.is) refl _ (omega (arith, c.body_length.ensures)) c.if-at-bytes.false)

pub returns : goal.returns
returns c = let l = c.loop-at in promised c.args.bytes.now (ended_early c.args.bytes.now (so_far l.book l.side) l.at l.invariant.continues c.loop-at-test.false)
