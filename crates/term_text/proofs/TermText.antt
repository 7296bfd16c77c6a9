-- The text of a term by its nodes: a name, and behind a symbol's name its arguments in brackets. Assumes nothing.
use Prim.Native.Nat.{ℕ, ◌+◌, ◌-◌, ◌≤◌}
use mathlib.Core.List.{List, [], ◌∷◌, ◌++◌, append_assoc, append-nil}
use mathlib.Core.Path.{◌≡◌, refl, sym, ap, subst, ◌∙◌}
use native.Mathlib.Omega.{arith}
use lib.ListN.{length, get_or}
use Rattle.std.specs.List.{slice_range}
use Rattle.std.proofs.lemmas.Grind.{common_steps}
use borrow.Rule.Slice.PartMut.{mid_of, put_mid, mid_len, same_len_mid}
use Rattle.text.specs.Laying.{Lays}
use Rattle.text.specs.Text.{ascii}
use Rattle.text.proofs.Laying.{lays_as, lays_then, lays_length}
use Rattle.term.specs.Term.{Term, Args, var, app, nil, cons}
use Rattle.term.specs.Prefix.{Node, symbolic, variable, node_of, arity_of}
use Rattle.term.specs.At.{At, ArgsAt, variable_at, symbol_at, none_at, and_at}
use Rattle.term.proofs.At.{at_root_lem, args_first, args_none}
use Rattle.term.proofs.Nodes.{symbol_node, variable_node}
use Rattle.term_text.specs.TermText.{name_text, term_text, bracketed, later_text, arguments_text, LaysTerm, LaysArguments}
use Rattle.term_text.specs.declared.Texted.{Texted}

-- The two bytes of the node that stands at the start of the bytes from u on.
pub node_here :
    (bytes part : List ℕ) (u : ℕ) → part ≡ slice_range bytes u (length bytes) → 2 ≤ length part →
    (get_or part 0 0 ≡ get_or bytes u 0) × (get_or part 1 0 ≡ get_or bytes (u + 1) 0)
node_here bytes part u e h = (grind (arith, common_steps), grind (arith, common_steps))

-- Behind a comma the arguments go on; behind the opening bracket they begin.
after_comma : (ts : Args) → arguments_text 44 ts ≡ later_text ts
unfolding arguments_text later_text ascii
after_comma nil = refl
after_comma (cons t ts) = refl

-- A term by the node at its place: its arguments stand behind the node, and its text is the node's name with theirs.
record Parted (bytes arities : List ℕ) (u : ℕ) (t : Term) (e : ℕ) (node : Node) : Type 0 where
  inner : Args
  stand : ArgsAt bytes arities (arity_of arities node) (u + 2) inner e
  told : term_text t ≡ name_text node ++ bracketed inner

module _ {bytes arities : List ℕ} where
  in_brackets : {many u e : ℕ} {ts : Args} → ArgsAt bytes arities many u ts e → (many ≡ 0 → ⊥) → arguments_text 40 ts ≡ bracketed ts
  unfolding arguments_text bracketed ascii
  in_brackets none_at n = absurd (n refl)
  in_brackets (and_at h hs) n = refl

  parted :
      {u e : ℕ} {t : Term} (kind body : ℕ) → kind ≡ get_or bytes u 0 → body ≡ get_or bytes (u + 1) 0 → At bytes arities u t e →
      Parted bytes arities u t e (node_of kind body)
  unfolding arity_of term_text name_text bracketed
  parted {u} {e} {t} kind body p q (variable_at {x = x} w k b r) =
      let node : variable x ≡ node_of kind body = ap variable (sym (q ∙ b)) ∙ sym (variable_node kind body (λ s. absurd (omega (arith, p, k, s)))) in
      subst (λ (node : Node). Parted bytes arities u (var x) e node) node
      (record { inner = nil; stand = subst (λ (i : ℕ). ArgsAt bytes arities 0 (u + 2) nil i) (sym r) none_at; told = sym (append-nil _) })
  parted {u} {e} {t} kind body p q (symbol_at {f = f} {ts = ts} w k b l h) =
      let node : symbolic f ≡ node_of kind body = ap symbolic (sym (q ∙ b)) ∙ sym (symbol_node kind body (p ∙ k)) in
      subst (λ (node : Node). Parted bytes arities u (app f ts) e node) node (record { inner = ts; stand = h; told = refl })

  -- No argument is left: the closing bracket.
  pub arguments_end :
      (many mark u : ℕ) {before after : List ℕ} {k : ℕ} → many ≡ 0 → Lays (41 ∷ []) before k after →
      LaysArguments bytes arities many mark u before (record { laid = k; next = u }) after
  unfolding arguments_text ascii
  arguments_end many mark u {before} {after} {k} none laid = record {
    within = omega (arith, laid.count);
    onward = omega arith;
    text = λ ts e h.
        let ended = args_none h none in
        (lays_as (sym (ap (arguments_text mark) ended.0)) laid, sym ended.1);
  }

  -- The mark, the first argument, and the others behind a comma.
  pub arguments_first :
      (many mark u : ℕ) {before one two four : List ℕ} {k : ℕ} {first others : Texted} → (many ≡ 0 → ⊥) → Lays (mark ∷ []) before k one →
      LaysTerm bytes arities u (mid_of k (length one - k) one) first two → length two ≡ length (mid_of k (length one - k) one) →
      LaysArguments bytes arities (many - 1) 44 first.next
      (mid_of (k + first.laid) (length (put_mid k (length one - k) one two) - (k + first.laid)) (put_mid k (length one - k) one two)) others four →
      LaysArguments bytes arities many mark u before (record { laid = k + first.laid + others.laid; next = others.next })
      (put_mid (k + first.laid) (length (put_mid k (length one - k) one two) - (k + first.laid)) (put_mid k (length one - k) one two) four)
  unfolding arguments_text
  arguments_first many mark u {before} {one} {two} {four} {k} {first} {others} some marked inner kept later = record {
    within = omega (arith, later.within, mid_len at (length between) between (omega arith), room, same);
    onward = omega (arith, inner.onward, later.onward);
    text = λ ts e h.
        let parts = args_first h (omega (arith, some)) in
        let told = inner.text parts.first parts.behind parts.first_stands in
        let rest =
        later.text parts.others e
        (subst (λ (v : ℕ). ArgsAt bytes arities (many - 1) v parts.others e) (sym told.1) parts.others_stand) in
        let words : ((mark ∷ []) ++ term_text parts.first) ++ arguments_text 44 parts.others ≡ arguments_text mark ts =
        append_assoc (mark ∷ []) (term_text parts.first) (arguments_text 44 parts.others)
        ∙ ap (λ (l : List ℕ). (mark ∷ []) ++ (term_text parts.first ++ l)) (after_comma parts.others)
        ∙ sym (ap (arguments_text mark) parts.parted) in
        (lays_as words (lays_then (lays_then marked told.0) rest.0), rest.1);
  }
    where
      at : ℕ
      at = k + first.laid

      between : List ℕ
      between = put_mid k (length one - k) one two

      same : length between ≡ length before
      same = same_len_mid k (length one - k) one two kept ∙ lays_length marked

      room : at ≤ length before
      room = omega (arith, inner.within, mid_len k (length one) one (omega arith), marked.count, lays_length marked)

  -- Where the bytes end no term stands.
  pub no_term_lem :
      (u : ℕ) (before : List ℕ) → length bytes ≤ u + 1 → LaysTerm bytes arities u before (record { laid = 0; next = u }) before
  no_term_lem u before short = record { within = omega arith; onward = omega arith; text = λ t e h. absurd (omega (arith, short, at_root_lem h)) }

  -- A node without arguments.
  pub node_alone :
      (u kind body many : ℕ) {before after : List ℕ} {k : ℕ} → kind ≡ get_or bytes u 0 → body ≡ get_or bytes (u + 1) 0 →
      Lays (name_text (node_of kind body)) before k after → many ≡ arity_of arities (node_of kind body) → many ≡ 0 →
      LaysTerm bytes arities u before (record { laid = k; next = u + 2 }) after
  unfolding bracketed
  node_alone u kind body many {before} {after} {k} p q laid is none = record {
    within = omega (arith, laid.count);
    onward = omega arith;
    text = λ t e h.
        let parts = parted kind body p q h in
        let ended = args_none parts.stand (sym is ∙ none) in
        (lays_as (sym (parts.told ∙ ap (λ (ts : Args). name_text (node_of kind body) ++ bracketed ts) ended.0 ∙ append-nil _)) laid, sym ended.1);
  }

  -- A symbol with its arguments.
  pub node_with_arguments :
      (u kind body many : ℕ) {before one two : List ℕ} {k : ℕ} {rest : Texted} → kind ≡ get_or bytes u 0 → body ≡ get_or bytes (u + 1) 0 →
      Lays (name_text (node_of kind body)) before k one → many ≡ arity_of arities (node_of kind body) → (many ≡ 0 → ⊥) →
      LaysArguments bytes arities many 40 (u + 2) (mid_of k (length one - k) one) rest two →
      LaysTerm bytes arities u before (record { laid = k + rest.laid; next = rest.next }) (put_mid k (length one - k) one two)
  node_with_arguments u kind body many {before} {one} {two} {k} {rest} p q laid is some later = record {
    within = omega (arith, later.within, mid_len k (length one) one (omega arith), lays_length laid, laid.count);
    onward = omega (arith, later.onward);
    text = λ t e h.
        let parts = parted kind body p q h in
        let inner = subst (λ (m : ℕ). ArgsAt bytes arities m (u + 2) parts.inner e) (sym is) parts.stand in
        let told = later.text parts.inner e inner in
        (lays_as (ap (λ (l : List ℕ). name_text (node_of kind body) ++ l) (in_brackets inner some) ∙ sym parts.told) (lays_then laid told.0), told.1);
  }
