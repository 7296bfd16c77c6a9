-- Whether one of several subterms is identical to a term, subterm by subterm. Assumes nothing.
use Prim.Native.Nat.{ℕ, ◌+◌, ◌-◌, ◌*◌, ◌<◌}
use mathlib.Core.Bool.{Bool, true, false, ◌||◌}
use mathlib.Core.List.{List}
use mathlib.Core.Path.{◌≡◌, sym, ap, subst, ◌∙◌}
use native.Mathlib.Omega.{arith}
use Rattle.term.specs.Term.{Term, Args, size, same}
use Rattle.term.specs.At.{At, ArgsAt}
use Rattle.term.proofs.At.{args_none}
use Rattle.order.specs.Test.{some_arg}
use Rattle.rule_blocks.specs.Nodes.{NodesAt}
use Rattle.rule_blocks.proofs.Walk.{first_node, nodes_others}

module _ {bytes arities : List ℕ} (start a many : ℕ) (t : Term) {ss : Args} {d : ℕ} (stand : ArgsAt bytes arities many (start + 2 * a) ss d) where
  pub identical_none : many ≡ 0 → false ≡ some_arg (λ s. same s t) ss
  unfolding some_arg
  identical_none h = sym (ap (some_arg (λ s. same s t)) (args_none stand h).0)

  pub identical_first :
      0 < many → ((s : Term) (e : ℕ) → At bytes arities (start + 2 * a) s e → true ≡ same s t) → true ≡ some_arg (λ s. same s t) ss
  unfolding some_arg
  identical_first h here =
      let one = first_node start a many stand h in
      ap (λ (b : Bool). b || some_arg (λ s. same s t) one.others) (here one.first one.behind one.first_stands)
      ∙ ap (some_arg (λ s. same s t)) (sym one.parted)

  pub identical_later :
      0 < many → ((s : Term) (e : ℕ) → At bytes arities (start + 2 * a) s e → false ≡ same s t) → (found : Bool) (after : ℕ) →
      ((s : Term) (e : ℕ) → At bytes arities (start + 2 * a) s e → after ≡ a + size s) →
      ((ts : Args) (e : ℕ) → ArgsAt bytes arities (many - 1) (start + 2 * after) ts e → found ≡ some_arg (λ s. same s t) ts) →
      found ≡ some_arg (λ s. same s t) ss
  unfolding some_arg
  identical_later h differs found after behind later =
      let one = first_node start a many stand h in
      later one.others d
      (subst (λ (n : ℕ). ArgsAt bytes arities (many - 1) (start + 2 * n) one.others d) (sym (behind one.first one.behind one.first_stands)) one.others_stand)
      ∙ ap (λ (b : Bool). b || some_arg (λ s. same s t) one.others) (differs one.first one.behind one.first_stands)
      ∙ ap (some_arg (λ s. same s t)) (sym one.parted)

-- A walk that has passed some of several subterms, none of which is identical to the term at t: an answer for those that are left is one
-- for all.
pub record Passed (bytes arities : List ℕ) (start node₀ many₀ t node many : ℕ) : Type 0 where
  pub left : NodesAt bytes arities start node many
  pub all :
      (r : Bool) (t' : Term) (e : ℕ) → At bytes arities t t' e →
      ((ss : Args) (d : ℕ) → ArgsAt bytes arities many (start + 2 * node) ss d → r ≡ some_arg (λ s. same s t') ss) →
      (ss : Args) (d : ℕ) → ArgsAt bytes arities many₀ (start + 2 * node₀) ss d → r ≡ some_arg (λ s. same s t') ss

module _ {bytes arities : List ℕ} {start node₀ many₀ t node many : ℕ} (passed : Passed bytes arities start node₀ many₀ t node many) where
  pub passed_one :
      {after many' : ℕ} → many' + 1 ≡ many →
      ((s t' : Term) (d e : ℕ) → At bytes arities (start + 2 * node) s d → At bytes arities t t' e → false ≡ same s t') →
      ((s : Term) (e : ℕ) → At bytes arities (start + 2 * node) s e → after ≡ node + size s) →
      Passed bytes arities start node₀ many₀ t after many'
  passed_one {after} {many'} one differs behind =
      let some : 0 < many = omega arith in
      let fewer : many - 1 ≡ many' = omega arith in
      record {
        left = nodes_others passed.left one behind;
        all = λ r t' e ht later.
            passed.all r t' e ht
            (λ ss d hs.
            identical_later start node many t' hs some (λ s d' h. differs s t' d' e h ht) r after behind
            (λ ts d' k. later ts d' (subst (λ (n : ℕ). ArgsAt bytes arities n (start + 2 * after) ts d') fewer k)));
      }

  pub passed_found :
      0 < many → ((s t' : Term) (d e : ℕ) → At bytes arities (start + 2 * node) s d → At bytes arities t t' e → true ≡ same s t') →
      (t' : Term) (e : ℕ) → At bytes arities t t' e → (ss : Args) (d : ℕ) → ArgsAt bytes arities many₀ (start + 2 * node₀) ss d →
      true ≡ some_arg (λ s. same s t') ss
  passed_found some alike t' e ht =
      passed.all true t' e ht (λ ss d hs. identical_first start node many t' hs some (λ s d' h. alike s t' d' e h ht))

  pub passed_all :
      many ≡ 0 → (t' : Term) (e : ℕ) → At bytes arities t t' e → (ss : Args) (d : ℕ) → ArgsAt bytes arities many₀ (start + 2 * node₀) ss d →
      false ≡ some_arg (λ s. same s t') ss
  passed_all none t' e ht = passed.all false t' e ht (λ ss d hs. identical_none start node many t' hs none)

pub passed_none :
    {bytes arities : List ℕ} {start node₀ many₀ t many : ℕ} → many ≡ many₀ → NodesAt bytes arities start node₀ many₀ →
    Passed bytes arities start node₀ many₀ t node₀ many
passed_none {bytes} {arities} {start} {node₀} {many₀} {t} e here =
    subst (Passed bytes arities start node₀ many₀ t node₀) (sym e) record { left = here; all = λ r t' e ht later. later }
