-- A reply's text in parts, some of which tell the term that stands at a place of some bytes. Assumes nothing.
use Prim.Native.Nat.{ℕ, ◌+◌, ◌-◌}
use mathlib.Core.List.{List, ◌++◌}
use mathlib.Core.Path.{◌≡◌, ◌∙◌}
use native.Mathlib.Omega.{arith}
use lib.ListN.{length}
use borrow.Rule.Slice.PartMut.{mid_of, put_mid, mid_len, same_len_mid}
use Rattle.text.specs.Laying.{Lays}
use Rattle.text.proofs.Laying.{lays_then, lays_length}
use Rattle.term.specs.Term.{Term}
use Rattle.term_text.specs.TermText.{term_text, LaysTerm}
use Rattle.term_text.specs.declared.Texted.{Texted}
use Rattle.term_lines.specs.Lines.{LaysFor}

module _ {bytes arities : List ℕ} {u : ℕ} where
  -- A part that tells no term.
  pub any_term : {text before after : List ℕ} {k : ℕ} → Lays text before k after → LaysFor bytes arities u (λ t. text) before k after
  any_term laid = record { within = omega (arith, laid.count); same = lays_length laid; told = λ t e h. laid }

  -- The term itself.
  pub the_term :
      {before after : List ℕ} {r : Texted} → LaysTerm bytes arities u before r after → length after ≡ length before →
      LaysFor bytes arities u term_text before r.laid after
  the_term laid kept = record { within = laid.within; same = kept; told = λ t e h. (laid.text t e h).0 }

  -- One part behind another.
  pub then :
      {f g : Term → List ℕ} {before one two : List ℕ} {k m : ℕ} → LaysFor bytes arities u f before k one →
      LaysFor bytes arities u g (mid_of k (length one - k) one) m two →
      LaysFor bytes arities u (λ t. f t ++ g t) before (k + m) (put_mid k (length one - k) one two)
  then {before = before} {one} {two} {k} first second = record {
    within = omega (arith, second.within, mid_len k (length one) one (omega (arith, first.within, first.same)), first.within, first.same);
    same = same_len_mid k (length one - k) one two second.same ∙ first.same;
    told = λ t e h. lays_then (first.told t e h) (second.told t e h);
  }
