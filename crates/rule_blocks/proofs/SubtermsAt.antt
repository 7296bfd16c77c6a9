-- Node u of a side that stands at a is a subterm that stands at a + 2u, and number u of the side's subterms. Assumes nothing.
use Prim.Native.Nat.{ℕ, zero, suc, ◌+◌, ◌-◌, ◌*◌, ◌≤◌, ◌<◌}
use mathlib.Core.List.{List, [], ◌∷◌, ◌++◌}
use mathlib.Core.Option.{some}
use mathlib.Core.Path.{◌≡◌, sym, ap, subst, ◌∙◌}
use native.Mathlib.Decide.{dec_lt}
use native.Mathlib.Omega.{arith}
use lib.ListN.{length, get_elem?}
use Rattle.term.specs.Term.{Term, Args, size, sizes}
use Rattle.term.specs.At.{At, ArgsAt, variable_at, symbol_at, none_at, and_at}
use Rattle.term.proofs.At.{at_end_lem}
use Rattle.clauses.specs.Blocks.{Numbered, subterms, subterms_of}
use Rattle.clauses.proofs.Inside.{subterms_counted}
use Rattle.clauses.proofs.Elements.{element_left, element_right}

-- The subterm at a node of `many`, where the first has number n.
pub record SubtermAt (bytes arities : List ℕ) (start n node many : ℕ) (among : List Numbered) : Type 0 where
  pub term : Term
  pub behind : ℕ
  pub stands : At bytes arities (start + 2 * node) term behind
  pub within : node + size term ≤ many
  pub listed : get_elem? among node ≡ some (record { node = n + node; term = term })

module _ {bytes arities : List ℕ} where
  root_at : {u : ℕ} {t : Term} {e : ℕ} (n : ℕ) (others : List Numbered) → At bytes arities u t e → SubtermAt bytes arities u n 0 (size t) (record { node = n; term = t } ∷ others)
  root_at {u} {t} {e} n others stands =
      let same : n ≡ n + 0 = omega arith in
      record {
        term = t;
        behind = e;
        stands = subst (λ (v : ℕ). At bytes arities v t e) (omega arith) stands;
        within = omega arith;
        listed = ap (λ (m : ℕ). some (record { node = m; term = t })) same;
      }

  -- A subterm of the first, or of the others.
  among_first :
      {u n node : ℕ} (t : Term) (more : ℕ) (others : List Numbered) → node < size t → SubtermAt bytes arities u n node (size t) (subterms n t) →
      SubtermAt bytes arities u n node (size t + more) (subterms n t ++ others)
  among_first {n = n} {node = node} t more others h here =
      record {
        term = here.term;
        behind = here.behind;
        stands = here.stands;
        within = omega (arith, here.within);
        listed = element_left (subterms n t) others node (omega (arith, subterms_counted t n)) ∙ here.listed;
      }

  among_others :
      {u m : ℕ} (n node : ℕ) (t : Term) (more : ℕ) (others : List Numbered) → m ≡ u + 2 * size t → size t ≤ node →
      SubtermAt bytes arities m (n + size t) (node - size t) more others →
      SubtermAt bytes arities u n node (size t + more) (subterms n t ++ others)
  among_others {u} {m} n node t more others e h here =
      let split : length (subterms n t) + (node - size t) ≡ node = omega (arith, subterms_counted t n) in
      let number : n + size t + (node - size t) ≡ n + node = omega arith in
      record {
        term = here.term;
        behind = here.behind;
        stands = subst (λ (v : ℕ). At bytes arities v here.term here.behind) (omega arith) here.stands;
        within = omega (arith, here.within);
        listed =
            ap (get_elem? (subterms n t ++ others)) (sym split)
            ∙ element_right (subterms n t) others (node - size t)
            ∙ here.listed
            ∙ ap (λ (k : ℕ). some (record { node = k; term = here.term })) number;
      }

  behind_root : {u n node many : ℕ} {among : List Numbered} (root : Numbered) → SubtermAt bytes arities (u + 2) (suc n) node many among → SubtermAt bytes arities u n (suc node) (suc many) (root ∷ among)
  behind_root {u} {n} {node} root here =
      let number : suc n + node ≡ n + suc node = omega arith in
      record {
        term = here.term;
        behind = here.behind;
        stands = subst (λ (v : ℕ). At bytes arities v here.term here.behind) (omega arith) here.stands;
        within = omega (arith, here.within);
        listed = here.listed ∙ ap (λ (k : ℕ). some (record { node = k; term = here.term })) number;
      }

  mutual
    unfolding size subterms

    pub subterm_at_lem : {u : ℕ} {t : Term} {e : ℕ} → At bytes arities u t e → (n node : ℕ) → node < size t → SubtermAt bytes arities u n node (size t) (subterms n t)
    subterm_at_lem (variable_at w k b q) n zero h = root_at n [] (variable_at w k b q)
    subterm_at_lem (variable_at w k b q) n (suc node) h = absurd (omega arith)
    subterm_at_lem (symbol_at {ts = ts} w k b l args) n zero h = root_at n (subterms_of (suc n) ts) (symbol_at w k b l args)
    subterm_at_lem (symbol_at {ts = ts} w k b l args) n (suc node) h = behind_root _ (subterm_among args (suc n) node (omega arith))

    subterm_among :
        {many u : ℕ} {ts : Args} {e : ℕ} → ArgsAt bytes arities many u ts e → (n node : ℕ) → node < sizes ts →
        SubtermAt bytes arities u n node (sizes ts) (subterms_of n ts)
    subterm_among none_at n node h = absurd (omega arith)
    subterm_among (and_at {t = t} {ts = ts} one others) n node h =
        elim (dec_lt node (size t)) [
          | yes first ↦ among_first t (sizes ts) (subterms_of (n + size t) ts) first (subterm_at_lem one n node first)
          | no later ↦ among_others n node t (sizes ts) (subterms_of (n + size t) ts) (at_end_lem one) (omega arith) (subterm_among others (n + size t) (node - size t) (omega arith))
        ]
