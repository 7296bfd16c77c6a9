-- The variables of a rule's node blocks lie within, if G of different symbols, and C and D of any two nodes do. Assumes nothing.
use Prim.Native.Nat.{ℕ, suc, ◌+◌, ◌≤◌, ◌<◌}
use mathlib.Core.Bool.{Bool, true, false}
use mathlib.Core.List.{List, [], ◌∷◌, map}
use mathlib.Core.Logic.{◌≢◌}
use mathlib.Core.Path.{◌≡◌, refl}
use native.Mathlib.Omega.{arith}
use lib.Dec.{T, eqb}
use lib.ListN.{length}
use Rattle.reply.proofs.Every.{Every, every_append, every_map}
use Rattle.reply.proofs.Tests.{differ}
use Rattle.term.specs.Term.{Term, var, app, size, over, same}
use Rattle.clauses.specs.Cnf.{is}
use Rattle.clauses.specs.Numbering.{G}
use Rattle.clauses.specs.Blocks.{Numbered, numbered_args, Setting, CAt, DAt, parts_behind, parts_of_d, parts_of_c, some_identical, node_block, clauses_of_c}
use Rattle.clauses.specs.Wholes.{all_parts, some_parts}
use Rattle.clauses.proofs.Items.{Within, Over}
use Rattle.clauses.proofs.Wholes.{all_parts_over, some_parts_over}
use Rattle.clauses.proofs.Inside.{Inside, arguments_inside, size_positive, symbol_declared, arguments_over}

-- What a rule's setting has to give: `lefts` nodes on the left, G of different symbols, C and D of any two nodes.
pub record Fits (arities : List ℕ) (top lefts : ℕ) (c : Setting) : Type 0 where
  pub C_fits : (u v : ℕ) → u < lefts → v < c.width → Within top (CAt c u v)
  pub D_fits : (u v : ℕ) → u < lefts → v < c.width → Within top (DAt c u v)
  pub G_fits : (f g : ℕ) → f < length arities → g < length arities → f ≢ g → Within top (G c.n c.k f g c.k)

module _ (arities : List ℕ) (top lefts : ℕ) (c : Setting) (fits : Fits arities top lefts c) where
  node_inside : (end : ℕ) (s : Numbered) → Inside arities end s → s.node < end
  node_inside end s i = omega (arith, size_positive s.term, i.ends)

  row_within :
      (u : ℕ) → u < lefts → (ts : List Numbered) → Every (Inside arities c.width) ts →
      Every (Within top) (map (λ (tⱼ : Numbered). CAt c u tⱼ.node) ts)
  row_within u h =
      every_map (Inside arities c.width) (Within top) (λ (tⱼ : Numbered). CAt c u tⱼ.node)
      (λ tⱼ i. fits.C_fits u tⱼ.node h (node_inside c.width tⱼ i))

  column_within :
      (v : ℕ) → v < c.width → (ss : List Numbered) → Every (Inside arities lefts) ss →
      Every (Within top) (map (λ (sᵢ : Numbered). CAt c sᵢ.node v) ss)
  column_within v h =
      every_map (Inside arities lefts) (Within top) (λ (sᵢ : Numbered). CAt c sᵢ.node v)
      (λ sᵢ i. fits.C_fits sᵢ.node v (node_inside lefts sᵢ i) h)

  behind_within :
      (u : ℕ) → u < lefts → (ss ts : List Numbered) → Every (Inside arities lefts) ss → Every (Inside arities c.width) ts →
      Every (Within top) (parts_behind c u ss ts)
  unfolding parts_behind
  behind_within u h [] ts ins js = tt
  behind_within u h (a ∷ ss) [] ins js = tt
  behind_within u h (a ∷ ss) (b ∷ ts) ins js = go (same a.term b.term) refl (behind_within u h ss ts ins.1 js.1)
    where
      go : (t : Bool) → same a.term b.term ≡ t → Every (Within top) (parts_behind c u ss ts) → Every (Within top) (parts_behind c u (a ∷ ss) (b ∷ ts))
      go true e later = rw (e, parts_behind) later
      go false e later =
          rw (e, parts_behind)
          (fits.C_fits a.node b.node (node_inside lefts a ins.0) (node_inside c.width b js.0), row_within u h ts js.1)

  parts_of_D_within :
      (u v : ℕ) (s t : Term) → u + size s ≤ lefts → v + size t ≤ c.width → T (over arities s) → T (over arities t) →
      Every (Within top) (parts_of_d c u v s t)
  unfolding parts_of_d size
  parts_of_D_within u v (var x) t hu hv os ot = tt
  parts_of_D_within u v (app f ss) (var y) hu hv os ot = tt
  parts_of_D_within u v (app f ss) (app g ts) hu hv os ot = go (eqb f g) refl
    where
      lefts_inside : Every (Inside arities lefts) (numbered_args (suc u) ss)
      lefts_inside = arguments_inside arities ss (suc u) lefts (omega arith) (arguments_over arities f ss os)

      rights_inside : Every (Inside arities c.width) (numbered_args (suc v) ts)
      rights_inside = arguments_inside arities ts (suc v) c.width (omega arith) (arguments_over arities g ts ot)

      go : (t : Bool) → eqb f g ≡ t → Every (Within top) (parts_of_d c u v (app f ss) (app g ts))
      go true e = rw (e, parts_of_d) (behind_within u (omega arith) (numbered_args (suc u) ss) (numbered_args (suc v) ts) lefts_inside rights_inside)
      go false e =
          rw (e, parts_of_d) (
            fits.G_fits f g (symbol_declared arities f ss os) (symbol_declared arities g ts ot) (differ f g e),
            row_within u (omega arith) (numbered_args (suc v) ts) rights_inside,
          )

  parts_of_C_within :
      (u v : ℕ) (s : Term) → u + size s ≤ lefts → v < c.width → T (over arities s) → Every (Within top) (parts_of_c c u v s)
  unfolding parts_of_c size
  parts_of_C_within u v (var x) hu hv os = (fits.D_fits u v (omega arith) hv, tt)
  parts_of_C_within u v (app f ss) hu hv os =
      every_append (Within top) (map (λ (sᵢ : Numbered). CAt c sᵢ.node v) (numbered_args (suc u) ss)) (DAt c u v ∷ [])
      (column_within v hv (numbered_args (suc u) ss)
      (arguments_inside arities ss (suc u) lefts (omega arith) (arguments_over arities f ss os)))
      (fits.D_fits u v (omega arith) hv, tt)

  pub node_block_over : (s t : Numbered) → Inside arities lefts s → Inside arities c.width t → Every (Over top) (node_block c s t)
  unfolding node_block clauses_of_c
  node_block_over s t i j =
      every_append (Over top) (all_parts d (parts_of_d c s.node t.node s.term t.term)) _
      (all_parts_over top d (fits.D_fits s.node t.node hu hv) (parts_of_d c s.node t.node s.term t.term)
      (parts_of_D_within s.node t.node s.term t.term i.ends j.ends i.over_symbols j.over_symbols))
      (go (some_identical s.term t.term))
    where
      d : ℕ
      d = DAt c s.node t.node

      hu : s.node < lefts
      hu = node_inside lefts s i

      hv : t.node < c.width
      hv = node_inside c.width t j

      go :
          (b : Bool) →
          Every (Over top)
          (elim b [
            | true ↦ (is (CAt c s.node t.node) ∷ []) ∷ []
            | false ↦ some_parts (CAt c s.node t.node) (parts_of_c c s.node t.node s.term)
          ])
      go true = ((fits.C_fits s.node t.node hu hv, tt), tt)
      go false =
          some_parts_over top (CAt c s.node t.node) (fits.C_fits s.node t.node hu hv)
          (parts_of_c c s.node t.node s.term)
          (parts_of_C_within s.node t.node s.term i.ends hv i.over_symbols)
