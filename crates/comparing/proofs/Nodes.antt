-- How many nodes the terms have that stand at a place, as a number that the bytes give: the number that falls over a comparison's calls.
-- Assumes nothing.
use Prim.Native.Nat.{ℕ, zero, suc, ◌+◌, ◌≤◌}
use mathlib.Core.List.{List}
use mathlib.Core.Path.{◌≡◌, refl, sym, ap, ◌∙◌}
use native.Mathlib.Omega.{arith}
use lib.ListN.{length, get_or}
use Rattle.term.specs.Term.{Term, Args, var, app, nil, cons, size, sizes, count}
use Rattle.term.specs.Root.{arguments}
use Rattle.term.specs.Prefix.{node_of, arity_of}
use Rattle.term.specs.At.{At, ArgsAt, variable_at, symbol_at, none_at, and_at}
use Rattle.term.proofs.Nodes.{symbol_opens, variable_opens}
use Rattle.term.proofs.At.{joined, at_root_lem, args_count, args_end, args_within, root_passed}

sizes_joined : (ss ts : Args) → sizes (joined ss ts) ≡ sizes ss + sizes ts
unfolding size joined
sizes_joined nil ts = omega arith
sizes_joined (cons s ss) ts = let r = sizes_joined ss ts in omega arith

pub size_root : (t : Term) → size t ≡ suc (sizes (arguments t))
unfolding size arguments
size_root (var x) = refl
size_root (app f ts) = refl

module _ (bytes arities : List ℕ) where
  -- The nodes of so many terms from u on, one by one, as far as the fuel allows: a node is one of them and brings its arguments.
  passed : (fuel many u : ℕ) → ℕ
  passed zero many u = 0
  passed (suc fuel) zero u = 0
  passed (suc fuel) (suc many) u = suc (passed fuel (arity_of arities (node_of (get_or bytes u 0) (get_or bytes (u + 1) 0)) + many) (u + 2))

  -- There are no more nodes than bytes.
  pub nodes : (many u : ℕ) → ℕ
  nodes many u = passed (length bytes) many u

module _ {bytes arities : List ℕ} where
  root_opens : {u : ℕ} {t : Term} {e : ℕ} → At bytes arities u t e → arity_of arities (node_of (get_or bytes u 0) (get_or bytes (u + 1) 0)) ≡ count (arguments t)
  unfolding arguments count
  root_opens {u} (variable_at w k b q) = variable_opens arities (get_or bytes u 0) (get_or bytes (u + 1) 0) (λ p. omega arith)
  root_opens {u} (symbol_at w k b l h) =
      symbol_opens arities (get_or bytes u 0) (get_or bytes (u + 1) 0) k ∙ ap (λ i. get_or arities i 0) b ∙ sym (args_count h)

  all_passed :
      (fuel : ℕ) {many u : ℕ} {ts : Args} {e : ℕ} → ArgsAt bytes arities many u ts e → sizes ts ≤ fuel → passed bytes arities fuel many u ≡ sizes ts
  unfolding passed size
  all_passed zero h w = omega arith
  all_passed (suc fuel) none_at w = refl
  all_passed (suc fuel) (and_at {many = many} {u = u} {t = t} {ts = ts} h hs) w =
      let sum = sizes_joined (arguments t) ts in
      let root = size_root t in
      rw (root_opens h) (ap suc (all_passed fuel (root_passed h hs refl) (omega arith)) ∙ omega arith)

  few : {many u : ℕ} {ts : Args} {e : ℕ} → ArgsAt bytes arities many u ts e → sizes ts ≤ length bytes
  unfolding size
  few none_at = omega arith
  few (and_at h hs) = omega (arith, at_root_lem h, args_end (and_at h hs), args_within (and_at h hs) (omega (arith, at_root_lem h)))

  pub nodes_are : {many u : ℕ} {ts : Args} {e : ℕ} → ArgsAt bytes arities many u ts e → nodes bytes arities many u ≡ sizes ts
  unfolding nodes
  nodes_are h = all_passed (length bytes) h (few h)

  pub nodes_of_one : {u : ℕ} {t : Term} {e : ℕ} → At bytes arities u t e → nodes bytes arities 1 u ≡ size t
  unfolding size
  nodes_of_one h = nodes_are (and_at h none_at) ∙ omega arith
