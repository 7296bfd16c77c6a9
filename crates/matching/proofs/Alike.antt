-- The first nodes of a left side and a subterm: where they differ the left side does not fit. Assumes nothing.
use Prim.Native.Nat.{ℕ}
use mathlib.Core.Bool.{Bool, true, false, ◌&&◌}
use mathlib.Core.Path.{◌≡◌, refl, ap}
use lib.Dec.{eqb}
use Rattle.std.specs.Prelude.{Option, Some, None, is_some}
use Rattle.std.specs.Option.{option_eq}
use Rattle.std.proofs.lemmas.Bool.{eqb-true, eq-eqb}
use Rattle.term.specs.Term.{Term, var, app, same, sames}
use Rattle.term.specs.Root.{symbol_of}
use Rattle.term.specs.Replacement.{replace, replace_all}
use Rattle.steps.specs.Fits.{matching, fits}
use Rattle.matching.specs.Alike.{begins_alike}

-- Two roots, compared.
pub same_symbol : (o : Option ℕ) {f : ℕ} → option_eq eqb o (Some f) ≡ true → o ≡ Some f
same_symbol None q = cc
same_symbol (Some g) {f} q = ap {B = Option ℕ} Some (eqb-true g f q)

pub differ : {o : Option ℕ} {f : ℕ} → option_eq eqb o (Some f) ≡ false → o ≡ Some f → ⊥
differ {f = f} q p = cc (ap (λ (z : Option ℕ). option_eq eqb z (Some f)) p, eq-eqb f f refl)

pub begins_otherwise : (left s : Term) → begins_alike left s ≡ false → fits left s ≡ false
unfolding begins_alike fits replace same
begins_otherwise (var x) s q = absurd cc
begins_otherwise (app f ls) (var y) q = refl
begins_otherwise (app f ls) (app g ss) q = ap (λ (b : Bool). b && sames (replace_all (matching (app f ls) (app g ss)) ls) ss) q

-- What the roots tell: a left side that has no symbol begins alike, and else the two are compared.
pub no_symbol_alike : (left s : Term) → is_some (symbol_of left) ≡ false → true ≡ begins_alike left s
unfolding begins_alike symbol_of
no_symbol_alike (var x) s q = refl
no_symbol_alike (app f ls) s q = absurd cc

pub symbols_compared : (left s : Term) → is_some (symbol_of left) ≡ true → option_eq eqb (symbol_of left) (symbol_of s) ≡ begins_alike left s
unfolding begins_alike symbol_of
symbols_compared (var x) s q = absurd cc
symbols_compared (app f ls) (var y) q = refl
symbols_compared (app f ls) (app g ss) q = refl
