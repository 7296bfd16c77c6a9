-- The arguments are passed one by one up to the one that is asked for. Assumes nothing.
use Prim.Native.Nat.{ℕ, zero, suc, ◌+◌, ◌*◌, ◌-◌, ◌<◌, ◌≤◌}
use mathlib.Core.List.{List}
use mathlib.Core.Path.{◌≡◌, refl, sym, ap, subst, ◌∙◌}
use native.Mathlib.Nat.{le_of_suc-le-suc}
use native.Mathlib.Omega.{arith}
use Rattle.reply.specs.Reply.{Reply, given, refused, ◌at◌}
use Rattle.reply.proofs.Given.{refused_not_given}
use Rattle.term.specs.Term.{Term, Args, var, app, nil, cons, size, sizes, count}
use Rattle.term.specs.Root.{arguments}
use Rattle.term.specs.At.{At, ArgsAt}
use Rattle.term.proofs.At.{FirstAt, at_end_lem, at_arguments, args_first}
use Rattle.steps.specs.Argument.{Part, part_of, argument_of}

-- The root's arguments decide.
by_arguments : (t : Term) (i : ℕ) → argument_of t i ≡ part_of 2 (arguments t) i
unfolding argument_of part_of arguments
by_arguments (var x) i = refl
by_arguments (app f ts) i = refl

too_few : (p : ℕ) (ts : Args) (i : ℕ) → count ts ≤ i → part_of p ts i ≡ refused (15 at 0)
unfolding part_of count
too_few p nil i h = refl
too_few p (cons t ts) zero h = absurd (omega arith)
too_few p (cons t ts) (suc i) h = too_few (p + 2 * size t) ts i (le_of_suc-le-suc h)

pub no_such_argument : (t : Term) (i : ℕ) → count (arguments t) ≤ i → argument_of t i ≡ refused (15 at 0)
no_such_argument t i h = by_arguments t i ∙ too_few 2 (arguments t) i h

-- So many arguments were passed; the next starts at a place.
pub record Passing (bytes arities : List ℕ) (t : Term) (e number start passed : ℕ) : Type 0 where
  pub many : ℕ
  pub ahead : Args
  pub stand : ArgsAt bytes arities many start ahead e
  pub enough : number - passed < many
  pub so_far : passed ≤ number
  pub decide : argument_of t number ≡ part_of start ahead (number - passed)

pub none_passed :
    {bytes arities : List ℕ} {t : Term} {e : ℕ} (number : ℕ) → At bytes arities 0 t e → number < count (arguments t) →
    Passing bytes arities t e number 2 0
none_passed {t = t} number h p = record {
  many = count (arguments t);
  ahead = arguments t;
  stand = at_arguments h;
  enough = omega arith;
  so_far = omega arith;
  decide = by_arguments t number ∙ ap (part_of 2 (arguments t)) (omega arith);
}

module _ {bytes arities : List ℕ} {t : Term} {e number start passed : ℕ} (passing : Passing bytes arities t e number start passed) where
  pub this : FirstAt bytes arities passing.many start passing.ahead e
  this = args_first passing.stand (omega (arith, passing.enough))

  parted : argument_of t number ≡ part_of start (cons this.first this.others) (number - passed)
  parted = passing.decide ∙ ap (λ (ts : Args). part_of start ts (number - passed)) this.parted

  pub one_more_passed : (next : ℕ) → passed < number → next ≡ this.behind → Passing bytes arities t e number next (passed + 1)
  unfolding part_of
  one_more_passed next p q =
      let one_less : number - passed ≡ suc (number - (passed + 1)) = omega arith in
      let behind : start + 2 * size this.first ≡ next = sym (at_end_lem this.first_stands) ∙ sym q in
      record {
        many = passing.many - 1;
        ahead = this.others;
        stand = subst (λ (u : ℕ). ArgsAt bytes arities (passing.many - 1) u this.others e) (sym q) this.others_stand;
        enough = omega (arith, passing.enough);
        so_far = omega arith;
        decide =
            parted
            ∙ ap (part_of start (cons this.first this.others)) one_less
            ∙ ap (λ (u : ℕ). part_of u this.others (number - (passed + 1))) behind;
      }

  pub argument_found : (end : ℕ) → number ≤ passed → end ≡ this.behind → given (record { start = start; length = end - start }) ≡ argument_of t number
  unfolding part_of
  argument_found end p q =
      let none_left : number - passed ≡ 0 = omega arith in
      let long : end - start ≡ 2 * size this.first = omega (arith, at_end_lem this.first_stands) in
      ap {B = Reply Part} (λ (n : ℕ). given (record { start = start; length = n })) long
      ∙ ap (part_of start (cons this.first this.others)) (sym none_left)
      ∙ sym parted

-- A part that is found lies within the term's bytes.
within_terms : (p : ℕ) (ts : Args) (i : ℕ) (part : Part) → part_of p ts i ≡ given part → part.start + part.length ≤ p + 2 * sizes ts
unfolding part_of size
within_terms p nil i part e = absurd (refused_not_given (15 at 0) part e)
within_terms p (cons t ts) zero part e =
    let is : record { start = p; length = 2 * size t } ≡ part = cc in
    omega (arith, ap (λ (q : Part). q.start) is, ap (λ (q : Part). q.length) is)
within_terms p (cons t ts) (suc i) part e = omega (arith, within_terms (p + 2 * size t) ts i part e)

pub within_term : (t : Term) (i : ℕ) (part : Part) → argument_of t i ≡ given part → part.start + part.length ≤ 2 * size t
unfolding argument_of size
within_term (var x) i part e = absurd (refused_not_given (15 at 0) part e)
within_term (app f ts) i part e = omega (arith, within_terms 2 ts i part e)
