-- The rank check accepts exactly the ranks that make every rule decrease, and refusal 8 names the lowest rule that does not: of any test
-- that decides an order, and so of the ranks'. Each line of the check's `do` block is one conjunct: `unless_given_exactly` and
-- `unless_refused_exactly` say which. Assumes nothing.
use Prim.Native.Nat.{ℕ, suc, ◌+◌}
use mathlib.Core.Bool.{Bool}
use mathlib.Core.List.Memᴰ
use mathlib.Core.List.{List, [], ◌∷◌, ◌++◌, Memᴰ}
use mathlib.Core.Logic.Iff
use mathlib.Core.Logic.{◌↔◌, ◌⊎◌, inl, inr, ⊎_elim}
use mathlib.Core.Path.{◌≡◌, refl, sym, ◌∙◌, ap, subst}
use native.Mathlib.Omega.{arith}
use lib.Dec.{T, eqb, eqb→eq, eqb_refl}
use lib.ListN.{length}
use Rattle.reply.specs.Reply.{Refusal, Reply, given, refused, ◌>>=◌, ◌at◌}
use Rattle.reply.proofs.Given.{given_not_refused, unless_given_exactly, unless_refused_exactly}
use Rattle.term.specs.Term.{Term}
use Rattle.book.specs.Book.{Book, Rule, symbols}
use Rattle.book.specs.Reading.{read_book}
use Rattle.order.specs.Precedence.{Above}
use Rattle.order.specs.Exceeds.{Exceeds}
use Rattle.order.specs.Test.{exceeds}
use Rattle.order.specs.Clearing.{Decreases, AllDecrease, Clears, decreases, all_decrease, ranks_clear, check_ranks}
use Rattle.order.proofs.Decides.{exceeds_decides}

-- The rules of a list all decrease exactly if the first does and the others do.
pub all_none : (◌≻◌ : Term → Term → Type 0) → AllDecrease ◌≻◌ []
unfolding AllDecrease
all_none ◌≻◌ rule m = absurd (Memᴰ.not-nil m)

pub all_first :
    (◌≻◌ : Term → Term → Type 0) (rule : Rule) (rules : List Rule) → AllDecrease ◌≻◌ (rule ∷ rules) ↔ (Decreases ◌≻◌ rule × AllDecrease ◌≻◌ rules)
unfolding AllDecrease
all_first ◌≻◌ rule rules =
    (λ c. (c rule (Memᴰ.head refl), λ r m. c r (Memᴰ.tail m)), λ c r m. find c r (Memᴰ.cases_cons m))
  where
    find : Decreases ◌≻◌ rule × AllDecrease ◌≻◌ rules → (r : Rule) → (r ≡ rule) ⊎ Memᴰ r rules → Decreases ◌≻◌ r
    find c r (inl e) = subst (Decreases ◌≻◌) (sym e) c.0
    find c r (inr m) = c.1 r m

-- Refusal 8, "some rule does not decrease", at "the lowest such rule": the rules before it all decrease.
pub record LowestNotDecreasing (◌≻◌ : Term → Term → Type 0) (number : ℕ) (rules : List Rule) (r : Refusal) : Type 0 where
  pub before : List Rule
  pub rule : Rule
  pub behind : List Rule
  pub parts : rules ≡ before ++ rule ∷ behind
  pub is8 : r ≡ 8 at (number + length before)
  pub earlier : AllDecrease ◌≻◌ before
  pub fails : Decreases ◌≻◌ rule → ⊥

-- Of any test that decides an order.
module _ (◌≻◌ : Term → Term → Type 0) (exceeds : Term → Term → Bool) (decides : (s t : Term) → T (exceeds s t) ↔ ◌≻◌ s t) where
  decreases_decides : (rule : Rule) → T (decreases exceeds rule) ↔ Decreases ◌≻◌ rule
  unfolding decreases Decreases
  decreases_decides rule = decides rule.left rule.right

  pub all_decrease_exactly : (number : ℕ) (rules : List Rule) → (all_decrease exceeds number rules ≡ given tt) ↔ AllDecrease ◌≻◌ rules
  unfolding all_decrease
  all_decrease_exactly number [] = (λ e. all_none ◌≻◌, λ c. refl)
  all_decrease_exactly number (rule ∷ rules) =
      Iff.trans (unless_given_exactly (decreases exceeds rule) (8 at number) (all_decrease exceeds (suc number) rules) tt)
      (Iff.trans (Iff.and (decreases_decides rule) (all_decrease_exactly (suc number) rules)) (Iff.symm (all_first ◌≻◌ rule rules)))

  refused→lowest :
      (number : ℕ) (rules : List Rule) (r : Refusal) → all_decrease exceeds number rules ≡ refused r → LowestNotDecreasing ◌≻◌ number rules r
  unfolding all_decrease
  refused→lowest number [] r e = absurd (given_not_refused tt r e)
  refused→lowest number (rule ∷ rules) r e =
      ⊎_elim first (λ h. later h.0 (refused→lowest (suc number) rules r h.1))
      ((unless_refused_exactly (decreases exceeds rule) (8 at number) r (all_decrease exceeds (suc number) rules)).0 e)
    where
      first : (T (decreases exceeds rule) → ⊥) × (8 at number ≡ r) → LowestNotDecreasing ◌≻◌ number (rule ∷ rules) r
      first h =
          record {
            before = [];
            rule = rule;
            behind = rules;
            parts = refl;
            is8 = sym h.1 ∙ ap (λ (place : ℕ). 8 at place) (omega arith);
            earlier = all_none ◌≻◌;
            fails = λ d. h.0 ((decreases_decides rule).1 d);
          }

      later : T (decreases exceeds rule) → LowestNotDecreasing ◌≻◌ (suc number) rules r → LowestNotDecreasing ◌≻◌ number (rule ∷ rules) r
      later d l =
          record {
            before = rule ∷ l.before;
            rule = l.rule;
            behind = l.behind;
            parts = ap (λ (rest : List Rule). rule ∷ rest) l.parts;
            is8 = l.is8 ∙ ap (λ (place : ℕ). 8 at place) (omega arith);
            earlier = (all_first ◌≻◌ rule l.before).1 ((decreases_decides rule).0 d, l.earlier);
            fails = l.fails;
          }

  lowest→refused :
      (number : ℕ) (before : List Rule) (rule : Rule) (behind : List Rule) → AllDecrease ◌≻◌ before → (Decreases ◌≻◌ rule → ⊥) →
      all_decrease exceeds number (before ++ rule ∷ behind) ≡ refused (8 at (number + length before))
  unfolding all_decrease
  lowest→refused number [] rule behind earlier fails =
      (unless_refused_exactly (decreases exceeds rule) (8 at number) (8 at (number + 0)) (all_decrease exceeds (suc number) behind)).1
      (inl (λ d. fails ((decreases_decides rule).0 d), ap (λ (place : ℕ). 8 at place) (omega arith)))
  lowest→refused number (first ∷ before) rule behind earlier fails =
      let clear : Decreases ◌≻◌ first × AllDecrease ◌≻◌ before = (all_first ◌≻◌ first before).0 earlier in
      let later : all_decrease exceeds (suc number) (before ++ rule ∷ behind) ≡ refused (8 at (suc number + length before)) =
      lowest→refused (suc number) before rule behind clear.1 fails in
      (unless_refused_exactly (decreases exceeds first) (8 at number) (8 at (number + suc (length before)))
      (all_decrease exceeds (suc number) (before ++ rule ∷ behind))).1
      (inr ((decreases_decides first).1 clear.0, later ∙ ap (λ (place : ℕ). refused (8 at place)) (omega arith)))

  pub refused_at_the_lowest :
      (number : ℕ) (rules : List Rule) (r : Refusal) → (all_decrease exceeds number rules ≡ refused r) ↔ LowestNotDecreasing ◌≻◌ number rules r
  refused_at_the_lowest number rules r = (
    refused→lowest number rules r,
    λ l. rw (l.parts, l.is8) (lowest→refused number l.before l.rule l.behind l.earlier l.fails),
  )

  -- So whether all rules decrease is decided.
  pub all_decrease_decided : (rules : List Rule) → Dec (AllDecrease ◌≻◌ rules)
  all_decrease_decided rules = go (all_decrease exceeds 0 rules) refl
    where
      go : (reply : Reply (Unit {0})) → all_decrease exceeds 0 rules ≡ reply → Dec (AllDecrease ◌≻◌ rules)
      go (given u) e = yes ((all_decrease_exactly 0 rules).0 e)
      go (refused r) e = no (λ all. given_not_refused tt r (sym ((all_decrease_exactly 0 rules).1 all) ∙ e))

-- Of ranks: refusal 7 comes first.
pub ranks_clear_exactly :
    (book : Book) (ranks : List ℕ) →
    (ranks_clear book ranks ≡ given tt) ↔ ((length ranks ≡ symbols book) × Clears (Above ranks) book.rules)
unfolding ranks_clear
ranks_clear_exactly book ranks =
    Iff.trans (unless_given_exactly (eqb (length ranks) (symbols book)) (7 at 0) (all_decrease (exceeds ranks) 0 book.rules) tt)
    (Iff.and (eqb_decides (length ranks) (symbols book)) (all_decrease_exactly (Exceeds (Above ranks)) (exceeds ranks) (exceeds_decides ranks) 0 book.rules))
  where
    eqb_decides : (m n : ℕ) → T (eqb m n) ↔ (m ≡ n)
    eqb_decides m n = (eqb→eq m n, λ p. subst (λ (k : ℕ). T (eqb m k)) p (eqb_refl m))

pub check_of_read :
    (bytes : List ℕ) (book : Book) (ranks : List ℕ) → read_book bytes ≡ given book → check_ranks bytes ranks ≡ ranks_clear book ranks
unfolding check_ranks ◌>>=◌
check_of_read bytes book ranks read = rw (read, ◌>>=◌)

pub accepted_exactly :
    (bytes : List ℕ) (book : Book) (ranks : List ℕ) → read_book bytes ≡ given book →
    (check_ranks bytes ranks ≡ given tt) ↔ ((length ranks ≡ symbols book) × Clears (Above ranks) book.rules)
accepted_exactly bytes book ranks read = rw (check_of_read bytes book ranks read) (ranks_clear_exactly book ranks)
