-- If any strict precedence clears the rules, then so do ranks below the number of symbols. The rank of f is how many symbols lie below
-- f. The precedence need not be decidable: whether some table of ranks clears is found out by trying all of them, so it is enough that it
-- cannot fail, and to show that, finitely many instances of the precedence may be taken as decided. Assumes nothing.
use Prim.Native.Nat.{ℕ, ◌<◌}
use mathlib.Core.List.{List, Memᴰ}
use mathlib.Core.Path.{◌≡◌, subst}
use native.Mathlib.Decide.{map_dec, dec_lt}
use lib.ListN.{length, get_or}
use Rattle.book.specs.Book.{Rule}
use Rattle.order.specs.Precedence.{StrictPrecedence, Above}
use Rattle.order.specs.Exceeds.{Exceeds}
use Rattle.order.specs.Test.{exceeds}
use Rattle.order.specs.Clearing.{Decreases, AllDecrease, Clears}
use Rattle.order.proofs.Decides.{exceeds_decides}
use Rattle.order.proofs.Checked.{all_decrease_decided}
use Rattle.order.proofs.Counting.{how_many, how_many_all, more}
use Rattle.order.proofs.Decisions.{undecided_absurd, all_below}
use Rattle.order.proofs.Grows.{SymbolIn, grows}
use Rattle.order.proofs.Tables.{Table, some_table, tabled, tabled_length, tabled_at, tabled_below}

abbrev ClearingTable : (n : ℕ) → List Rule → Type 0
ClearingTable n rules = Table n n (λ (ranks : List ℕ). Clears (Above ranks) rules)

module _
    (n : ℕ)
    (rules : List Rule)
    (above : ℕ → ℕ → Type 0)
    (strict : StrictPrecedence n above)
    (clears : Clears above rules)
    (declared-left : (rule : Rule) → Memᴰ rule rules → (f : ℕ) → SymbolIn f rule.left → f < n)
    (declared-right : (rule : Rule) → Memᴰ rule rules → (f : ℕ) → SymbolIn f rule.right → f < n) where
  -- With the precedence decided on the symbols (`Below` is decided everywhere), the rank of f is how many symbols lie below f.
  from_decisions : ((f : ℕ) → f < n → (g : ℕ) → g < n → Dec (above f g)) → ClearingTable n rules
  unfolding AllDecrease Decreases Above
  from_decisions decided = (tabled rank n, tabled_length rank n, tabled_below rank n n below_n, λ rule m. grows (clears rule m) (larger rule m))
    where
      Below : ℕ → ℕ → Type 0
      Below f g = (f < n) × (g < n) × above f g

      dec : (f g : ℕ) → Dec (Below f g)
      dec f g = go (dec_lt f n) (dec_lt g n)
        where
          go : Dec (f < n) → Dec (g < n) → Dec (Below f g)
          go (yes p) (yes q) = map_dec (λ a. (p, q, a)) (λ b. b.2) (decided f p g q)
          go (yes p) (no q) = no (λ b. q b.1)
          go (no p) q = no (λ b. p b.0)

      rank : ℕ → ℕ
      rank f = how_many (dec f) n

      below_n : (f : ℕ) → f < n → rank f < n
      below_n f h =
          subst (λ (k : ℕ). rank f < k) (how_many_all n)
          (more (dec f) (λ g. yes tt) (λ g b. tt) f tt (λ b. strict.irreflexive f h b.2) n h)

      larger :
          (rule : Rule) → Memᴰ rule rules → (f g : ℕ) → SymbolIn f rule.left → SymbolIn g rule.right → above f g →
          get_or (tabled rank n) g 0 < get_or (tabled rank n) f 0
      larger rule m f g in_left in_right a =
          let p : f < n = declared-left rule m f in_left in
          let q : g < n = declared-right rule m g in_right in
          rw (tabled_at rank n f p, tabled_at rank n g q)
          (more (dec g) (dec f) (λ h b. (p, b.1, strict.transitive f g h p q b.1 a b.2)) g (p, q, a)
          (λ b. strict.irreflexive g q b.2) n q)

  pub ranks_of_precedence :
      (ranks : List ℕ) × (length ranks ≡ n) × ((rank : ℕ) → Memᴰ rank ranks → rank < n) × Clears (Above ranks) rules
  ranks_of_precedence = go (some_table n n (λ (ranks : List ℕ). Clears (Above ranks) rules) (λ ranks. all_decrease_decided (Exceeds (Above ranks)) (exceeds ranks) (exceeds_decides ranks) rules))
    where
      go : Dec (ClearingTable n rules) → ClearingTable n rules
      go (yes found) = found
      go (no none) =
          absurd (all_below n (λ (f : ℕ). (g : ℕ) → g < n → Dec (above f g))
          (λ f. all_below n (λ (g : ℕ). Dec (above f g)) (λ g. undecided_absurd (above f g)))
          (λ decided. none (from_decisions decided)))
