-- What is known of a read book, rule by rule: how many nodes its sides have, and that the base which grows by 2|l||r| a rule ends at V.
-- Assumes nothing.
use Prim.Native.Nat.{ℕ, ◌+◌, ◌*◌, ◌≤◌, ◌<◌}
use mathlib.Core.List.{List, ◌∷◌, Memᴰ}
use mathlib.Core.Path.{◌≡◌, sym, ap, ap₂, ◌∙◌}
use native.Mathlib.Nat.{mul-le-mul}
use native.Mathlib.Numerals.{add-one}
use native.Mathlib.Omega.{arith}
use Rattle.std.proofs.lemmas.List.{get_or-take, length-take}
use lib.ListN.{length, get_or, take, drop, drop_of_length-le}
use lib.Seq.{drop-cons}
use Rattle.term.specs.Tables.{rank_bits}
use Rattle.term.specs.Term.{var, size}
use Rattle.book.specs.Book.{Rule, symbols}
use Rattle.book.specs.Limits.{WithinLimits}
use Rattle.book.specs.Entries.{nowhere, places_of}
use Rattle.book.specs.Meaning.{book_at}
use Rattle.book.specs.Standing.{BookStands}
use Rattle.book.specs.WasRead.{ReadFrom, WasRead}
use Rattle.book.specs.declared.Book.{Book as PlacedBook}
use Rattle.book.proofs.WasRead.{read_limits, read_stands}
use Rattle.clauses.specs.Numbering.{first_base, base_after}
use Rattle.clauses.specs.Blocks.{base_behind, «V»}
use Rattle.clauses.proofs.Bounds.{variables_at_most}
use Rattle.clauses.proofs.Elements.{element_member, element_there}
use Rattle.clauses.proofs.Numbers.{base_grows}

-- Its symbols and rules.
module _ {bytes : List ℕ} {b : PlacedBook} (read : ReadFrom bytes b) where
  pub read_symbols : symbols (book_at bytes b) ≡ b.symbols
  read_symbols = sym (read_stands read).symbol_count

  pub read_few_symbols : b.symbols ≤ 16
  read_few_symbols = (read_stands read).few_symbols

  pub read_few_rules : b.rules ≤ 32
  read_few_rules = (read_stands read).few_rules

-- Rule i among the places that are taken: those of the rules that were read.
pub rule_taken : (b : PlacedBook) (i : ℕ) → i < length (take b.rules b.places) → (i < b.rules) × (get_or (take b.rules b.places) i nowhere ≡ places_of b i)
rule_taken b i h = let below : i < b.rules = omega (arith, length-take b.rules b.places) in (below, get_or-take b.rules b.places i nowhere below)

-- Rule i: the next of the list, with so many nodes on its sides, at most ten each.
pub record RuleNext (bytes : List ℕ) (b : PlacedBook) (i : ℕ) : Type 0 where
  pub rule : Rule
  pub next : drop i (book_at bytes b).rules ≡ rule ∷ drop (i + 1) (book_at bytes b).rules
  pub left : size rule.left ≡ (places_of b i).left.nodes
  pub right : size rule.right ≡ (places_of b i).right.nodes
  pub few : (places_of b i).left.nodes * (places_of b i).right.nodes ≤ 10 * 10

pub rule_next : {bytes : List ℕ} {b : PlacedBook} → ReadFrom bytes b → (i : ℕ) → i < b.rules → RuleNext bytes b i
rule_next {bytes} {b} read i h =
    record {
      rule = rule;
      next = drop-cons rules i other within ∙ ap (λ (j : ℕ). rule ∷ drop j rules) (sym (add-one i));
      left = (there.left i other h).counted;
      right = (there.right i other h).counted;
      few =
          mul-le-mul {n₂ = 10} {m₂ = 10} (omega (arith, (there.left i other h).counted, (limits.left rule member).nodes))
          (omega (arith, (there.right i other h).counted, (limits.right rule member).nodes));
    }
  where
    limits : WithinLimits (book_at bytes b)
    limits = read_limits read

    there : BookStands bytes b (book_at bytes b)
    there = read_stands read

    other : Rule
    other = record { left = var 0; right = var 0 }

    rules : List Rule
    rules = (book_at bytes b).rules

    rule : Rule
    rule = get_or rules i other

    within : i < length rules
    within = omega (arith, there.rule_count)

    member : Memᴰ rule rules
    member = element_member rules i (element_there rules i other within)

-- A base before rule i that ends at V.
abbrev pub BaseAt : PlacedBook → (base i : ℕ) → Type 0
BaseAt b base i = (bytes : List ℕ) → ReadFrom bytes b → base_behind base (drop i (book_at bytes b).rules) ≡ «V» (book_at bytes b)

pub base_starts : (b : PlacedBook) (base : ℕ) → base ≡ first_base b.symbols (rank_bits b.symbols) → BaseAt b base 0
unfolding «V»
base_starts b base e bytes read =
    ap (λ (x : ℕ). base_behind x (book_at bytes b).rules) (e ∙ ap (λ (n : ℕ). first_base n (rank_bits n)) (sym (read_symbols read)))

pub base_small : {b : PlacedBook} (base i : ℕ) → WasRead b → BaseAt b base i → base ≤ 7424
base_small {b} base i was known =
    omega (
      arith,
      known was.bytes was.read,
      base_grows base (drop i (book_at was.bytes b).rules),
      variables_at_most (book_at was.bytes b) (read_limits was.read),
    )

pub base_goes_on :
    {b : PlacedBook} (base i : ℕ) → BaseAt b base i → i < b.rules → BaseAt b (base + 2 * ((places_of b i).left.nodes * (places_of b i).right.nodes)) (i + 1)
unfolding base_behind base_after
base_goes_on {b} base i known h bytes read =
    let here = rule_next read i h in
    ap (λ (x : ℕ). base_behind (base + 2 * x) (drop (i + 1) (book_at bytes b).rules)) (sym (ap₂ ◌*◌ here.left here.right))
    ∙ ap (base_behind base) (sym here.next)
    ∙ known bytes read

pub base_ends : {b : PlacedBook} (base i : ℕ) → BaseAt b base i → b.rules ≤ i → (bytes : List ℕ) → ReadFrom bytes b → base ≡ «V» (book_at bytes b)
unfolding base_behind
base_ends {b} base i known h bytes read =
    ap (base_behind base) (sym (drop_of_length-le (book_at bytes b).rules {i = i} (omega (arith, (read_stands read).rule_count)))) ∙ known bytes read
