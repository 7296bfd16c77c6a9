-- What a loop over a read book's rules knows of each: where it stands with its base, and the blocks from it on. Assumes nothing.
use Prim.Native.Nat.{ℕ, ◌+◌, ◌*◌, ◌≤◌, ◌<◌}
use mathlib.Core.List.{List, [], ◌∷◌, ◌++◌, Memᴰ}
use mathlib.Core.Path.{◌≡◌, sym, ap, ap₂, subst, ◌∙◌}
use native.Mathlib.Nat.{mul-le-mul}
use native.Mathlib.Numerals.{add-one}
use native.Mathlib.Omega.{arith}
use lib.Dec.{T}
use lib.ListN.{get_or, drop, drop_of_length-le}
use lib.Seq.{drop-cons}
use Rattle.reply.proofs.Every.{every_member}
use Rattle.term.specs.Tables.{rank_bits}
use Rattle.term.specs.Term.{Term, var, app, size, count, over}
use Rattle.term.specs.Root.{arguments}
use Rattle.book.specs.Book.{Rule}
use Rattle.book.specs.BookOf.{book_of}
use Rattle.book.specs.Limits.{WithinLimits, SideWithinLimits}
use Rattle.book.specs.Standing.{SideStands, BookStands}
use Rattle.book.specs.Entries.{places_of}
use Rattle.book.specs.declared.read.ReadBook.{ReadBook}
use Rattle.book.proofs.WasRead.{read_limits, read_stands}
use Rattle.clauses.specs.Cnf.{Clause}
use Rattle.clauses.specs.Numbering.{base_after}
use Rattle.clauses.specs.Blocks.{rule_blocks, rules_blocks}
use Rattle.clauses.proofs.RankBits.{rank_bits_few}
use Rattle.clauses.proofs.Elements.{element_member, element_there}
use Rattle.clauses.proofs.Inside.{Inside, subterms_inside, arity_kept, symbol_declared}
use Rattle.counts.proofs.ReadRules.{read_few_symbols, BaseAt, base_small, base_goes_on}
use Rattle.rule_blocks.specs.Nodes.{setting_of}
use Rattle.rule_blocks.specs.Rules.{SmallSide, RuleStands}
use Rattle.rule_blocks.specs.declared.PlacedRule.{PlacedRule}
use Rattle.blocks.specs.RulePlaces.{placed_rule}

-- The arguments of a subterm of a side are at most six.
few_arguments : (arities : List ℕ) → ((a : ℕ) → Memᴰ a arities → a ≤ 6) → (t : Term) → T (over arities t) → count (arguments t) ≤ 6
unfolding arguments count
few_arguments arities six (var x) o = omega arith
few_arguments arities six (app f ts) o =
    omega (
      arith,
      arity_kept arities f ts o,
      six (get_or arities f 0) (element_member arities f (element_there arities f 0 (symbol_declared arities f ts o))),
    )

side_stands :
    {bytes arities : List ℕ} {u many : ℕ} {side : Term} (declared : List ℕ) → ((a : ℕ) → Memᴰ a declared → a ≤ 6) →
    SideWithinLimits declared side → SideStands bytes arities u many side → SmallSide bytes arities u many side
side_stands {side = side} declared six limits here =
    record {
      stands = here.stands;
      nodes = here.counted;
      small = omega (arith, here.counted, limits.nodes);
      few = λ s m.
          few_arguments declared six s.term
          (every_member (Inside declared (size side)) m (subterms_inside declared side 0 (size side) (omega arith) limits.over_symbols)).over_symbols;
    }

-- The blocks of rule i and of those behind it.
abbrev pub blocks_from : ReadBook → (base i : ℕ) → List (List Clause)
blocks_from b base i = rules_blocks b.places.symbols (rank_bits b.places.symbols) base (drop i (book_of b).rules)

pub blocks_ended : (b : ReadBook) (base i : ℕ) → b.places.rules ≤ i → blocks_from b base i ≡ []
unfolding rules_blocks
blocks_ended b base i h =
    ap (rules_blocks b.places.symbols (rank_bits b.places.symbols) base)
    (drop_of_length-le (book_of b).rules {i = i} (omega (arith, (read_stands b.read).rule_count)))

-- The base behind a rule at its places.
abbrev pub behind : (base : ℕ) → PlacedRule → ℕ
behind base c = base + 2 * (c.height * c.width)

-- Rule i at these places: the blocks from it on are its own, and behind them those of the others.
pub record RuleHere (b : ReadBook) (base i : ℕ) (c : PlacedRule) : Type 0 where
  pub rule : Rule
  pub stands : RuleStands b.bytes.now b.places.arities c rule
  pub small : base ≤ 7424
  pub few : c.height * c.width ≤ 100
  pub parted : blocks_from b base i ≡ rule_blocks (setting_of c) rule ++ blocks_from b (behind base c) (i + 1)
  pub next : BaseAt b.places (behind base c) (i + 1)

module _ (b : ReadBook) (base i : ℕ) (known : BaseAt b.places base i) (h : i < b.places.rules) where
  limits : WithinLimits (book_of b)
  limits = read_limits b.read

  there : BookStands b.bytes.now b.places (book_of b)
  there = read_stands b.read

  abbrev other : Rule
  other = record { left = var 0; right = var 0 }

  abbrev the_rule : Rule
  the_rule = get_or (book_of b).rules i other

  member : Memᴰ the_rule (book_of b).rules
  member = element_member (book_of b).rules i (element_there (book_of b).rules i other (omega (arith, there.rule_count)))

  left : SmallSide b.bytes.now b.places.arities (places_of b.places i).left.at (places_of b.places i).left.nodes the_rule.left
  left = side_stands (book_of b).arities limits.arity (limits.left the_rule member) (there.left i other h)

  right : SmallSide b.bytes.now b.places.arities (places_of b.places i).right.at (places_of b.places i).right.nodes the_rule.right
  right = side_stands (book_of b).arities limits.arity (limits.right the_rule member) (there.right i other h)

  rest : drop i (book_of b).rules ≡ the_rule ∷ drop (i + 1) (book_of b).rules
  rest = drop-cons (book_of b).rules i other (omega (arith, there.rule_count)) ∙ ap (λ (j : ℕ). the_rule ∷ drop j (book_of b).rules) (sym (add-one i))

  low : base ≤ 7424
  low = base_small base i (record { bytes = b.bytes.now; read = b.read }) known

  at_its_places : RuleHere b base i (placed_rule b.places base i)
  unfolding placed_rule setting_of rules_blocks base_after
  at_its_places =
      record {
        rule = the_rule;
        stands =
            record {
              bounded =
                  record {
                    symbols = read_few_symbols b.read;
                    bits = rank_bits_few b.places.symbols (read_few_symbols b.read);
                    base = low;
                    width = right.small;
                  };
              left = left;
              right = right;
            };
        small = low;
        few = mul-le-mul {n₂ = 10} {m₂ = 10} left.small right.small;
        parted =
            ap (rules_blocks b.places.symbols (rank_bits b.places.symbols) base) rest
            ∙ ap₂
            (λ (w nodes : ℕ).
            rule_blocks (record { n = b.places.symbols; k = rank_bits b.places.symbols; base = base; width = w }) the_rule
            ++ blocks_from b (base + 2 * nodes) (i + 1))
            right.nodes (ap₂ ◌*◌ left.nodes right.nodes);
        next = base_goes_on base i known h;
      }

pub rule_here :
    (b : ReadBook) {base i : ℕ} {c : PlacedRule} → BaseAt b.places base i → i < b.places.rules → c ≡ placed_rule b.places base i → RuleHere b base i c
rule_here b {base} {i} known h e = subst (RuleHere b base i) (sym e) (at_its_places b base i known h)

-- Its pairs of nodes are few, and so is its base.
module _ (b : ReadBook) (base i : ℕ) {c : PlacedRule} (known : BaseAt b.places base i) (h : i < b.places.rules) (e : c ≡ placed_rule b.places base i) where
  pub few_nodes : c.height * c.width ≤ 100
  few_nodes = (rule_here b known h e).few

  pub small_base : base ≤ 7424
  small_base = (rule_here b known h e).small
