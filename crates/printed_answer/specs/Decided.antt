-- What comes of a solver's answer to a book that was read. Its ranks are accepted exactly if they make every rule decrease, whoever wrote it:
-- nothing is asked of the other variables, and no satisfying assignment.
use Rattle.std.specs.Prelude.{ℕ, ◌*◌, ◌<◌, ◌≤◌, List, ◌∷◌, ◌++◌, ◌↔◌, ◌≡◌, length}
use Rattle.reply.specs.Reply.{Reply, given, refused, ◌at◌}
use Rattle.term.specs.Tables.{rank_bits}
use Rattle.book.specs.Book.{Book, Rule, symbols}
use Rattle.order.specs.Precedence.{Above}
use Rattle.order.specs.Exceeds.{Exceeds}
use Rattle.order.specs.Clearing.{Decreases, Clears}
use Rattle.clauses.specs.Cnf.{Assignment}
use Rattle.clauses.specs.Numbering.{ranks_of}
use Rattle.clauses.specs.Blocks.{«V»}
use Rattle.printed_answer.specs.WellFormed.{WellFormed}
use Rattle.printed_answer.specs.NoModel.{SaysNoModel}

-- A text that is well formed for the book's clause file, and says SATISFIABLE with these values of the rank variables 1 to n·k.
abbrev pub Answers : Book → (text : List ℕ) (values : Assignment) → Type 0
Answers book text values = WellFormed («V» book) (symbols book * rank_bits (symbols book)) text values

-- "The rank of f is the sum of 2^b over its true bits."
abbrev pub spelled : Book → (values : Assignment) → List ℕ
spelled book values = ranks_of (symbols book) (rank_bits (symbols book)) values

-- Refusal 8's place, "the lowest such rule": it does not decrease, and all before it do.
pub record LowestNotDecreasing (above : ℕ → ℕ → Type 0) (rules : List Rule) (number : ℕ) : Type 0 where
  pub before : List Rule
  pub rule : Rule
  pub behind : List Rule
  pub parts : rules ≡ before ++ (rule ∷ behind)
  pub numbered : number ≡ length before
  pub earlier : Clears above before
  pub fails : Decreases (Exceeds above) rule → ⊥

-- "Ranks are accepted exactly if they make every rule decrease", and else the lowest rule that does not is told. `Accepts` says of ranks that
-- they are what the reply accepts.
pub record RanksDecided {A : Type 0} (book : Book) (values : Assignment) (reply : Reply A) (Accepts : (ranks : List ℕ) → Type 0) : Type 0 where
  pub accepts : (ranks : List ℕ) → Accepts ranks ↔ ((ranks ≡ spelled book values) × Clears (Above ranks) book.rules)
  pub refuses_at : (rule : ℕ) → (reply ≡ refused (8 at rule)) ↔ LowestNotDecreasing (Above (spelled book values)) book.rules rule
  pub refuses : ((rule : ℕ) × (reply ≡ refused (8 at rule))) ↔ (Clears (Above (spelled book values)) book.rules → ⊥)

-- "answer 12, 13, 14, 9, 8"; `room` is the lent buffer's length.
pub record Decided {A : Type 0} (book : Book) (text : List ℕ) (room : ℕ) (reply : Reply A) (Accepts : (ranks : List ℕ) → Type 0) : Type 0 where
  -- "answer above 65,536 bytes"
  pub too_long : 65536 < length text → reply ≡ refused (12 at 0)
  -- "answer malformed": well formed in neither way
  pub malformed :
      length text ≤ 65536 →
      ((place : ℕ) × (reply ≡ refused (13 at place))) ↔ (((values : Assignment) → Answers book text values → ⊥) × (SaysNoModel text → ⊥))
  -- "UNSATISFIABLE or UNKNOWN, well formed"
  pub no_model : length text ≤ 65536 → (reply ≡ refused (14 at 0)) ↔ SaysNoModel text
  -- "lent buffer under .. n"
  pub no_room : (values : Assignment) → Answers book text values → length text ≤ 65536 → room < symbols book → reply ≡ refused (9 at 0)
  pub decides :
      (values : Assignment) → Answers book text values → length text ≤ 65536 → symbols book ≤ room → RanksDecided book values reply Accepts
  -- And nothing else is accepted.
  pub only_well_formed :
      (a : A) → reply ≡ given a →
      (values : Assignment) × Answers book text values × (length text ≤ 65536) × (symbols book ≤ room) × Accepts (spelled book values)
