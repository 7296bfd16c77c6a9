-- Demand 2 of the running code's `write_block`, said of every call that its contract allows: the blocks that it writes are the clause file.
use Rattle.std.specs.Prelude.{ℕ, suc, ◌<◌, ◌≤◌, ◌^◌, ◌↔◌, ◌≡◌, length, take}
use mathlib.Core.List.{List, [], ◌++◌, Memᴰ}
use Rattle.reply.specs.Reply.{given, refused, ◌at◌}
use Rattle.term.specs.Tables.{rank_bits}
use Rattle.book.specs.Book.{Book, symbols}
use Rattle.book.specs.Reading.{read_book}
use Rattle.order.specs.Precedence.{Above}
use Rattle.order.specs.Clearing.{Clears}
use Rattle.clauses.specs.Cnf.{Assignment}
use Rattle.clauses.specs.File.{file_blocks, clause_program}
use Rattle.demands.specs.EntryPoints.{Bytes, a_block}
use Rattle.demands.specs.Demand2.{SatisfyingAssignment, SomePrecedenceClears, rank_bits_of}
use Rattle.demands.specs.InCode.{InCode}

-- A file made by calls: the blocks from a number on, each as its call left it at the start of the lent buffer, one behind another, until a
-- call is refused by 10, "no block of that number".
pub data MadeFrom (code : InCode a_block) (bytes : Bytes) : (number : ℕ) → (file : Bytes) → Type 0 where
  no_block :
      {number room : ℕ} (call : code.Call) → code.asked call ≡ (bytes, number, room) → code.answered call ≡ refused (10 at 0) →
      MadeFrom code bytes number []
  a_block_then :
      {number room many : ℕ} {file behind : Bytes} (call : code.Call) → code.asked call ≡ (bytes, number, room) →
      code.answered call ≡ given many → MadeFrom code bytes (suc number) behind → take many (code.after call) ++ behind ≡ file →
      MadeFrom code bytes number file

-- What demand 2 says of the clause file, of the file that calls make.
pub record FileInCode (code : InCode a_block) : Type 1 where
  -- A file can be made, and it is the clause file: "prints all blocks".
  pub made : (bytes : Bytes) (book : Book) → read_book bytes ≡ given book → (file : Bytes) × MadeFrom code bytes 0 file
  pub prints :
      (bytes : Bytes) (book : Book) (file : Bytes) → read_book bytes ≡ given book → MadeFrom code bytes 0 file → file ≡ clause_program bytes
  -- With 512 bytes lent no block is refused, and refusal 10 comes exactly behind the last one.
  pub answers_each :
      (call : code.Call) (bytes : Bytes) (number room : ℕ) (book : Book) → code.asked call ≡ (bytes, number, room) → read_book bytes ≡ given book →
      512 ≤ room →
      (number < length (file_blocks book) → (many : ℕ) × (code.answered call ≡ given many))
      × (length (file_blocks book) ≤ number → code.answered call ≡ refused (10 at 0))
  -- "The clause file has a satisfying assignment exactly if some strict precedence makes every rule decrease in the lexicographic path order of
  -- source document 003."
  pub satisfiable :
      (bytes : Bytes) (book : Book) (file : Bytes) → read_book bytes ≡ given book → MadeFrom code bytes 0 file →
      ((α : Assignment) × SatisfyingAssignment file α) ↔ SomePrecedenceClears book
  -- "The rank bits of every satisfying assignment clear the book, and every clearing table of ranks that fit those bits extends to one."
  pub rank_bits_clear :
      (bytes : Bytes) (book : Book) (file : Bytes) (α : Assignment) → read_book bytes ≡ given book → MadeFrom code bytes 0 file →
      SatisfyingAssignment file α → Clears (Above (rank_bits_of book α)) book.rules
  pub ranks_extend :
      (bytes : Bytes) (book : Book) (file : Bytes) (ranks : List ℕ) → read_book bytes ≡ given book → MadeFrom code bytes 0 file →
      length ranks ≡ symbols book → ((rank : ℕ) → Memᴰ rank ranks → rank < 2 ^ rank_bits (symbols book)) → Clears (Above ranks) book.rules →
      (α : Assignment) × SatisfyingAssignment file α × (rank_bits_of book α ≡ ranks)
