-- The clause file as bytes, its numbered blocks, and the clause program's output.
use Rattle.std.specs.Prelude.{ℕ, leb, length}
use mathlib.Core.List.{List, ◌∷◌, ◌++◌, map, flat_map, flatten}
use Rattle.std.proofs.Math.Option.{Option, none, some}
use Rattle.std.proofs.Math.ListN.{get_elem?}
use Rattle.reply.specs.Reply.{Reply, given, refused, unless, ◌>>◌, ◌>>=◌, ◌at◌}
use Rattle.text.specs.Decimal.{decimal}
use Rattle.text.specs.Text.{ascii, refused_line}
use Rattle.book.specs.Book.{Book}
use Rattle.book.specs.Reading.{read_book}
use Rattle.clauses.specs.Cnf.{Literal, is, is_not, Clause, Cnf}
use Rattle.clauses.specs.Blocks.{blocks, «V»}

-- The book's clauses over its V variables.
unfoldable pub clause_file : Book → Cnf
clause_file book = record { variables = «V» book; clauses = flatten (blocks book) }

-- "A clause is its literals in that order, a space after each, then 0 and a newline."
unfoldable pub literal_bytes : Literal → List ℕ
literal_bytes (is v) = decimal v ++ ascii " "
literal_bytes (is_not v) = ascii "-" ++ decimal v ++ ascii " "

unfoldable pub clause_bytes : Clause → List ℕ
clause_bytes clause = flat_map literal_bytes clause ++ ascii "0\n"

-- "Block 0: `p cnf V M` and a newline, V the base after the last rule, M the number of clauses that follow."
unfoldable pub counts_text : (variables clauses : ℕ) → List ℕ
counts_text variables clauses = decimal variables ++ ascii " " ++ decimal clauses ++ ascii "\n"

unfoldable pub header : Book → List ℕ
header book = ascii "p cnf " ++ counts_text («V» book) (length (flatten (blocks book)))

-- "The file is a sequence of numbered blocks."
unfoldable pub file_blocks : Book → List (List ℕ)
file_blocks book = header book ∷ map (flat_map clause_bytes) (blocks book)

unfoldable pub file_bytes : Book → List ℕ
file_bytes book = flatten (file_blocks book)

-- Refusal 10, "no block of that number".
unfoldable pub numbered_block : Option (List ℕ) → Reply (List ℕ)
numbered_block none = refused (10 at 0)
numbered_block (some bytes) = given bytes

-- "block 10, 9", of a book that was read: 9 for a "lent buffer under 512 bytes"; `room` is the lent buffer's length.
unfoldable pub block_of : Book → (number room : ℕ) → Reply (List ℕ)
block_of book number room = do
  bytes ← numbered_block (get_elem? (file_blocks book) number)
  unless (leb 512 room) (9 at 0)
  given bytes

-- ENTRY POINT: a block.
unfoldable pub block : (book : List ℕ) (number room : ℕ) → Reply (List ℕ)
block book number room = do
  b ← read_book book
  block_of b number room

-- "The clause program reads a book .. and prints all blocks, or the one line `refused N at P`."
unfoldable pub printed : Reply Book → List ℕ
printed (given book) = file_bytes book
printed (refused r) = refused_line r

unfoldable pub clause_program : (book : List ℕ) → List ℕ
clause_program book = printed (read_book book)
