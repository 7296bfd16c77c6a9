-- Reading the clause file back gives V, M and exactly the clauses, by its words: a word a literal, the word "0" behind each clause.
-- Assumes nothing.
use Prim.Native.Nat.{ℕ}
use mathlib.Core.Bool.{true, false}
use mathlib.Core.List.{List, [], ◌∷◌, ◌++◌, map, flat_map, flatten, append_assoc, append-nil, cons-ne-nil}
use mathlib.Core.Logic.{◌≢◌}
use mathlib.Core.Option.{some}
use mathlib.Core.Path.{◌≡◌, refl, sym, ap, ◌∙◌}
use lib.Dec.{eqb, eqb_refl}
use lib.ListN.{length}
use Rattle.text.specs.Decimal.{decimal, number}
use Rattle.text.specs.Text.{ascii, same_text, space, newline, words}
use Rattle.text.proofs.Decimal.{number_decimal, decimal_nonempty}
use Rattle.reply.proofs.Every.{Every, every_flatten}
use Rattle.reply.proofs.Tests.{is_true}
use Rattle.text.proofs.Words.{words_first}
use Rattle.reply.specs.Reply.{given}
use Rattle.book.specs.Book.{Book}
use Rattle.book.specs.Limits.{WithinLimits}
use Rattle.book.specs.Reading.{read_book}
use Rattle.clauses.specs.Cnf.{Literal, is, is_not, Clause, variable_of}
use Rattle.clauses.specs.File.{literal_bytes, clause_bytes, header, file_blocks, file_bytes, clause_file, printed, clause_program, counts_text}
use Rattle.clauses.specs.Blocks.{blocks, «V»}
use Rattle.clauses.specs.Dimacs.{blank, ahead, clauses_of, counted, behind_header, from_words, read_dimacs}
use Rattle.clauses.specs.Computing.{computing}
use Rattle.clauses.proofs.Items.{Within, Over, literal_word, item_literal, word_nonempty, word_no_blank, decimal_no_blank}
use Rattle.clauses.proofs.WithinV.{blocks_within_V}

-- The words of a clause.
clause_words : Clause → List (List ℕ)
clause_words clause = map literal_word clause ++ ((48 ∷ []) ∷ [])

pub literal_bytes_lem : (l : Literal) (rest : List ℕ) → literal_bytes l ++ rest ≡ literal_word l ++ 32 ∷ rest
literal_bytes_lem (is v) rest = unfold computing in append_assoc (decimal v) (ascii " ") rest
literal_bytes_lem (is_not v) rest = unfold computing in ap (λ (bs : List ℕ). 45 ∷ bs) (append_assoc (decimal v) (ascii " ") rest)

literal_words : (l : Literal) (rest : List ℕ) → words blank (literal_bytes l ++ rest) ≡ literal_word l ∷ words blank rest
literal_words l rest =
    rw (literal_bytes_lem l rest) (words_first blank (literal_word l) (word_nonempty l) (word_no_blank l) 32 rest (unfold computing in refl))

clause_words_lem : (clause : Clause) (rest : List ℕ) → words blank (clause_bytes clause ++ rest) ≡ clause_words clause ++ words blank rest
unfolding clause_words clause_bytes flat_map
clause_words_lem [] rest = unfold computing in words_first blank (48 ∷ []) (cons-ne-nil 48 []) (refl, tt) 10 rest refl
clause_words_lem (l ∷ ls) rest =
    simp append_assoc
    (literal_words l (flat_map literal_bytes ls ++ (ascii "0\n" ++ rest))
    ∙ ap (λ (ws : List (List ℕ)). literal_word l ∷ ws) (simp append_assoc at (clause_words_lem ls rest)))

clauses_words : (clauses : List Clause) → words blank (flat_map clause_bytes clauses) ≡ flat_map clause_words clauses
unfolding flat_map
clauses_words [] = unfold computing in refl
clauses_words (c ∷ cs) = clause_words_lem c (flat_map clause_bytes cs) ∙ ap (λ (ws : List (List ℕ)). clause_words c ++ ws) (clauses_words cs)

-- Words of literals are put to the clause that is open; the word "0" closes it.
module _ (top : ℕ) where
  literal_read :
      (l : Literal) → Within top (variable_of l) → (opened : Clause) (ws : List (List ℕ)) →
      clauses_of top opened (literal_word l ∷ ws) ≡ clauses_of top (opened ++ (l ∷ [])) ws
  unfolding clauses_of
  literal_read l w opened ws = rw (clauses_of, item_literal top l w)

  clause_read :
      (clause : Clause) → Over top clause → (opened : Clause) (ws : List (List ℕ)) →
      clauses_of top opened (clause_words clause ++ ws) ≡ ahead (opened ++ clause) (clauses_of top [] ws)
  unfolding clause_words
  clause_read [] o opened ws = rw append-nil (unfold computing in refl)
  clause_read (l ∷ ls) o opened ws =
      literal_read l o.0 opened (map literal_word ls ++ ((48 ∷ []) ∷ []) ++ ws)
      ∙ clause_read ls o.1 (opened ++ (l ∷ [])) ws
      ∙ ap (λ (c : Clause). ahead c (clauses_of top [] ws)) (append_assoc opened (l ∷ []) ls)

  clauses_read : (clauses : List Clause) → Every (Over top) clauses → clauses_of top [] (flat_map clause_words clauses) ≡ some clauses
  unfolding flat_map ahead
  clauses_read [] o = unfold computing in refl
  clauses_read (c ∷ cs) o = clause_read c o.0 [] (flat_map clause_words cs) ∙ ap (ahead c) (clauses_read cs o.1)

-- The header's four words.
word_then :
    (w : List ℕ) → w ≢ [] → Every (λ b. blank b ≡ false) w → (b : ℕ) (rest : List ℕ) (ws : List (List ℕ)) → blank b ≡ true →
    words blank rest ≡ ws → words blank (w ++ b ∷ rest) ≡ w ∷ ws
word_then w full clean b rest ws ends e = words_first blank w full clean b rest ends ∙ ap (λ (vs : List (List ℕ)). w ∷ vs) e

header_words :
    (top count : ℕ) (rest : List ℕ) →
    words blank (ascii "p cnf " ++ decimal top ++ ascii " " ++ decimal count ++ ascii "\n" ++ rest)
    ≡ ascii "p" ∷ ascii "cnf" ∷ decimal top ∷ decimal count ∷ words blank rest
unfolding ascii blank space newline
header_words top count rest =
    simp append_assoc
    (word_then (112 ∷ []) (cons-ne-nil 112 []) (refl, tt) 32 _ _ refl
    (word_then (99 ∷ 110 ∷ 102 ∷ []) (cons-ne-nil 99 (110 ∷ 102 ∷ [])) (refl, (refl, (refl, tt))) 32 _ _ refl
    (word_then (decimal top) (decimal_nonempty top) (decimal_no_blank top) 32 _ _ refl
    (word_then (decimal count) (decimal_nonempty count) (decimal_no_blank count) 10 _ _ refl refl))))

from_header :
    (v m : ℕ) (variables count : List ℕ) (ws : List (List ℕ)) → number variables ≡ some v → number count ≡ some m →
    from_words (ascii "p" ∷ ascii "cnf" ∷ variables ∷ count ∷ ws) ≡ counted v m (clauses_of v [] ws)
unfolding from_words same_text ascii behind_header
from_header v m variables count ws e f = rw (e, f)

as_many : (v : ℕ) (clauses : List Clause) → counted v (length clauses) (some clauses) ≡ some (record { variables = v; clauses = clauses })
unfolding counted
as_many v clauses = rw (counted, is_true (eqb (length clauses) (length clauses)) (eqb_refl (length clauses)))

-- A file of clauses over its variables is read back.
text_reads_back :
    (top : ℕ) (clauses : List Clause) → Every (Over top) clauses →
    read_dimacs (ascii "p cnf " ++ decimal top ++ ascii " " ++ decimal (length clauses) ++ ascii "\n" ++ flat_map clause_bytes clauses)
    ≡ some (record { variables = top; clauses = clauses })
unfolding read_dimacs
text_reads_back top clauses o =
    ap from_words (header_words top (length clauses) (flat_map clause_bytes clauses))
    ∙ from_header top (length clauses) (decimal top) (decimal (length clauses)) (words blank (flat_map clause_bytes clauses))
    (number_decimal top) (number_decimal (length clauses))
    ∙ ap (λ (ws : List (List ℕ)). counted top (length clauses) (clauses_of top [] ws)) (clauses_words clauses)
    ∙ ap (counted top (length clauses)) (clauses_read top clauses o)
    ∙ as_many top clauses

flat_map_append : {A B : Type 0} (f : A → List B) (l m : List A) → flat_map f (l ++ m) ≡ flat_map f l ++ flat_map f m
unfolding flat_map
flat_map_append f [] m = refl
flat_map_append f (x ∷ l) m = rw (flat_map_append f l m) (sym (append_assoc (f x) (flat_map f l) (flat_map f m)))

-- The blocks one after another are the clauses one after another.
flat_blocks : (bs : List (List Clause)) → flatten (map (flat_map clause_bytes) bs) ≡ flat_map clause_bytes (flatten bs)
unfolding flatten flat_map
flat_blocks [] = refl
flat_blocks (b ∷ bs) = ap (λ (text : List ℕ). flat_map clause_bytes b ++ text) (flat_blocks bs) ∙ sym (flat_map_append clause_bytes b (flatten bs))

-- The clause program prints this file for a book that was read.
pub program_prints : (bytes : List ℕ) (book : Book) → read_book bytes ≡ given book → clause_program bytes ≡ file_bytes book
unfolding clause_program printed
program_prints bytes book e = ap printed e

pub file_reads_back : (book : Book) → WithinLimits book → read_dimacs (file_bytes book) ≡ some (clause_file book)
unfolding file_bytes file_blocks clause_file header counts_text flatten
file_reads_back book limits =
    rw (flat_blocks (blocks book))
    (simp (← append_assoc)
    (text_reads_back («V» book) (flatten (blocks book)) (every_flatten (Over («V» book)) (blocks book) (blocks_within_V book limits))))
