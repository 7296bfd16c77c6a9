-- The lines that tell a book: what `show` prints, and `make` reads.
use Rattle.std.specs.Prelude.{ℕ, suc, List, [], ◌∷◌, ◌++◌, length}
use Rattle.reply.specs.Reply.{Reply, given, refused}
use Rattle.text.specs.Text.{ascii, refused_line}
use Rattle.term.specs.Term.{var}
use Rattle.book.specs.Book.{Book, Rule}
use Rattle.number_text.specs.Numbers.{counted, counted_line}
use Rattle.term_text.specs.TermText.{term_text}

-- A text for each of several things, by its number and what it is.
unfoldable pub one_by_one : {A : Type 0} → (each : ℕ → A → List ℕ) (from : ℕ) → List A → List ℕ
one_by_one each n [] = []
one_by_one each n (x ∷ xs) = each n x ++ one_by_one each (suc n) xs

-- A symbol and its arity, as `f2/1`, a blank before them.
unfoldable pub symbol_text : (f arity : ℕ) → List ℕ
symbol_text f arity = counted (ascii " f") f ++ counted (ascii "/") arity

-- `symbols` and each symbol, then `rules` and how many there are.
unfoldable pub head_lines : (arities : List ℕ) (rules : ℕ) → List ℕ
head_lines arities rules = (ascii "symbols" ++ one_by_one symbol_text 0 arities) ++ counted_line (ascii "\nrules ") rules

-- A rule's line: `rule 0: f1(x0) -> x0`.
unfoldable pub sides_text : Rule → List ℕ
sides_text rule = ((ascii ": " ++ term_text rule.left) ++ (ascii " -> " ++ term_text rule.right)) ++ ascii "\n"

unfoldable pub rule_line : (i : ℕ) → Rule → List ℕ
rule_line i rule = counted (ascii "rule ") i ++ sides_text rule

unfoldable pub book_lines : Book → List ℕ
book_lines book = head_lines book.arities (length book.rules) ++ one_by_one rule_line 0 book.rules

-- The lines of a book that was read, or the refusal's.
unfoldable pub shown_lines : Reply Book → List ℕ
shown_lines (given book) = book_lines book
shown_lines (refused r) = refused_line r

-- What stands for a rule past the last.
abbrev pub no_rule : Rule
no_rule = record { left = var 0; right = var 0 }
