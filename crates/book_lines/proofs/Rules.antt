-- The rules of a read book as lines: their sides stand at the book's places. Assumes nothing.
use Prim.Native.Nat.{ℕ, ◌+◌, ◌-◌, ◌≤◌, ◌<◌}
use mathlib.Core.List.{List, ◌++◌}
use mathlib.Core.Path.{◌≡◌, ap, ◌∙◌}
use lib.ListN.{length, get_or, take}
use borrow.Rule.Slice.PartMut.{mid_of, put_mid}
use Rattle.text.specs.Laying.{Lays}
use Rattle.text.specs.Text.{ascii}
use Rattle.text.proofs.Laying.{lays_as, lays_then}
use Rattle.book.specs.Entries.{places_of}
use Rattle.book.specs.Meaning.{book_at}
use Rattle.book.specs.WasRead.{ReadFrom}
use Rattle.book.specs.declared.Book.{Book as Places}
use Rattle.book.proofs.WasRead.{read_stands}
use Rattle.term_text.specs.TermText.{term_text}
use Rattle.term_lines.specs.Lines.{LaysFor}
use Rattle.book_lines.specs.Lines.{sides_text, book_lines, head_lines, rule_line, one_by_one, no_rule}

module _ {bytes : List ℕ} {b : Places} (read : ReadFrom bytes b) where
  pub few_symbols_lem : b.symbols ≤ 16
  few_symbols_lem = (read_stands read).few_symbols

  pub few_rules_lem : b.rules ≤ 32
  few_rules_lem = (read_stands read).few_rules

  pub rule_count_lem : b.rules ≡ length (book_at bytes b).rules
  rule_count_lem = (read_stands read).rule_count

  -- Both sides, each behind its word.
  pub sides_laid :
      (i : ℕ) → i < b.rules → {before one two three : List ℕ} {k m n : ℕ} →
      LaysFor bytes b.arities (places_of b i).left.at (λ t. ascii ": " ++ term_text t) before k one →
      LaysFor bytes b.arities (places_of b i).right.at (λ t. ascii " -> " ++ term_text t) (mid_of k (length one - k) one) m two →
      Lays (ascii "\n") (mid_of (k + m) (length (put_mid k (length one - k) one two) - (k + m)) (put_mid k (length one - k) one two)) n three →
      Lays (sides_text (get_or (book_at bytes b).rules i no_rule)) before (k + m + n)
      (put_mid (k + m) (length (put_mid k (length one - k) one two) - (k + m)) (put_mid k (length one - k) one two) three)
  unfolding sides_text
  sides_laid i h left right end =
      let stands = read_stands read in
      let l = stands.left i no_rule h in
      let r = stands.right i no_rule h in
      lays_then (lays_then (left.told _ _ l.stands) (right.told _ _ r.stands)) end

  -- The head, and a line for each rule.
  pub book_laid :
      {before one two : List ℕ} {k m : ℕ} → Lays (head_lines (take b.symbols b.arities) b.rules) before k one →
      Lays (one_by_one rule_line 0 (book_at bytes b).rules) (mid_of k (length one - k) one) m two →
      Lays (book_lines (book_at bytes b)) before (k + m) (put_mid k (length one - k) one two)
  unfolding book_lines
  book_laid head rules =
      let stands = read_stands read in
      lays_then
      (lays_as
      (ap (λ (l : List ℕ). head_lines l b.rules) stands.declared ∙ ap (head_lines (book_at bytes b).arities) stands.rule_count) head)
      rules
