-- The lines that tell a term.
use Rattle.std.specs.Prelude.{ℕ, ◌/◌, ◌≤◌, List, ◌++◌, ◌≡◌, length, take}
use Rattle.text.specs.Laying.{Lays}
use Rattle.text.specs.Text.{ascii}
use Rattle.term.specs.Term.{Term}
use Rattle.term.specs.At.{At}
use Rattle.number_text.specs.Numbers.{counted_line}
use Rattle.term_text.specs.TermText.{term_text}
use Rattle.term_lines.specs.Hex.{hex_text}

-- A term of so many bytes: `nodes` and how many it has, `term` and the term, `bytes` and the bytes, which may be those of an end record too.
unfoldable pub term_line : Term → List ℕ
term_line t = (ascii "term " ++ term_text t) ++ ascii "\n"

unfoldable pub bytes_line : List ℕ → List ℕ
bytes_line bytes = (ascii "bytes " ++ hex_text bytes) ++ ascii "\n"

unfoldable pub term_lines : (bytes : List ℕ) (many : ℕ) → Term → List ℕ
term_lines bytes many t = (counted_line (ascii "nodes ") (many / 2) ++ term_line t) ++ bytes_line (take many bytes)

-- So many bytes were laid: this text of the term that stands at place u of the bytes, where one does.
pub record LaysFor (bytes arities : List ℕ) (u : ℕ) (text : Term → List ℕ) (before : List ℕ) (many : ℕ) (after : List ℕ) : Type 0 where
  pub within : many ≤ length before
  pub same : length after ≡ length before
  pub told : (t : Term) (e : ℕ) → At bytes arities u t e → Lays (text t) before many after
