-- Clauses laid, by their literals. Assumes nothing.
use mathlib.Core.List.{List, [], ◌∷◌, ◌++◌, append_assoc, append-nil, flat_map}
use mathlib.Core.Path.{◌≡◌}
use Rattle.text.specs.Text.{ascii}
use Rattle.clauses.specs.Cnf.{Literal, Clause}
use Rattle.clauses.specs.File.{literal_bytes, clause_bytes}

-- A clause by its first literal.
pub clause_cons : (l : Literal) (ls : List Literal) → clause_bytes (l ∷ ls) ≡ literal_bytes l ++ clause_bytes ls
unfolding clause_bytes flat_map
clause_cons l ls = append_assoc (literal_bytes l) (flat_map literal_bytes ls) (ascii "0\n")

-- Three clauses.
pub clauses_text : (a b c : Clause) → (clause_bytes a ++ clause_bytes b) ++ clause_bytes c ≡ flat_map clause_bytes (a ∷ b ∷ c ∷ [])
unfolding flat_map
clauses_text a b c = simp (append_assoc, append-nil)
