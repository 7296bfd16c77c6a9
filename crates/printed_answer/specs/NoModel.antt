-- A solver's answer that is well formed and says UNSATISFIABLE or UNKNOWN: refusal 14.
use Rattle.std.specs.Prelude.{ℕ, List, ◌∷◌, ◌++◌, ◌⊎◌, ◌≡◌}
use Rattle.text.specs.Text.{ascii}
use Rattle.printed_answer.specs.WellFormed.{Remark, remark_texts, Lines}

-- "Values stand only after SATISFIABLE": here only c lines stand beside the s line.
pub record SaysNoModel (text : List ℕ) : Type 0 where
  pub before : List Remark
  pub verdict : List ℕ
  pub behind : List Remark
  pub says : (verdict ≡ ascii "s UNSATISFIABLE") ⊎ (verdict ≡ ascii "s UNKNOWN")
  pub written : Lines (remark_texts before ++ (verdict ∷ remark_texts behind)) text
